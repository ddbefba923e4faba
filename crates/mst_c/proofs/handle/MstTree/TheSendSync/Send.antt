use denote.Param.Send.{IsSend}
use Rattle.mst_c.specs.contracts.handle.MstTree.{the_row}
use Rattle.mst_c.proofs.Goes.{handle_goes}

pub send : IsSend the_row
send = handle_goes
