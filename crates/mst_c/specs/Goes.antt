-- What may go to another thread.
use denote.Param.Send.{IsSend}
use Rattle.mst_c.specs.contracts.handle.MstTree.{the_row}

-- a handle and what it owns say the same on each thread
abbrev pub HandleGoes : Type 0
HandleGoes = IsSend the_row
