use Rattle.c_sides.proofs.Agreeing.{reply_alike}
use Rattle.c_sides.proofs.laws.rows_that_agree_have_the_same_reply.Goals as goal

pub returns : goal.returns
returns c = reply_alike
