use Rattle.std.proofs.Common.{refl, inl, codes}
use Rattle.mst_pair.specs.Replies.{reply_line}
use Rattle.mst_pair.proofs.engine.Engine.answer_put.Goals as goal

pub returns-in-Ok-clause-bytes : goal.returns-in-Ok-clause-bytes
returns-in-Ok-clause-bytes g c = (reply_line (codes "ok"), inl (refl, c.in-Ok.ensures.ok, c.join_row.ensures.other, c.join_row.ensures.format), c.write_all.ensures.bytes)
