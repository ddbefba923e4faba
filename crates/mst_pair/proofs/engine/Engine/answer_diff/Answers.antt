use Rattle.std.proofs.Common.{refl, inl, subst}
use Rattle.merkle_replica.specs.Answers.{spans_of}
use Rattle.mst_pair.specs.Devices.{WritesBytes}
use Rattle.mst_pair.specs.Replies.{ranges_text}
use Rattle.mst_pair.proofs.Replies.{ranges_shown}
use Rattle.mst_pair.proofs.engine.Engine.answer_diff.Goals as goal

pub returns-in-Ok-clause-bytes : goal.returns-in-Ok-clause-bytes
returns-in-Ok-clause-bytes g c = (
  ranges_text (spans_of c.in-Ok.ranges.items),
  inl (spans_of c.in-Ok.ranges.items, c.in-Ok.ensures.ranges, refl, c.ranges_to_ask.ensures.same),
  subst (WritesBytes _ _ _) (ranges_shown c.deref.result.now c.in-Ok.ranges.items c.deref.ensures.value) c.write_list.ensures.bytes,
)
