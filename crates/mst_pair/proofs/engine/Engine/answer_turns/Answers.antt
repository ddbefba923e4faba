use Rattle.std.proofs.Common.{refl, inl, map, subst, ◌∙◌}
use Rattle.std.proofs.lemmas.List.{length-map}
use Rattle.merkle_replica.specs.Answers.{answer_of}
use Rattle.mst_pair.specs.Devices.{WritesBytes}
use Rattle.mst_pair.specs.Replies.{turns_reply}
use Rattle.mst_pair.proofs.Replies.{turns_shown}
use Rattle.mst_pair.proofs.engine.Engine.answer_turns.Goals as goal

pub returns-in-Ok-clause-bytes : goal.returns-in-Ok-clause-bytes
returns-in-Ok-clause-bytes g c = (
  turns_reply (map answer_of c.in-Ok.all.items),
  (c.take_turns.ensures.format, inl (map answer_of c.in-Ok.all.items, length-map c.in-Ok.all.items answer_of ∙ c.in-Ok.ensures.length, c.in-Ok.ensures.ok, refl)),
  subst (WritesBytes _ _ _) (turns_shown c.deref.result.now c.in-Ok.all.items c.deref.ensures.value) c.write_list.ensures.bytes,
)
