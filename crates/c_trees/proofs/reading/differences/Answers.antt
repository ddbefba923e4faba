use Rattle.std.proofs.Common.{ap, ◌∙◌}
use Rattle.merkle_diff.specs.DiffRange.{spans}
use Rattle.c_trees.specs.Wire.{key_ranges_bytes}
use Rattle.c_trees.proofs.reading.differences.Goals as goal

pub returns-clause-answer : goal.returns-clause-answer
returns-clause-answer c = (
  c.in_ok-local.local,
  c.in_ok-peer.peer,
  spans c.in_ok-found.found.items,
  c.in_ok-local.ensures.ranges,
  c.in_ok-peer.ensures.ranges,
  c.in_ok-found.ensures.answer,
  c.in_ok-encode_found.ensures ∙ ap (λ ranges. key_ranges_bytes (spans ranges)) c.deref.ensures.value,
)
