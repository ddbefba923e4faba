use Rattle.std.proofs.Common.{take}
use Rattle.std.specs.List.{All}
use Rattle.merkle_diff.specs.PageRange.{entry}
use Rattle.examples.specs.Wire.{IsNameRange}
use Rattle.examples.proofs.lists.write_page_ranges.Given as goal

-- the first ones keep to what is read
abbrev pub invariant-digests : goal.invariant-digests
invariant-digests l = All (λ range. IsNameRange (entry range)) (take l.range-index l.ranges)
