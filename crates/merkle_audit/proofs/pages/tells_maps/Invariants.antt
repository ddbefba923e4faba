use Rattle.std.proofs.Common.{take}
use Rattle.std.specs.List.{AllByRecursion}
use Rattle.merkle_diff.specs.PageRange.{entry, entries}
use Rattle.merkle_audit.specs.Pages.{TellsMap}
use Rattle.merkle_audit.proofs.pages.tells_maps.Given as goal

-- the first pages tell maps with this one
abbrev pub invariant-others : goal.invariant-others
invariant-others g l =
    AllByRecursion (TellsMap g.K.Ord.cmp g.H.Hasher-2.digest_of l.a l.b (entry l.range)) (entries (take l.other-index l.theirs))
