use Rattle.std.proofs.Common.{take}
use Rattle.merkle_diff.specs.PageRange.{entries}
use Rattle.merkle_audit.specs.Pages.{TellMaps}
use Rattle.merkle_audit.proofs.pages.tell_maps.Given as goal

-- the first pages tell maps with all of theirs
abbrev pub invariant-pages : goal.invariant-pages
invariant-pages g l = TellMaps g.K.Ord.cmp g.H.Hasher-2.digest_of l.a l.b (entries (take l.range-index l.ours)) (entries l.theirs)
