use Rattle.merkle_replica.specs.Contents.{side}
use Rattle.merkle_replica.specs.Descent.{gaps_of}
use Rattle.merkle_audit.proofs.PagesOverGaps.{AreCovered}
use Rattle.merkle_audit.proofs.nodes.all_are_faithful.Given as goal

-- each page is looked at, or is in one that fills one of the gaps
abbrev pub invariant-levels : goal.invariant-levels
invariant-levels g l = AreCovered g.H.RowHasher.laws (side l.local) l.peer.tree (gaps_of l.gaps.items)
