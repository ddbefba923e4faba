use Rattle.std.proofs.Common.{take}
use Rattle.merkle_audit.specs.Nodes.{AreLookedAt}
use Rattle.merkle_replica.specs.Contents.{side}
use Rattle.merkle_replica.specs.Descent.{gaps_of}
use Rattle.merkle_audit.proofs.nodes.look_at.Given as goal

-- the pages over the first gaps are looked at, and the gaps of those below are added
abbrev pub invariant-gaps : goal.invariant-gaps
invariant-gaps g l = AreLookedAt g.H.RowHasher.laws (side l.local) l.peer.tree (gaps_of (take l.gap-index l.gaps)) (gaps_of l.below.items)
