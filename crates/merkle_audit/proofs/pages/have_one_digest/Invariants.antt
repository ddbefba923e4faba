use Rattle.std.proofs.Common.{take}
use Rattle.merkle_audit.proofs.SoFar.{AllAlike}
use Rattle.merkle_audit.proofs.pages.have_one_digest.Given as goal

-- the first rows are alike
abbrev pub invariant-rows : goal.invariant-rows
invariant-rows g l = AllAlike g.K.Ord.cmp (g.H.Hasher-2.digest_of l.a.tree.hasher) (g.H.Hasher-2.digest_of l.b.tree.hasher) (take l.i l.ours) (take l.i l.theirs)
