use Rattle.std.proofs.Common.{◌+◌, ◌-◌, ◌≤◌}
use Rattle.merkle_tree_theory.specs.Page.{level}
use Rattle.merkle_replica.specs.Descent.{gaps_of, keys_of}
use Rattle.merkle_replica.proofs.RoundStates.{AreCounted, IsUnderway}
use Rattle.merkle_replica.proofs.SideLaws.{laws_of}
use Rattle.merkle_replica.proofs.catch_up.lacked_keys.Given as goal

-- each round comes to lower levels, and opens pages that are missing
abbrev pub invariant-rounds : goal.invariant-rounds
invariant-rounds g l = record {
  few : l.rounds ≤ level l.peer.tree.root + 1;
  underway : IsUnderway (laws_of g.K.Ord.cmp g.K.KeyBytes.bytes_of g.H.Hasher-1.digest_of g.V.PartialEq.eq g.V.Join.join_of g.H.Hasher-2.digest_of) l.local
      l.peer (level l.peer.tree.root + 1 - l.rounds) (gaps_of l.gaps.items) (keys_of l.keys.items);
  counted : AreCounted (laws_of g.K.Ord.cmp g.K.KeyBytes.bytes_of g.H.Hasher-1.digest_of g.V.PartialEq.eq g.V.Join.join_of g.H.Hasher-2.digest_of) l.local
      l.peer l.opened l.compared (gaps_of l.gaps.items);
}

abbrev pub decreases-rounds : goal.decreases-rounds
decreases-rounds g l = level l.peer.tree.root + 1 - l.rounds
