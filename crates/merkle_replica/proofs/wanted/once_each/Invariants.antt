use Rattle.std.proofs.Common.{take}
use Rattle.merkle_replica.specs.CatchUp.{IsOnceEach}
use Rattle.merkle_replica.specs.Descent.{keys_of}
use Rattle.merkle_replica.proofs.wanted.once_each.Given as goal

-- the keys so far are there once each
abbrev pub invariant-keys : goal.invariant-keys
invariant-keys g l = IsOnceEach g.K.Ord.cmp (keys_of (take l.i l.sorted)) (keys_of l.once.items)
