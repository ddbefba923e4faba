use Rattle.std.proofs.Common.{take}
use Rattle.merkle_replica.specs.CatchUp.{AreCopies}
use Rattle.merkle_replica.specs.Descent.{keys_of}
use Rattle.merkle_replica.proofs.replica.Replica.copies_at.Given as goal

-- the copies at the keys so far
abbrev pub invariant-keys : goal.invariant-keys
invariant-keys g l = AreCopies g.K.Ord.cmp g.V.PartialEq.eq l.self.rows (keys_of (take l.key-index l.keys)) l.copies.items
