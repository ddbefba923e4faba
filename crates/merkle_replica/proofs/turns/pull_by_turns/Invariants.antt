use Rattle.std.proofs.Common.{◌≡◌, ◌≤◌, length, vec_capacity, vec_len}
use Rattle.merkle_replica.proofs.SideLaws.{laws_of}
use Rattle.merkle_replica.proofs.TurnLoop.{Goes}
use Rattle.merkle_replica.proofs.turns.pull_by_turns.Given as goal

-- the pulls so far are by turns, and there is room for the answers of the rest
abbrev pub invariant-turning : goal.invariant-turning
invariant-turning g l = record {
  goes : Goes (laws_of g.K.Ord.cmp g.K.KeyBytes.bytes_of g.H.Hasher-1.digest_of g.V.PartialEq.eq g.V.Join.join_of g.H.Hasher-2.digest_of) l.initial.a l.initial.b l.all.items l.a_pulls l.a l.b;
  taken : length l.all.items ≡ l._turn;
  counted : vec_len l.all ≡ l._turn;
  room : l.n ≤ vec_capacity l.all;
}
