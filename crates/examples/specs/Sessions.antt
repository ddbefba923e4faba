-- Catch-ups by messages, and copies of a replica.
use Rattle.std.specs.Prelude.{◌≡◌, ℕ, ◌≤◌, true, List, length, sum_by}
use Rattle.key_order.specs.Join.{IsJoin}
use Rattle.key_order.specs.Map.{IsMap, SameMap}
use Rattle.merkle_bytes.specs.Runs.{entries_bytes, row_behind, row_key}
use Rattle.merkle_replica.specs.Contents.{Contents, Side, side}
use Rattle.merkle_replica.specs.Faithful.{IsCollisionFree}
use Rattle.merkle_replica.specs.Laws.{Laws}
use Rattle.merkle_wire.specs.Sessions.{NoNodesCollide}
use Rattle.merkle_wire.specs.Underway.{Underway}
use Rattle.merkle_wire.specs.SessionLaws.{AreExchangesTo, IsBegun}

module _ {K V H : Type 0} (laws : Laws K V H) where
  -- where no streams of pages, no values and no nodes of pages of the peer collide in two replicas, the one has the join of both afterwards
  abbrev pub JoinsWhereNothingCollides : ℕ → Contents K V H → Contents K V H → Contents K V H → Type 0
  JoinsWhereNothingCollides n replica peer after = IsCollisionFree laws n (side replica) (side peer) → NoNodesCollide laws (side replica) (side peer)
      → IsJoin laws.cmp laws.eq laws.join replica.rows peer.rows after.rows

  -- of a session with a peer, whichever replica catches up and whatever carries the messages, no more replies than this ask on
  abbrev pub AreMostReplies : ℕ → (K → List ℕ) → (V → List ℕ) → Contents K V H → ℕ → Type 0
  AreMostReplies n encoding values peer most = (local : Side K V H) (begun last : Underway K V) (more : List (Underway K V))
      → IsMap laws.cmp local.rows → IsBegun begun → AreExchangesTo laws n encoding values local (side peer) begun more last → length more ≤ most

  -- two replicas with equal rows, place by place
  abbrev pub HaveOneMap : Contents K V H → Contents K V H → Type 0
  HaveOneMap a b = SameMap laws.cmp (λ v w. laws.eq v w ≡ true) a.rows b.rows

-- the keys of rows that stand in this many bytes after a key have at most this many bytes
abbrev pub AreMostKeyBytes : {K V : Type 0} → (K → List ℕ) → (V → List ℕ) → ℕ → ℕ → Type 0
AreMostKeyBytes {K} {V} encoding values bytes most = (last : List ℕ) (rows : List (K × V))
    → length (entries_bytes (row_behind encoding values) (row_key encoding) last rows) ≤ bytes → sum_by (λ row. length (encoding row.0)) rows ≤ most
