-- What pulls and catch-ups leave while digests are faithful, and where nothing collides.
use Rattle.std.specs.Prelude.{◌≡◌, ℕ, ◌≤◌, List, length}
use Rattle.key_order.specs.Interval.{Span}
use Rattle.key_order.specs.Map.{IsMap}
use Rattle.key_order.specs.Join.{IsJoin}
use Rattle.merkle_tree_theory.specs.declared.page_format.PageFormat.TheVariants.{V2}
use Rattle.merkle_replica.specs.Answers.{PartMissesNone, spans_of}
use Rattle.merkle_replica.specs.Contents.{Contents, Side, side, with_rows}
use Rattle.merkle_replica.specs.Faithful.{AllCollisionFree, AllFaithful, AreSetAlike, HasSmallMap, HaveFaithfulPages, IsCollisionFree, IsFaithful, MissesNone, NoStreamsCollide, SpanHolds}
use Rattle.merkle_replica.specs.Laws.{Laws}
use Rattle.merkle_replica.specs.Puts.{HasPut}
use Rattle.merkle_replica.specs.Pulls.{Answer, HoldTheJoin, IsAnswerFor, IsByTurns}
use Rattle.merkle_replica.specs.declared.pull.Pulled.{Pulled}
use Rattle.merkle_replica.specs.declared.pull.PullError.{PullError}

module _ {K V H : Type 0} (laws : Laws K V H) where
  -- while digests are faithful, the rows are the join of both sides' rows
  abbrev pub JoinsWhileFaithful : Side K V H → Side K V H → List (K × V) → Type 0
  JoinsWhileFaithful local peer after = IsFaithful laws local peer → IsJoin laws.cmp laws.eq laws.join local.rows peer.rows after

  -- while digests are faithful before each of two catch-ups, both hold the join
  abbrev pub HoldTheJoinWhileFaithful : Side K V H → Side K V H → List (K × V) → List (K × V) → Type 0
  HoldTheJoinWhileFaithful a b a' b' = IsFaithful laws a b → IsFaithful laws b (with_rows a a') → HoldTheJoin laws a b a' b'

  -- the same of two replicas
  abbrev pub ConvergeWhileFaithful : Contents K V H → Contents K V H → Contents K V H → Contents K V H → Type 0
  ConvergeWhileFaithful a b a' b' = HoldTheJoinWhileFaithful (side a) (side b) a'.rows b'.rows

  -- a row was put into each of two replicas, whose settings stayed, and from there both came to hold the join, while digests are faithful
  abbrev pub ConvergeAfterPuts : Contents K V H → K × V → Contents K V H → K × V → Contents K V H → Contents K V H → Type 0
  ConvergeAfterPuts a a_row b b_row a' b' =
      (one two : Contents K V H)
      × HasPut laws a a_row one × (side one ≡ with_rows (side a) one.rows) × HasPut laws b b_row two × (side two ≡ with_rows (side b) two.rows)
      × ConvergeWhileFaithful one two a' b'

  -- while pages are faithful, and where the peer's keys span the local ones, the ranges miss no key
  abbrev pub CoverWhileFaithful : Side K V H → Side K V H → List (Span K) → Type 0
  CoverWhileFaithful local peer found = HaveFaithfulPages laws local peer → SpanHolds laws.cmp peer.rows local.rows → MissesNone laws local peer found

  -- the same of a pull's ranges
  abbrev pub CoversWhileFaithful : Side K V H → Side K V H → Pulled K → Type 0
  CoversWhileFaithful local peer pulled = CoverWhileFaithful local peer (spans_of pulled.ranges.items)

  -- the same of a pull that stopped after the first rows
  abbrev pub CoverInPartWhileFaithful : Side K V H → Side K V H → PullError K → Type 0
  CoverInPartWhileFaithful local peer fault = HaveFaithfulPages laws local peer → SpanHolds laws.cmp peer.rows local.rows → PartMissesNone laws local peer fault

  module _ (n : ℕ) where
    -- in format 2 two sides that are set alike have faithful digests, where nothing collides
    abbrev pub CollisionFreeIsFaithful : Type 0
    CollisionFreeIsFaithful = (a b : Side K V H) → AreSetAlike laws a b → a.format ≡ V2 → IsCollisionFree laws n a b → IsFaithful laws a b

    -- and so have all sides that are met in pulls by turns
    abbrev pub CollisionFreeTurnsAreFaithful : Type 0
    CollisionFreeTurnsAreFaithful =
        (answers : List (Answer K)) (a b : Side K V H) (a' b' : List (K × V)) (met : List (Side K V H × Side K V H))
        → AreSetAlike laws a b → a.format ≡ V2 → IsByTurns laws answers a b a' b' met → AllCollisionFree laws n met → AllFaithful laws met

    -- in format 2, where no streams collide and the peer's keys span the local ones, the ranges to ask the peer for miss no key
    abbrev pub CollisionFreePullsCover : Type 0
    CollisionFreePullsCover =
        (local peer : Side K V H) (found : List (Span K))
        → AreSetAlike laws local peer → local.format ≡ V2 → IsMap laws.cmp local.rows → IsMap laws.cmp peer.rows → IsAnswerFor laws local peer found
        → HasSmallMap laws n local → HasSmallMap laws n peer → NoStreamsCollide laws local peer
        → SpanHolds laws.cmp peer.rows local.rows → MissesNone laws local peer found

    -- in format 2 four pulls by turns or more, where nothing collides in the sides met, leave both with the join of their maps
    abbrev pub CollisionFreeTurnsConverge : Type 0
    CollisionFreeTurnsConverge =
        (answers : List (Answer K)) (a b : Side K V H) (a' b' : List (K × V)) (met : List (Side K V H × Side K V H))
        → AreSetAlike laws a b → a.format ≡ V2 → IsMap laws.cmp a.rows → IsMap laws.cmp b.rows → IsByTurns laws answers a b a' b' met
        → AllCollisionFree laws n met → 4 ≤ length answers → HoldTheJoin laws a b a' b'
