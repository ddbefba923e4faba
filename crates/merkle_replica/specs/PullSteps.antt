-- The steps of a pull, with messages between them that were read as what was sent, up to equal keys and equal values.
use Rattle.std.specs.Prelude.{◌≡◌, ℕ, true, List, length}
use Rattle.key_order.specs.Interval.{Span}
use Rattle.key_order.specs.Map.{IsMap, SameMap, rows_in}
use Rattle.key_order.specs.Join.{IsJoin}
use Rattle.merkle_diff.specs.Entry.{Entry}
use Rattle.merkle_diff.specs.Merge.{SameSpans}
use Rattle.merkle_diff.specs.SameEntries.{SameEntries}
use Rattle.merkle_replica.specs.Laws.{Laws}
use Rattle.merkle_replica.specs.Contents.{Side}
use Rattle.merkle_replica.specs.Pulls.{Answer, HasRanges, IsAnswerFor, IsPull}
use Rattle.merkle_replica.specs.Steps.{IsAnswerTo}

module _ {K V H : Type 0} (laws : Laws K V H) where
  -- local asked the peer for the ranges `found`, and joined the rows that came back, which left the rows `after`
  pub record ArePullSteps (local peer : Side K V H) (found : List (Span K)) (after : List (K × V)) : Type 0 where
    -- the page ranges of the peer, and those that came
    pub theirs : List (Entry K (List ℕ))
    pub came : List (Entry K (List ℕ))
    -- the ranges that came to the peer, and the rows that came back
    pub asked : List (Span K)
    pub rows : List (K × V)
    pub of_peer : HasRanges laws peer theirs
    pub ranges_came : SameEntries laws.cmp theirs came
    pub answered : IsAnswerTo laws local came found
    pub asked_came : SameSpans laws.cmp found asked
    pub rows_came : SameMap laws.cmp (λ x y. laws.eq x y ≡ true) (rows_in laws.cmp asked peer.rows) rows
    pub joins : IsJoin laws.cmp laws.eq laws.join local.rows rows after

  -- ranges that answer the list of the peer's tree, up to equal keys, are those of a pull
  abbrev pub AnswersAreThoseOfAPull : Type 0
  AnswersAreThoseOfAPull =
      (local peer : Side K V H) (theirs came : List (Entry K (List ℕ))) (found : List (Span K)) → IsMap laws.cmp peer.rows
      → HasRanges laws peer theirs → SameEntries laws.cmp theirs came → IsAnswerTo laws local came found → IsAnswerFor laws local peer found

  -- the steps are a pull
  abbrev pub StepsAreAPull : Type 0
  StepsAreAPull =
      (local peer : Side K V H) (found : List (Span K)) (after : List (K × V)) → IsMap laws.cmp peer.rows → ArePullSteps local peer found after
      → IsPull laws local peer (record { ranges = found; joined = length (rows_in laws.cmp found peer.rows) }) after

  -- any two answers for the same two sides have the same ranges
  abbrev pub PullsHaveOneAnswer : Type 0
  PullsHaveOneAnswer = (local peer : Side K V H) (xs ys : List (Span K)) → IsAnswerFor laws local peer xs → IsAnswerFor laws local peer ys → SameSpans laws.cmp xs ys

  -- any two pulls of the same two sides join as many rows, and leave equal ones
  abbrev pub PullsLeaveOneMap : Type 0
  PullsLeaveOneMap =
      (local peer : Side K V H) (x y : Answer K) (after then : List (K × V)) → IsPull laws local peer x after → IsPull laws local peer y then
      → (x.joined ≡ y.joined) × SameMap laws.cmp (λ v w. laws.eq v w ≡ true) after then
