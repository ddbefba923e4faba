-- The steps of a pull, each on its own side.
use Rattle.std.specs.Prelude.{◌≡◌, ℕ, suc, ◌<◌, Bool, List, [], ◌∷◌, length, take, slice_index_or, Option, MatchOption}
use denote.Ref.{Bor}
use Rattle.std.specs.List.{AllByRecursion}
use Rattle.std.specs.declared.cmp.Ordering.{Ordering}
use Rattle.key_order.specs.Interval.{Span, IsApart, IsOrdered}
use Rattle.key_order.specs.Map.{IsMap, rows_in}
use Rattle.key_order.specs.Order.{below}
use Rattle.key_order.specs.Join.{IsJoin}
use Rattle.merkle_diff.specs.Entry.{Entry}
use Rattle.merkle_diff.specs.Difference.{IsDifference, SparesAgreed, IsByWalk}
use Rattle.merkle_diff.specs.TreeShape.{IsTreeShaped}
use Rattle.merkle_replica.specs.Laws.{Laws}
use Rattle.merkle_replica.specs.Answers.{spans_of}
use Rattle.merkle_replica.specs.Contents.{Contents, Side, side}
use Rattle.merkle_replica.specs.Pulls.{HasRanges}
use Rattle.merkle_replica.specs.declared.steps.JoinRefused.{JoinRefused}
use Rattle.merkle_replica.specs.declared.steps.JoinRefused.TheVariants.{NotAscending, Memory}

module _ {K : Type 0} (cmp : K → K → Ordering) where
  -- each has its bounds in order, they ascend, and no two meet
  abbrev pub AreRanges : List (Span K) → Type 0
  AreRanges ss = IsApart cmp ss × AllByRecursion (IsOrdered cmp) ss

  -- whether the range at this place begins after the end of the one before it, where there is one
  abbrev pub BeginsBehind : List (K × K) → ℕ → Bool → Type 0
  BeginsBehind ranges i behind = (j : ℕ) (d : K × K) → suc j ≡ i → below cmp (slice_index_or ranges j d).1 (slice_index_or ranges i d).0 ≡ behind

  -- the first of the rows in the ranges, where there is one, and rows and ranges that have the others
  abbrev pub FindsFirst : {V : Type 0} → List (K × V) → List (K × K) → Option (Bor (K × V) × Bor (List (K × V)) × Bor (List (K × K))) → Type 0
  FindsFirst rows ranges found =
      MatchOption found (rows_in cmp (spans_of ranges) rows ≡ [])
      (λ first. rows_in cmp (spans_of ranges) rows ≡ first.0.now ∷ rows_in cmp (spans_of first.2.now) first.1.now)

module _ {K V H : Type 0} (laws : Laws K V H) where
  -- `found` are ranges that local may ask of a peer that sent the list `theirs`
  pub record IsAnswerTo (local : Side K V H) (theirs : List (Entry K (List ℕ))) (found : List (Span K)) : Type 0 where
    pub local_list : List (Entry K (List ℕ))
    pub of_local : HasRanges laws local local_list
    pub interval_laws : IsDifference laws.cmp local_list theirs found
    pub laws_on_trees : IsTreeShaped laws.cmp theirs → SparesAgreed laws.cmp local_list theirs found
    pub exact_walk : IsByWalk laws.cmp local_list theirs found

  -- local may ask a peer that sent these page ranges for these ranges
  abbrev pub MayAskOf : Contents K V H → List (Entry K (List ℕ)) → List (K × K) → Type 0
  MayAskOf local theirs ranges = IsAnswerTo (side local) theirs (spans_of ranges)

module _ {K V : Type 0} (cmp : K → K → Ordering) (eq : V → V → Bool) (join : V → V → V) where
  -- rows that don't ascend are handed back, or memory ran out and the first ones are joined
  abbrev pub IsJoinRefused : List (K × V) → List (K × V) → JoinRefused K V → List (K × V) → Type 0
  IsJoinRefused before rows (NotAscending handed) after = (handed.items ≡ rows) × ¬ (IsMap cmp rows) × (after ≡ before)
  IsJoinRefused before rows (Memory done) after = IsMap cmp rows × (done < length rows) × IsJoin cmp eq join before (take done rows) after × (done ≡ 0 → after ≡ before)
