-- Rows in any order, put one after the other.
use Rattle.std.specs.Prelude.{◌≡◌, ℕ, ◌<◌, ◌≤◌, Bool, true, cond, List, [], ◌∷◌, length, take, Option, Some, None, ⊤, ◌⊎◌}
use Rattle.std.specs.List.{AllByRecursion}
use Rattle.std.specs.List.Sorted.{IsPermutation, IsStableBy}
use Rattle.std.specs.declared.cmp.Ordering.{Ordering}
use Rattle.std.specs.Ordering.{is_eq, is_lt}
use Rattle.key_order.specs.Order.{Upto}
use Rattle.key_order.specs.Map.{SameValue, IsMap, get}
use Rattle.key_order.specs.Join.{joined, IsJoin}
use Rattle.merkle_tree_theory.specs.Dropped.{UpsertDropsFew}
use Rattle.merkle_tree_theory.specs.State.{State}
use Rattle.merkle_replica.specs.Contents.{Contents}
use Rattle.merkle_replica.specs.Laws.{Laws}

module _ {K V : Type 0} (cmp : K → K → Ordering) where
  -- no key is below one before it
  abbrev pub IsRising : List (K × V) → Type 0
  IsRising [] = ⊤
  IsRising (r ∷ rs) = AllByRecursion (λ s. Upto cmp r.0 s.0) rs × IsRising rs

  -- `sorted` has the rows by key, and those of equal keys in the order of `rows`
  abbrev pub AreInKeyOrder : List (K × V) → List (K × V) → Type 0
  AreInKeyOrder rows sorted = IsPermutation rows sorted × IsRising sorted × IsStableBy (λ x y. is_lt (cmp x.0 y.0)) rows sorted

module _ {K V : Type 0} (cmp : K → K → Ordering) (eq : V → V → Bool) (join : V → V → V) where
  -- the rows put one after the other into the map `before`
  abbrev pub IsPuts : List (K × V) → List (K × V) → List (K × V) → Type 0
  IsPuts before [] after = IsJoin cmp eq join before [] after
  IsPuts before (r ∷ rs) after = (mid : List (K × V)) × IsJoin cmp eq join before (r ∷ []) mid × IsPuts mid rs after

  -- the join of the values that the rows have for a key
  abbrev pub join_of_values : List (K × V) → K → Option V
  join_of_values [] k = None
  join_of_values (r ∷ rs) k = joined join (cond (is_eq (cmp r.0 k)) (Some r.1) None) (join_of_values rs k)

  -- `after` is a map that has for each key the join of its value before and of all values that the rows have for it
  pub record HasGathered (before rows after : List (K × V)) : Type 0 where
    pub ascending : IsMap cmp after
    pub values : (k : K) → SameValue (λ x y. eq x y ≡ true) (get cmp after k) (joined join (get cmp before k) (join_of_values rows k))

  -- the first `done` of the rows are join_of_values, and not all
  pub record IsGatheredTo (before rows after : List (K × V)) (done : ℕ) : Type 0 where
    pub not_all : done < length rows
    pub gathers : HasGathered before (take done rows) after
    pub unchanged : done ≡ 0 → after ≡ before

  -- no row is put, and there was one; or the first `done` of the rows in key order are, at least one and not all
  abbrev pub IsPutsTo : List (K × V) → List (K × V) → ℕ → List (K × V) → Type 0
  IsPutsTo before rows done after =
      ((done ≡ 0) × (1 ≤ length rows) × (after ≡ before))
      ⊎ ((sorted : List (K × V)) × AreInKeyOrder cmp rows sorted × (1 ≤ done) × (done < length rows) × IsPuts before (take done sorted) after)

-- a row was put into the replica
abbrev pub HasPut : {K V H : Type 0} → Laws K V H → Contents K V H → K × V → Contents K V H → Type 0
HasPut laws before row after = IsJoin laws.cmp laws.eq laws.join before.rows (row ∷ []) after.rows

-- a put of the key drops few digests of the tree
abbrev pub PutDropsFew : {K H : Type 0} → (H → K → List ℕ) → K → State K H → State K H → Type 0
PutDropsFew digest_of key old new = UpsertDropsFew (digest_of old.hasher key) old new
