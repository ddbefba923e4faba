-- How many of some rows are in gaps: as many as keys of theirs that ascend there, at least.
use Rattle.std.proofs.Common.{◌≡◌, ℕ, ◌+◌, ◌≤◌, List, [], ◌∷◌, length, map, Option, refl, inl, inr, arith}
use Rattle.std.specs.List.{AllByRecursion}
use Rattle.std.specs.Cmp.{IsTotalOrder, tied_back}
use Rattle.key_order.specs.Map.{last_key}
use Rattle.key_order.specs.Order.{AnyByRecursion, Same}
use Rattle.merkle_replica.specs.Contents.{Side}
use Rattle.merkle_replica.specs.Laws.{Laws}
use Rattle.merkle_tree_theory.specs.Gap.{Gap, SameGap, part_behind}
use Rattle.merkle_wire.specs.Coming.{AscendIn}
use Rattle.merkle_wire.specs.Sessions.{IsKeyOf}
use Rattle.merkle_wire.specs.Taking.{AreNewGaps}
use Rattle.merkle_wire.proofs.StepCovers.{is_key}
use Rattle.merkle_wire.proofs.Times.{ascend_and_behind, ascend_times, in-alike, new_gaps_times, total-less, total-plus, total-swap}
use Rattle.merkle_wire.proofs.Steady.{count_in, times_at, times_in, total}

module _ {K V H : Type 0} (laws : Laws K V H) (o : IsTotalOrder laws.cmp) (local : Side K V H) (rows : List (K × V)) where
  abbrev pub In : Gap K → ℕ
  In = count_in laws.cmp rows

  abbrev pub AreKeys : List K → Type 0
  AreKeys = AllByRecursion (IsKeyOf laws.cmp rows)

  pub rows_alike : (g h : Gap K) → SameGap laws.cmp g h → In g ≤ In h
  rows_alike g h s = total-less (λ (r : K × V). times_in laws.cmp r.0 g) (λ r. times_in laws.cmp r.0 h) (λ r. omega (arith, in-alike laws.cmp o r.0 g h s)) rows

  at_row : (rs : List (K × V)) (j : K) → AnyByRecursion (λ r. Same laws.cmp j r.0) rs → 1 ≤ total (λ r. times_at laws.cmp r.0 j) rs
  at_row [] j a = absurd a
  at_row (r ∷ rs) j (inl s) = let e : times_at laws.cmp r.0 j ≡ 1 = rw (tied_back o j r.0 s) refl in omega (arith, e)
  at_row (r ∷ rs) j (inr a) = omega (arith, at_row rs j a)

  keys_counted : (ks : List K) → AreKeys ks → length ks ≤ total (λ j. total (λ r. times_at laws.cmp r.0 j) rows) ks
  keys_counted [] a = omega arith
  keys_counted (k ∷ ks) ((v, there), a) = omega (arith, at_row rows k (is_key laws.cmp o rows k v there), keys_counted ks a)

  -- keys of rows that ascend in a gap are as many as its rows, at most
  pub ascending_counted : (g : Gap K) (ks : List K) → AscendIn laws.cmp g ks → AreKeys ks → length ks ≤ In g
  ascending_counted g ks up a =
      omega (
        arith,
        keys_counted ks a,
        total-swap (λ (r : K × V) j. times_at laws.cmp r.0 j) rows ks,
        total-less (λ (r : K × V). total (times_at laws.cmp r.0) ks) (λ r. times_in laws.cmp r.0 g) (λ r. ascend_times laws.cmp o r.0 g ks up) rows,
      )

  -- with the rows in the gaps between them, or after the last
  pub parts_counted : (g : Gap K) (ks : List K) (pages : List (Option (List ℕ))) (new : List (Gap K)) → AreNewGaps laws local g ks pages new → AscendIn laws.cmp g ks
      → AreKeys ks → total In new + length ks ≤ In g
  parts_counted g ks pages new is up a =
      omega (
        arith,
        keys_counted ks a,
        total-swap (λ (r : K × V) j. times_at laws.cmp r.0 j) rows ks,
        total-swap (λ (r : K × V) h. times_in laws.cmp r.0 h) rows new,
        total-plus (λ (r : K × V). total (times_in laws.cmp r.0) new) (λ r. total (times_at laws.cmp r.0) ks) rows,
        total-less (λ (r : K × V). total (times_in laws.cmp r.0) new + total (times_at laws.cmp r.0) ks) (λ r. times_in laws.cmp r.0 g)
            (λ r. new_gaps_times laws o local r.0 g ks pages new is up) rows,
      )

  pub behind_counted : (g : Gap K) (row : K × V) (more : List (K × V)) → AscendIn laws.cmp g (map (λ r. r.0) (row ∷ more)) → AreKeys (map (λ r. r.0) (row ∷ more))
      → 1 + In (part_behind g (last_key row.0 more)) ≤ In g
  behind_counted g row more up a =
      let ks = map (λ (r : K × V). r.0) (row ∷ more) in
      let behind = part_behind g (last_key row.0 more) in
      omega (
        arith,
        keys_counted ks a,
        total-swap (λ (r : K × V) j. times_at laws.cmp r.0 j) rows ks,
        total-plus (λ (r : K × V). total (times_at laws.cmp r.0) ks) (λ r. times_in laws.cmp r.0 behind) rows,
        total-less (λ (r : K × V). total (times_at laws.cmp r.0) ks + times_in laws.cmp r.0 behind) (λ r. times_in laws.cmp r.0 g) (λ r. ascend_and_behind laws.cmp o r.0 g row more up) rows,
      )
