-- An edit at the place of a key among rows.
use Rattle.std.proofs.Common.{◌≡◌, ℕ, Bool, true, false, List, [], ◌∷◌, length, get_or, set as list_set, Some, Result, Ok, Err, sym, ◌∙◌, ap, subst}
use Rattle.std.specs.List.{insert}
use Rattle.std.specs.Result.{is_err, is_ok, OnOk, OnErr}
use Rattle.std.specs.Cmp.{IsTotalOrder, IsEquivalence}
use Rattle.std.specs.declared.cmp.Ordering.{Ordering}
use Rattle.key_order.specs.Map.{IsMap, set}
use Rattle.key_order.specs.Join.{IsJoining, IsJoin, joined}
use Rattle.key_order.specs.Places.{IsPlaceOf, IsGapFor}
use Rattle.key_order.proofs.Joins.{put_joins}
use Rattle.key_order.proofs.Places.{get_at_place, set_at_place, get_in_gap, set_in_gap}
use Rattle.key_order.proofs.Values.{Eq}

module _ {K V : Type 0} (cmp : K → K → Ordering) (o : IsTotalOrder cmp) where
  -- another value at the key's place
  pub set_there : (rows : List (K × V)) (at : ℕ) (row : K × V) (key : K) (v : V) → IsMap cmp rows → IsPlaceOf cmp key rows at → row ≡ get_or rows at row
      → list_set rows at (row.0, v) ≡ set cmp rows key v
  set_there rows at row key v up place read =
      ap (λ (r : K × V). list_set rows at (r.0, v)) read ∙ sym (set_at_place cmp o rows at key v row up place.in_range (place.here row))

  -- a new row in the key's gap
  pub set_new : (rows : List (K × V)) (at : ℕ) (key : K) (v : V) → IsGapFor cmp key rows at → insert rows at (key, v) ≡ set cmp rows key v
  set_new rows at key v gap = sym (set_in_gap cmp o rows at key v gap.in_range gap.lower gap.higher)

  module _ (eq : V → V → Bool) (e : IsEquivalence eq) (join : V → V → V) (j : IsJoining eq join) where
    -- the join at the key's place joins the row
    pub joins_there : (rows : List (K × V)) (at : ℕ) (row : K × V) (key : K) (v stored : V) → IsMap cmp rows → IsPlaceOf cmp key rows at → row ≡ get_or rows at row → eq stored (join row.1 v) ≡ true
        → IsJoin cmp eq join rows ((key, v) ∷ []) (set cmp rows key stored)
    joins_there rows at row key v stored up place read is =
        put_joins cmp o eq e join j rows key v stored up
        (subst (λ x. Eq eq e join j (Some stored) (joined join x (Some v))) (sym (get_at_place cmp o rows at key row up place.in_range (place.here row) ∙ ap (λ (r : K × V). Some r.1) (sym read))) is)

    -- a new row in the key's gap joins it
    pub joins_new : (rows : List (K × V)) (at : ℕ) (key : K) (v : V) → IsMap cmp rows → IsGapFor cmp key rows at → IsJoin cmp eq join rows ((key, v) ∷ []) (set cmp rows key v)
    joins_new rows at key v up gap =
        put_joins cmp o eq e join j rows key v v up
        (subst (λ x. Eq eq e join j (Some v) (joined join x (Some v))) (sym (get_in_gap cmp o rows at key gap.in_range gap.lower gap.higher)) (e.refl v))

-- what holds where a result is no error
pub went : {T E P : Type 0} (r : Result T E) → is_err r ≡ false → OnOk r P → P
went (Ok x) n p = p
went (Err x) n p = cc

-- the same by the other test
pub went_well : {T E P : Type 0} (r : Result T E) → is_ok r ≡ true → OnOk r P → P
went_well (Ok x) n p = p
went_well (Err x) n p = cc

-- and where it is one
pub refused : {T E P : Type 0} (r : Result T E) → is_err r ≡ true → OnErr r P → P
refused (Ok x) n p = cc
refused (Err x) n p = p
