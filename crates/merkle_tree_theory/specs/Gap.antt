-- Gaps between keys: all keys above one key and below another, where there are these.
use Rattle.std.specs.Prelude.{Bool, true, ◌&&◌, List, Option, Some, None, ⊤}
use Rattle.std.specs.declared.cmp.Ordering.{Ordering}
use Rattle.key_order.specs.Order.{Below, Same, below}
use Rattle.key_order.specs.Map.{rows_at}

-- the keys above `after` and below `before`; where one of them is absent, the gap has no bound on that side
pub record Gap (K : Type 0) : Type 0 where
  pub after : Option K
  pub before : Option K

-- the gap that has all keys
abbrev pub everywhere : {K : Type 0} → Gap K
everywhere = record { after = None; before = None }

-- the parts of a gap before a key and after it
abbrev pub part_before : {K : Type 0} → Gap K → K → Gap K
part_before g k = record { after = g.after; before = Some k }

abbrev pub part_behind : {K : Type 0} → Gap K → K → Gap K
part_behind g k = record { after = Some k; before = g.before }

module _ {K : Type 0} (cmp : K → K → Ordering) where
  -- the key is above the bound, where there is one
  abbrev pub IsAfter : Option K → K → Type 0
  IsAfter None k = ⊤
  IsAfter (Some a) k = Below cmp a k

  -- the key is below the bound, where there is one
  abbrev pub IsBefore : Option K → K → Type 0
  IsBefore None k = ⊤
  IsBefore (Some b) k = Below cmp k b

  -- the key is in the gap
  abbrev pub IsInGap : K → Gap K → Type 0
  IsInGap k g = IsAfter g.after k × IsBefore g.before k

  -- both absent, or both there and equal
  abbrev pub SameBound : Option K → Option K → Type 0
  SameBound None None = ⊤
  SameBound None (Some b) = ⊥
  SameBound (Some a) None = ⊥
  SameBound (Some a) (Some b) = Same cmp a b

  -- both bounds are equal
  abbrev pub SameGap : Gap K → Gap K → Type 0
  SameGap g h = SameBound g.after h.after × SameBound g.before h.before

  -- the test of `IsAfter`
  abbrev pub is_after : Option K → K → Bool
  is_after None k = true
  is_after (Some a) k = below cmp a k

  -- the test of `IsBefore`
  abbrev pub is_before : Option K → K → Bool
  is_before None k = true
  is_before (Some b) k = below cmp k b

  -- the test of `IsInGap`
  abbrev pub is_in_gap : K → Gap K → Bool
  is_in_gap k g = is_after g.after k && is_before g.before k

-- the pairs whose key is in the gap
abbrev pub pairs_within : {K X : Type 0} → (K → K → Ordering) → Gap K → List (K × X) → List (K × X)
pairs_within cmp g = rows_at (λ k. is_in_gap cmp k g)
