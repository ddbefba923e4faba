-- Closed intervals of keys, and the keys that a list of them covers.
use Rattle.std.specs.Prelude.{Bool, ◌&&◌, List, [], ◌∷◌, ⊤}
use Rattle.std.specs.List.{AllByRecursion, list_any}
use Rattle.std.specs.declared.cmp.Ordering.{Ordering}
use Rattle.std.specs.Ordering.{is_eq}
use Rattle.key_order.specs.Order.{AnyByRecursion, Upto, Below, Same, upto}

-- a closed interval of keys: both bounds are in it
pub record Span (K : Type 0) : Type 0 where
  pub first : K
  pub last : K

module _ {K : Type 0} (cmp : K → K → Ordering) where
  -- the bounds are in order, so the span has a key
  abbrev pub IsOrdered : Span K → Type 0
  IsOrdered s = Upto cmp s.first s.last

  -- the key k is in s
  abbrev pub IsIn : K → Span K → Type 0
  IsIn k s = Upto cmp s.first k × Upto cmp k s.last

  -- the key k is in s, and equal to neither bound
  abbrev pub IsInside : K → Span K → Type 0
  IsInside k s = Below cmp s.first k × Below cmp k s.last

  -- s and t share a key
  abbrev pub Meets : Span K → Span K → Type 0
  Meets s t = Upto cmp s.first t.last × Upto cmp t.first s.last

  -- s is within t, and t holds s; so equal spans hold each other
  abbrev pub IsWithin : Span K → Span K → Type 0
  IsWithin s t = Upto cmp t.first s.first × Upto cmp s.last t.last

  -- both bounds are equal
  abbrev pub SameSpan : Span K → Span K → Type 0
  SameSpan s t = Same cmp s.first t.first × Same cmp s.last t.last

  -- the key k is in one of the spans
  abbrev pub IsCovered : K → List (Span K) → Type 0
  IsCovered k = AnyByRecursion (IsIn k)

  -- ascending, and no two spans meet
  abbrev pub IsApart : List (Span K) → Type 0
  IsApart [] = ⊤
  IsApart (s ∷ ss) = AllByRecursion (λ t. Below cmp s.last t.first) ss × IsApart ss

  -- the test of `IsIn`
  abbrev pub is_in : K → Span K → Bool
  is_in k s = upto cmp s.first k && upto cmp k s.last

  -- the test of `IsCovered`
  abbrev pub is_covered : K → List (Span K) → Bool
  is_covered k = list_any (is_in k)

  -- the test of `Meets`
  abbrev pub meets : Span K → Span K → Bool
  meets s t = upto cmp s.first t.last && upto cmp t.first s.last

  -- the test of `IsWithin`
  abbrev pub is_within : Span K → Span K → Bool
  is_within s t = upto cmp t.first s.first && upto cmp s.last t.last

  -- the test of `SameSpan`
  abbrev pub same_span : Span K → Span K → Bool
  same_span s t = is_eq (cmp s.first t.first) && is_eq (cmp s.last t.last)
