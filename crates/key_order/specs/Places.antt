-- Where a key is among rows.
use Rattle.std.specs.Prelude.{◌≡◌, ◌<◌, ◌≤◌, ℕ, List, length, Option, MatchOption, Some, None}
use denote.Ref.{Bor}
use Rattle.std.specs.List.{HoldsAt, AllWithin}
use Rattle.std.specs.declared.cmp.Ordering.{Ordering}
use Rattle.std.specs.declared.cmp.Ordering.TheVariants.{Less, Equal, Greater}
use Rattle.key_order.specs.Order.{Same}
use Rattle.key_order.specs.Map.{get}

module _ {K V : Type 0} (cmp : K → K → Ordering) (key : K) (rows : List (K × V)) where
  -- the row at this place has the key
  pub record IsPlaceOf (at : ℕ) : Type 0 where
    pub in_range : at < length rows
    pub here : HoldsAt (λ row. cmp row.0 key ≡ Equal) rows at

  -- the key would go here: lower keys before it, higher ones from it on
  pub record IsGapFor (at : ℕ) : Type 0 where
    pub in_range : at ≤ length rows
    pub lower : AllWithin (λ row. cmp row.0 key ≡ Less) rows 0 at
    pub higher : AllWithin (λ row. cmp row.0 key ≡ Greater) rows at (length rows)

  -- the row that has the key, where there is one
  abbrev pub FindsRow : Option (Bor (K × V)) → Type 0
  FindsRow found = MatchOption found (get cmp rows key ≡ None) (λ row. Same cmp row.now.0 key × (get cmp rows key ≡ Some row.now.1))
