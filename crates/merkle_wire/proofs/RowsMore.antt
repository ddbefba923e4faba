-- Rows at keys, one key after the other.
use Rattle.std.proofs.Common.{◌++◌, List, [], ◌∷◌, ap, ◌∙◌, refl, inl, inr, ◌≡◌, ◌⊎◌, Some, None}
use Rattle.std.specs.declared.cmp.Ordering.{Ordering}
use Rattle.key_order.specs.Order.{Same}
use Rattle.merkle_wire.specs.Outlines.{AreRowsAt}
use Rattle.key_order.specs.Map.{get}

module _ {K V : Type 0} (cmp : K → K → Ordering) (rows : List (K × V)) where
  -- the row at the key is added, where there is one
  abbrev HasRowAt : K → List (K × V) → List (K × V) → Type 0
  HasRowAt k found found' =
      ((get cmp rows k ≡ None) × (found' ≡ found))
      ⊎ ((row : K × V) × Same cmp row.0 k × (get cmp rows k ≡ Some row.1) × (found' ≡ found ++ row ∷ []))

  pub rows_more : (ks : List K) (k : K) (found found' : List (K × V)) → AreRowsAt cmp rows ks found → HasRowAt k found found' → AreRowsAt cmp rows (ks ++ k ∷ []) found'
  rows_more [] k found found' a (inl h) = inl (h.0, h.1 ∙ a)
  rows_more [] k found found' a (inr h) = inr (h.0, [], h.1, h.2, refl, h.3 ∙ ap (λ t. t ++ h.0 ∷ []) a)
  rows_more (j ∷ ks) k found found' (inl a) h = inl (a.0, rows_more ks k found found' a.1 h)
  rows_more (j ∷ ks) k found found' (inr a) (inl h) = inr (a.0, a.1, a.2, a.3, rows_more ks k a.1 a.1 a.4 (inl (h.0, refl)), h.1 ∙ a.5)
  rows_more (j ∷ ks) k found found' (inr a) (inr h) =
      inr (a.0, a.1 ++ h.0 ∷ [], a.2, a.3, rows_more ks k a.1 (a.1 ++ h.0 ∷ []) a.4 (inr (h.0, h.1, h.2, refl)), h.3 ∙ ap (λ t. t ++ h.0 ∷ []) a.5)
