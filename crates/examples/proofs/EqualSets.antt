-- Equal keys that are set in equal maps.
use Rattle.std.proofs.Common.{◌≡◌, List, [], ◌∷◌, refl, ◌∙◌}
use Rattle.std.specs.Cmp.{IsTotalOrder, alike_right}
use Rattle.std.specs.declared.cmp.Ordering.{Ordering}
use Rattle.std.specs.declared.cmp.Ordering.TheVariants.{Less, Equal, Greater}
use Rattle.key_order.specs.Order.{Same}
use Rattle.key_order.specs.Map.{SameMap, set}

module _ {K D : Type 0} (cmp : K → K → Ordering) (o : IsTotalOrder cmp) where
  -- both maps are equal again
  pub same_set : (m n : List (K × D)) (j k : K) (d : D) → Same cmp j k → SameMap cmp (λ x y. x ≡ y) m n → SameMap cmp (λ x y. x ≡ y) (set cmp m j d) (set cmp n k d)
  same_set [] [] j k d s h = (s, refl, tt)
  same_set [] (q ∷ n) j k d s h = absurd h
  same_set (p ∷ m) [] j k d s h = absurd h
  same_set (p ∷ m) (q ∷ n) j k d s h = go (same_set m n j k d s h.2) (cmp k q.0) (o.congr j k p.0 s ∙ alike_right o p.0 q.0 k h.0) refl
    where
      go : SameMap cmp (λ x y. x ≡ y) (set cmp m j d) (set cmp n k d) → (w : Ordering) → cmp j p.0 ≡ cmp k q.0 → cmp k q.0 ≡ w → SameMap cmp (λ x y. x ≡ y) (set cmp (p ∷ m) j d) (set cmp (q ∷ n) k d)
      go f Less e w = rw (e ∙ w, w) (s, refl, h)
      go f Equal e w = rw (e ∙ w, w) (h.0, refl, h.2)
      go f Greater e w = rw (e ∙ w, w) (h.0, h.1, f)
