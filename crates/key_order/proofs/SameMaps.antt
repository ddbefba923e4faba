-- Maps that are equal.
use Rattle.std.proofs.Common.{◌≡◌, List, [], ◌∷◌, ◌++◌, refl, sym, ◌∙◌}
use Rattle.std.specs.List.{AllByRecursion}
use Rattle.std.specs.Cmp.{IsTotalOrder, tied_itself, tied_back}
use Rattle.std.specs.declared.cmp.Ordering.{Ordering}
use Rattle.key_order.specs.Order.{Same, Below}
use Rattle.key_order.specs.Map.{IsMap, SameMap}
use Rattle.key_order.proofs.Orders.{same_up, same_down, up_low, low_up}

module _ {K X : Type 0} (cmp : K → K → Ordering) where
  pub same-append : (xs ys us vs : List (K × X)) → SameMap cmp (λ d e. d ≡ e) xs us → SameMap cmp (λ d e. d ≡ e) ys vs → SameMap cmp (λ d e. d ≡ e) (xs ++ ys) (us ++ vs)
  same-append [] ys [] vs a b = b
  same-append [] ys (u ∷ us) vs a b = absurd a
  same-append (x ∷ xs) ys [] vs a b = absurd a
  same-append (x ∷ xs) ys (u ∷ us) vs a b = (a.0, a.1, same-append xs ys us vs a.2 b)

module _ {K X : Type 0} (cmp : K → K → Ordering) (o : IsTotalOrder cmp) where
  -- a map equals itself
  pub same_map-own : (ps : List (K × X)) → SameMap cmp (λ d e. d ≡ e) ps ps
  same_map-own [] = tt
  same_map-own (p ∷ ps) = (tied_itself o p.0, refl, same_map-own ps)

  -- what two equal maps equal is equal
  pub same_across : (ps qs a b : List (K × X)) → SameMap cmp (λ d e. d ≡ e) ps a → SameMap cmp (λ d e. d ≡ e) qs b → SameMap cmp (λ d e. d ≡ e) ps qs → SameMap cmp (λ d e. d ≡ e) a b
  same_across [] [] [] [] f g h = tt
  same_across [] [] [] (y ∷ b) f g h = absurd g
  same_across [] [] (x ∷ a) b f g h = absurd f
  same_across [] (q ∷ qs) a b f g h = absurd h
  same_across (p ∷ ps) [] a b f g h = absurd h
  same_across (p ∷ ps) (q ∷ qs) [] b f g h = absurd f
  same_across (p ∷ ps) (q ∷ qs) (x ∷ a) [] f g h = absurd g
  same_across (p ∷ ps) (q ∷ qs) (x ∷ a) (y ∷ b) f g h = (
    o.congr x.0 p.0 y.0 (tied_back o p.0 x.0 f.0) ∙ o.congr p.0 q.0 y.0 h.0 ∙ g.0,
    sym f.1 ∙ h.1 ∙ g.1,
    same_across ps qs a b f.2 g.2 h.2,
  )

  -- equality of maps can be turned
  pub same_map-back : (ps qs : List (K × X)) → SameMap cmp (λ d e. d ≡ e) ps qs → SameMap cmp (λ d e. d ≡ e) qs ps
  same_map-back ps qs h = same_across ps ps qs ps h (same_map-own ps) (same_map-own ps)

  turned : (R : X → X → Type 0) (xs ys : List (K × X)) → SameMap cmp R xs ys → SameMap cmp (λ d e. R e d) ys xs
  turned R [] [] s = tt
  turned R [] (q ∷ qs) s = absurd s
  turned R (p ∷ ps) [] s = absurd s
  turned R (p ∷ ps) (q ∷ qs) s = (tied_back o p.0 q.0 s.0, s.1, turned R ps qs s.2)

  module _ (R : X → X → Type 0) where
    all_same : (xs ys : List (K × X)) (x y : K) → Same cmp x y → SameMap cmp R xs ys → AllByRecursion (λ r. Below cmp x r.0) xs → AllByRecursion (λ r. Below cmp y r.0) ys
    all_same [] [] x y e s h = tt
    all_same [] (q ∷ qs) x y e s h = absurd s
    all_same (p ∷ ps) [] x y e s h = absurd s
    all_same (p ∷ ps) (q ∷ qs) x y e s h = (low_up cmp o y p.0 q.0 (up_low cmp o y x p.0 (same_down cmp o x y e) h.0) (same_up cmp o p.0 q.0 s.0), all_same ps qs x y e s.2 h.1)

    -- what is the same as a map is a map
    pub same_is_map : (xs ys : List (K × X)) → SameMap cmp R xs ys → IsMap cmp xs → IsMap cmp ys
    same_is_map [] [] s h = tt
    same_is_map [] (q ∷ qs) s h = absurd s
    same_is_map (p ∷ ps) [] s h = absurd s
    same_is_map (p ∷ ps) (q ∷ qs) s h = (all_same ps qs p.0 q.0 s.0 s.2 h.0, same_is_map ps qs s.2 h.1)

  -- and what a map is the same as is one
  pub ascends : (R : X → X → Type 0) (a b : List (K × X)) → SameMap cmp R a b → IsMap cmp b → IsMap cmp a
  ascends R a b s h = same_is_map (λ d e. R e d) b a (turned R a b s) h
