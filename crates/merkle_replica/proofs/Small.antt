-- The rows of a replica in memory are a small map.
use Rattle.std.proofs.Common.{◌≡◌, ℕ, ◌<◌, ◌^◌, List, [], ◌∷◌, length, sym, ap, subst, ◌∙◌}
use Rattle.std.specs.List.{AllByRecursion}
use Rattle.std.specs.Cmp.{IsTotalOrder}
use Rattle.std.specs.declared.cmp.Ordering.{Ordering}
use Rattle.key_order.specs.Order.{Same}
use Rattle.key_order.specs.Map.{SameMap}
use Rattle.key_order.proofs.SameMaps.{same_map-own, same_across, same_map-back}
use Rattle.merkle_tree_theory.specs.Faithful.{IsSmall}

module _ {K : Type 0} (cmp : K → K → Ordering) (o : IsTotalOrder cmp) (bo : K → List ℕ) (respects : (x y : K) → Same cmp x y → bo x ≡ bo y) (n : ℕ) where
  abbrev Maps : Type 0
  Maps = List (K × List ℕ)

  -- what an equal key and the same digest share holds of each pair
  each_stays : (P : K × List ℕ → Type 0) → ((x y : K × List ℕ) → Same cmp x.0 y.0 → x.1 ≡ y.1 → P x → P y) → (a b : Maps) → SameMap cmp (λ d e. d ≡ e) a b → AllByRecursion P a → AllByRecursion P b
  each_stays P f [] [] s h = tt
  each_stays P f [] (y ∷ b) s h = absurd s
  each_stays P f (x ∷ a) [] s h = absurd s
  each_stays P f (x ∷ a) (y ∷ b) s h = (f x y s.0 s.1 h.0, each_stays P f a b s.2 h.1)

  -- a map equal to a small one is small
  pub small_same : (digest_of : K → List ℕ) (base : ℕ) (a b : Maps) → SameMap cmp (λ d e. d ≡ e) a b → IsSmall cmp digest_of base bo n a → IsSmall cmp digest_of base bo n b
  small_same digest_of base a b s h = record {
    keys = each_stays (λ p. length (bo p.0) < 2 ^ 64) (λ x y k d l. subst (λ xs. length xs < 2 ^ 64) (respects x.0 y.0 k) l) a b s h.keys;
    digests = each_stays (λ p. length p.1 ≡ n) (λ x y k d l. ap length (sym d) ∙ l) a b s h.digests;
    pages = λ p (t, is_tree, is_in). h.pages p (t, (is_tree.0, same_across cmp o b b _ a (same_map-back cmp o _ b is_tree.1) (same_map-back cmp o a b s) (same_map-own cmp o b)), is_in);
  }
