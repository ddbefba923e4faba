-- The pairs of a map on both sides of a key.
use Rattle.std.proofs.Common.{◌≡◌, ◌≢◌, ℕ, List, [], ◌∷◌, ◌++◌, Bool, true, false, ◌||◌, refl, ap, sym, ◌∙◌, arith}
use Rattle.std.specs.declared.cmp.Ordering.{Ordering}
use Rattle.std.specs.declared.cmp.Ordering.TheVariants.{Less, Equal, Greater}
use Rattle.std.specs.Ordering.{is_eq, is_gt, is_lt, match_ordering}
use Rattle.std.specs.Cmp.{IsTotalOrder}
use Rattle.std.specs.List.{AllByRecursion}
use Rattle.key_order.specs.Order.{Upto, Below}
use Rattle.key_order.specs.Map.{IsMap, set, has_key}
use Rattle.key_order.proofs.Orders.{turned, low_up, up_low, low_is_up, same_up, same_down}
use Rattle.key_order.proofs.Dels.{NoEqual}
use Rattle.key_order.proofs.ListParts.{each-append, each-before, each-behind, map-before, map-rest}
use Rattle.key_order.proofs.Bools.{is_less, is_greater}
use Rattle.merkle_tree_theory.proofs.Unique.{Under}

-- what is neither above nor equal is below
pub not_above : (r : Ordering) → r ≢ Equal → is_gt r ≡ false → is_lt r ≡ true
not_above Less ne e = refl
not_above Equal ne e = absurd (ne refl)
not_above Greater ne e = cc

by_equal : (o : Ordering) (b : Bool) → o ≢ Equal → b ≡ false → is_eq o || b ≡ false
by_equal Less b ne e = e
by_equal Equal b ne e = absurd (ne refl)
by_equal Greater b ne e = e

module _ {K : Type 0} (cmp : K → K → Ordering) where
  pub less-below : (k x : K) → cmp k x ≡ Less → Below cmp k x
  less-below k x e = ap is_lt e

  pub less-upto : (k x : K) → cmp k x ≡ Less → Upto cmp k x
  less-upto k x e = ap is_gt e

  below≢ : (k x : K) → Below cmp k x → cmp k x ≢ Equal
  below≢ k x h e = let g = sym h ∙ ap is_lt e in cc

module _ {K : Type 0} (cmp : K → K → Ordering) (o : IsTotalOrder cmp) where
  above≢ : (k x : K) → Below cmp x k → cmp k x ≢ Equal
  above≢ k x h e = let g = sym h ∙ turned cmp o k x ∙ ap is_gt e in cc

  pub greater-upto : (k x : K) → cmp k x ≡ Greater → Upto cmp x k
  greater-upto k x e = low_is_up cmp o x k (turned cmp o k x ∙ ap is_gt e)

module _ {K D : Type 0} (cmp : K → K → Ordering) where
  -- every key is above k
  abbrev pub AllAbove : K → List (K × D) → Type 0
  AllAbove k = AllByRecursion (λ p. Below cmp k p.0)

  -- every key is below k
  abbrev pub AllBelow : K → List (K × D) → Type 0
  AllBelow k = AllByRecursion (λ p. Below cmp p.0 k)

  pub above-append : (k : K) (xs ys : List (K × D)) → AllAbove k xs → AllAbove k ys → AllAbove k (xs ++ ys)
  above-append k = each-append (λ p. Below cmp k p.0)

  pub below-append : (k : K) (xs ys : List (K × D)) → AllBelow k xs → AllBelow k ys → AllBelow k (xs ++ ys)
  below-append k = each-append (λ p. Below cmp p.0 k)

  pub no_equal-first : (k : K) (xs ys : List (K × D)) → NoEqual cmp k (xs ++ ys) → NoEqual cmp k xs
  no_equal-first k = each-before (λ p. cmp k p.0 ≢ Equal)

  pub no_equal-rest : (k : K) (xs ys : List (K × D)) → NoEqual cmp k (xs ++ ys) → NoEqual cmp k ys
  no_equal-rest k = each-behind (λ p. cmp k p.0 ≢ Equal)

  pub no_equal-above : (k : K) (ps : List (K × D)) → AllAbove k ps → NoEqual cmp k ps
  no_equal-above k [] a = tt
  no_equal-above k (p ∷ ps) a = (below≢ cmp k p.0 a.0, no_equal-above k ps a.1)

  -- keys of lower levels are not equal to one of this level
  pub no_equal-under : (lev : K → ℕ) (respects : (a b : K) → cmp a b ≡ Equal → lev a ≡ lev b) (k : K) (n : ℕ) → lev k ≡ n → (ps : List (K × D)) → Under lev n ps → NoEqual cmp k ps
  no_equal-under lev respects k n e [] u = tt
  no_equal-under lev respects k n e (p ∷ ps) u = (λ q. let r = respects k p.0 q in absurd (omega (arith, u.0)), no_equal-under lev respects k n e ps u.1)

  pub has_key-none : (k : K) (ps : List (K × D)) → NoEqual cmp k ps → has_key cmp ps k ≡ false
  has_key-none k [] a = refl
  has_key-none k (p ∷ ps) a = by_equal (cmp k p.0) (has_key cmp ps k) a.0 (has_key-none k ps a.1)

  pub has_key-append : (k : K) (xs ys : List (K × D)) → has_key cmp (xs ++ ys) k ≡ has_key cmp xs k || has_key cmp ys k
  has_key-append k [] ys = refl
  has_key-append k (x ∷ xs) ys = by (is_eq (cmp k x.0)) (has_key-append k xs ys)
    where
      by : (b : Bool) → has_key cmp (xs ++ ys) k ≡ has_key cmp xs k || has_key cmp ys k → b || has_key cmp (xs ++ ys) k ≡ (b || has_key cmp xs k) || has_key cmp ys k
      by true e = refl
      by false e = e

  -- setting a key stops at those above it
  pub set-stop : (k : K) (d : D) (ys : List (K × D)) → AllAbove k ys → set cmp ys k d ≡ (k, d) ∷ ys
  set-stop k d [] a = refl
  set-stop k d (y ∷ ys) a = ap (λ o. match_ordering o ((k, d) ∷ y ∷ ys) ((y.0, d) ∷ ys) (y ∷ set cmp ys k d)) (is_less (cmp k y.0) a.0)

  -- and leaves them where it is set before them
  pub set-front : (k : K) (d : D) (xs ys : List (K × D)) → AllAbove k ys → set cmp (xs ++ ys) k d ≡ set cmp xs k d ++ ys
  set-front k d [] ys a = set-stop k d ys a
  set-front k d (x ∷ xs) ys a = by (cmp k x.0) (set-front k d xs ys a)
    where
      by : (o : Ordering) → set cmp (xs ++ ys) k d ≡ set cmp xs k d ++ ys
          → match_ordering o ((k, d) ∷ x ∷ (xs ++ ys)) ((x.0, d) ∷ (xs ++ ys)) (x ∷ set cmp (xs ++ ys) k d) ≡ match_ordering o ((k, d) ∷ x ∷ xs) ((x.0, d) ∷ xs) (x ∷ set cmp xs k d) ++ ys
      by Less e = refl
      by Equal e = refl
      by Greater e = ap (λ zs. x ∷ zs) e

  module _ (o : IsTotalOrder cmp) where
    pub no_equal-below : (k : K) (ps : List (K × D)) → AllBelow k ps → NoEqual cmp k ps
    no_equal-below k [] a = tt
    no_equal-below k (p ∷ ps) a = (above≢ cmp o k p.0 a.0, no_equal-below k ps a.1)

    -- setting a key passes over those below it
    pub set-pass : (k : K) (d : D) (xs ys : List (K × D)) → AllBelow k xs → set cmp (xs ++ ys) k d ≡ xs ++ set cmp ys k d
    set-pass k d [] ys a = refl
    set-pass k d (x ∷ xs) ys a =
        ap (λ o. match_ordering o ((k, d) ∷ x ∷ (xs ++ ys)) ((x.0, d) ∷ (xs ++ ys)) (x ∷ set cmp (xs ++ ys) k d)) (is_greater (cmp k x.0) (sym (turned cmp o k x.0) ∙ a.0))
        ∙ ap (λ zs. x ∷ zs) (set-pass k d xs ys a.1)

    -- what is below a key that is at most k is below k
    pub below-more : (k x : K) (ps : List (K × D)) → Upto cmp x k → AllBelow x ps → AllBelow k ps
    below-more k x [] e a = tt
    below-more k x (p ∷ ps) e a = (low_up cmp o p.0 x k a.0 e, below-more k x ps e a.1)

    -- what is above a key that is at least k is above k
    pub above-more : (k x : K) (ps : List (K × D)) → Upto cmp k x → AllAbove x ps → AllAbove k ps
    above-more k x [] e a = tt
    above-more k x (p ∷ ps) e a = (up_low cmp o k x p.0 e a.0, above-more k x ps e a.1)

    -- no key before a node is equal to one that doesn't compare lower with it, and none after it to one that doesn't compare higher
    pub none-before : (k : K) (xs : List (K × D)) (x : K) (e : D) (ys : List (K × D)) → IsMap cmp (xs ++ (x, e) ∷ ys) → cmp k x ≢ Less → NoEqual cmp k xs
    none-before k xs x e ys a nl = by (cmp k x) refl nl
      where
        by : (q : Ordering) → cmp k x ≡ q → q ≢ Less → NoEqual cmp k xs
        by Less q n = absurd (n refl)
        by Equal q n = no_equal-below k xs (below-more k x xs (same_down cmp o k x q) (map-before cmp xs (x, e) ys a))
        by Greater q n = no_equal-below k xs (below-more k x xs (greater-upto cmp o k x q) (map-before cmp xs (x, e) ys a))

    pub none-after : (k : K) (xs : List (K × D)) (x : K) (e : D) (ys : List (K × D)) → IsMap cmp (xs ++ (x, e) ∷ ys) → cmp k x ≢ Greater → NoEqual cmp k ys
    none-after k xs x e ys a ng = by (cmp k x) refl ng
      where
        rest : IsMap cmp ((x, e) ∷ ys)
        rest = map-rest cmp xs ((x, e) ∷ ys) a

        by : (q : Ordering) → cmp k x ≡ q → q ≢ Greater → NoEqual cmp k ys
        by Less q n = no_equal-above k ys (above-more k x ys (less-upto cmp k x q) rest.0)
        by Equal q n = no_equal-above k ys (above-more k x ys (same_up cmp o k x q) rest.0)
        by Greater q n = absurd (n refl)
