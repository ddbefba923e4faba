-- The steps of a catch-up, one item or one gap after the other.
use Rattle.std.proofs.Common.{◌≡◌, ℕ, ◌+◌, ◌<◌, List, [], ◌∷◌, ◌++◌, length, take, get_or, map, Option, Some, None, refl, sym, ◌∙◌, ap, subst, append_assoc, append-nil}
use Rattle.std.proofs.lemmas.Grind.{flat_map-append}
use Rattle.std.proofs.lemmas.List.{take_more, map-append}
use Rattle.std.specs.List.{flat_map}
use Rattle.std.specs.Cmp.{IsTotalOrder}
use Rattle.std.specs.declared.cmp.Ordering.{Ordering}
use Rattle.key_order.specs.Map.{SameValue, SameMap, get}
use Rattle.key_order.proofs.Maps.{get_by_same}
use Rattle.merkle_tree_theory.specs.Gap.{Gap}
use Rattle.merkle_tree_theory.specs.Outline.{Item}
use Rattle.merkle_replica.specs.Laws.{Laws}
use Rattle.merkle_replica.specs.Contents.{Side}
use Rattle.merkle_replica.specs.Descent.{IsSortedOut, AreSortedOut, HasSortedOut}

pub some_is : {X : Type 0} (x y : X) → Some x ≡ Some y → x ≡ y
some_is x y e = cc

-- one element more
pub map_more : {A B : Type 0} (f : A → B) (xs : List A) (i : ℕ) (x : A) → i < length xs → x ≡ get_or xs i x → map f (take (i + 1) xs) ≡ map f (take i xs) ++ f x ∷ []
map_more f xs i x h e = ap (map f) (take_more xs i x h ∙ ap (λ y. take i xs ++ y ∷ []) (sym e)) ∙ map-append f (take i xs) (x ∷ [])

-- equal maps have equal digests at each key
pub same_get : {K D : Type 0} (cmp : K → K → Ordering) (o : IsTotalOrder cmp) (a b : List (K × D)) → SameMap cmp (λ d e. d ≡ e) a b → (k : K) → get cmp a k ≡ get cmp b k
same_get cmp o a b s k = is_same (get cmp a k) (get cmp b k) (get_by_same cmp o (λ d e. d ≡ e) a b s k)
  where
    is_same : {D : Type 0} (x y : Option D) → SameValue (λ d e. d ≡ e) x y → x ≡ y
    is_same None None s = refl
    is_same None (Some y) s = absurd s
    is_same (Some x) None s = absurd s
    is_same (Some x) (Some y) s = ap Some s

-- what one element more adds
pub flat_step : {A B C : Type 0} (f : A → B) (g : B → List C) (xs : List A) (i : ℕ) (x : A) → i < length xs → x ≡ get_or xs i x
    → flat_map g (map f (take (i + 1) xs)) ≡ flat_map g (map f (take i xs)) ++ g (f x)
flat_step f g xs i x h e =
    ap (flat_map g) (map_more f xs i x h e) ∙ flat_map-append g (map f (take i xs)) (f x ∷ []) ∙ ap (λ ys. flat_map g (map f (take i xs)) ++ ys) (append-nil (g (f x)))

module _ {K V H : Type 0} (laws : Laws K V H) (local : Side K V H) where
  sorted_more : (es : List (Item K (List ℕ))) (e : Item K (List ℕ)) (o o1 : List (Gap K)) (w w1 : List K) → AreSortedOut laws local es o w
      → IsSortedOut laws local e o1 w1 → AreSortedOut laws local (es ++ e ∷ []) (o ++ o1) (w ++ w1)
  sorted_more [] e o o1 w w1 (p, q) h =
      (o1, [], w1, [], h, (refl, refl), ap (λ z. z ++ o1) p ∙ sym (append-nil o1), ap (λ z. z ++ w1) q ∙ sym (append-nil w1))
  sorted_more (x ∷ es) e o o1 w w1 (a, b, c, d, f, r, p, q) h =
      (a, b ++ o1, c, d ++ w1, f, sorted_more es e b o1 d w1 r h, ap (λ z. z ++ o1) p ∙ append_assoc a b o1, ap (λ z. z ++ w1) q ∙ append_assoc c d w1)

  pub sorted_step : {A : Type 0} (f : A → Item K (List ℕ)) (xs : List A) (i : ℕ) (a : A) (o o' : List (Gap K)) (w w' : List K) → i < length xs → a ≡ get_or xs i a
      → AreSortedOut laws local (map f (take i xs)) o w → HasSortedOut laws local (f a) o w o' w' → AreSortedOut laws local (map f (take (i + 1) xs)) o' w'
  sorted_step f xs i a o o' w w' h e s (o1, w1, t, p, q) =
      subst (λ es. AreSortedOut laws local es o' w') (sym (map_more f xs i a h e))
      (subst (λ z. AreSortedOut laws local (map f (take i xs) ++ f a ∷ []) z w') (sym p)
      (subst (λ z. AreSortedOut laws local (map f (take i xs) ++ f a ∷ []) (o ++ o1) z) (sym q) (sorted_more (map f (take i xs)) (f a) o o1 w w1 s t)))
