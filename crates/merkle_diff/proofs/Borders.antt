-- The two borders of a range, its start and its end: what holds of both alike.
use Rattle.std.proofs.Common.{List, [], ◌∷◌, map, ◌⊎◌, inl, inr}
use Rattle.std.specs.Cmp.{IsTotalOrder}
use Rattle.std.specs.List.{AllByRecursion}
use Rattle.std.specs.declared.cmp.Ordering.{Ordering}
use Rattle.key_order.specs.Interval.{Span, IsOrdered, IsIn, IsCovered, IsWithin}
use Rattle.key_order.specs.Order.{Upto, Below, Same, AnyByRecursion}
use Rattle.key_order.proofs.Orders.{either, up_up, up_low, low_up, low_is_up, not_low_self, up_self, same_up, same_down, same_from}
use Rattle.merkle_diff.specs.Merge.{AreThose}
use Rattle.merkle_diff.proofs.Each.{any-map, any-get, each-with}
use Rattle.merkle_diff.proofs.OrderTests.{same_trans, same_back}

pub data Border : Type 0 where
  Start : Border
  End : Border

-- the key at which the border of a range stands
abbrev pub bound : {K : Type 0} → Border → Span K → K
bound Start s = s.first
bound End s = s.last

module _ {K : Type 0} (cmp : K → K → Ordering) where
  -- a border at k parts the keys, where a start stands just before k, and an end just after it: x lies before the border
  abbrev pub Before : Border → K → K → Type 0
  Before Start k x = Below cmp x k
  Before End k x = Upto cmp x k

  -- x lies after the border
  abbrev pub Behind : Border → K → K → Type 0
  Behind Start k x = Upto cmp k x
  Behind End k x = Below cmp k x

  -- the range runs across a border at k
  abbrev pub Across : Border → K → Span K → Type 0
  Across e k s = Before e k s.first × Behind e k s.last

  -- no range of the list does
  abbrev pub Free : Border → List (Span K) → K → Type 0
  Free e ss k = AllByRecursion (λ s. ¬ (Across e k s)) ss

module _ {K : Type 0} (cmp : K → K → Ordering) (o : IsTotalOrder cmp) where
  -- ---- keys beside a border

  pub part : (e : Border) (k x : K) → Before cmp e k x ⊎ Behind cmp e k x
  part Start k x = go (either cmp o k x)
    where
      go : Upto cmp k x ⊎ Below cmp x k → Below cmp x k ⊎ Upto cmp k x
      go (inl h) = inr h
      go (inr h) = inl h
  part End k x = either cmp o x k

  pub low : (e : Border) (k x y : K) → Before cmp e k x → Behind cmp e k y → Below cmp x y
  low Start k x y b h = low_up cmp o x k y b h
  low End k x y b h = up_low cmp o x k y b h

  pub before : (e : Border) (k x y : K) → Upto cmp x y → Before cmp e k y → Before cmp e k x
  before Start k x y u b = up_low cmp o x y k u b
  before End k x y u b = up_up cmp o x y k u b

  pub behind : (e : Border) (k x y : K) → Upto cmp x y → Behind cmp e k x → Behind cmp e k y
  behind Start k x y u h = up_up cmp o k x y h u
  behind End k x y u h = low_up cmp o k x y h u

  pub not_both_sides : (e : Border) (k x : K) → Before cmp e k x → Behind cmp e k x → ⊥
  not_both_sides e k x b h = not_low_self cmp o x (low e k x x b h)

  -- ---- ranges that run across a border

  pub across-in : (e : Border) (k : K) (s : Span K) → Across cmp e k s → IsIn cmp k s
  across-in Start k s a = (low_is_up cmp o s.first k a.0, a.1)
  across-in End k s a = (a.0, low_is_up cmp o k s.last a.1)

  pub across-same : (e : Border) (k j : K) (s : Span K) → Same cmp k j → Across cmp e k s → Across cmp e j s
  across-same Start k j s q a = (low_up cmp o s.first k j a.0 (same_up cmp o k j q), up_up cmp o j k s.last (same_down cmp o k j q) a.1)
  across-same End k j s q a = (up_up cmp o s.first k j a.0 (same_up cmp o k j q), up_low cmp o j k s.last (same_down cmp o k j q) a.1)

  pub across-within : (e : Border) (k : K) (s t : Span K) → IsWithin cmp s t → Across cmp e k s → Across cmp e k t
  across-within e k s t w a = (before e k t.first s.first w.0 a.0, behind e k s.last t.last w.1 a.1)

  pub free-same : (e : Border) (ss : List (Span K)) (k j : K) → Same cmp k j → Free cmp e ss k → Free cmp e ss j
  free-same e ss k j q f = each-with (λ s. ¬ (Across cmp e k s)) (λ s. ¬ (Across cmp e j s)) ss (λ s n a. n (across-same e j k s (same_back cmp o k j q) a)) f

  -- ---- the bound of a range

  pub bound-in : (e : Border) (s : Span K) → IsOrdered cmp s → IsIn cmp (bound e s) s
  bound-in Start s d = (up_self cmp o s.first, d)
  bound-in End s d = (d, up_self cmp o s.last)

  -- the range does not run across its own border
  pub own-free : (e : Border) (s : Span K) → ¬ (Across cmp e (bound e s) s)
  own-free Start s a = not_low_self cmp o s.first a.0
  own-free End s a = not_low_self cmp o s.last a.1

  -- a key of the range is its bound, where the range does not run across a border there
  is-bound : (e : Border) (k : K) (s : Span K) → IsIn cmp k s → ¬ (Across cmp e k s) → Same cmp k (bound e s)
  is-bound Start k s i n = go (part Start k s.first)
    where
      go : Below cmp s.first k ⊎ Upto cmp k s.first → Same cmp k s.first
      go (inl b) = absurd (n (b, i.1))
      go (inr u) = same_from cmp o k s.first u i.0
  is-bound End k s i n = go (part End k s.last)
    where
      go : Upto cmp s.last k ⊎ Below cmp k s.last → Same cmp k s.last
      go (inl u) = same_from cmp o k s.last i.1 u
      go (inr b) = absurd (n (i.0, b))

  -- ---- the bounds that a merge has

  module _ (e : Border) where
    -- a covered key across which no range runs is a bound
    pub to-bound : (ss xs : List (Span K)) (k : K) → Free cmp e ss k → Free cmp e xs k → IsCovered cmp k xs → AnyByRecursion (λ j. Same cmp k j × Free cmp e ss j) (map (bound e) xs)
    to-bound ss [] k f g i = absurd i
    to-bound ss (x ∷ xs) k f g (inl i) = let q = is-bound e k x i g.0 in inl (q, free-same e ss k (bound e x) q f)
    to-bound ss (x ∷ xs) k f g (inr i) = inr (to-bound ss xs k f g.1 i)

    bound-covered : (ss xs : List (Span K)) (k : K) → AllByRecursion (IsOrdered cmp) xs → AnyByRecursion (λ j. Same cmp k j × Free cmp e ss j) (map (bound e) xs) → IsCovered cmp k xs
    bound-covered ss [] k d h = absurd h
    bound-covered ss (x ∷ xs) k d (inl h) =
        let i = bound-in e x d.0 in
        inl (up_up cmp o x.first (bound e x) k i.0 (same_down cmp o k (bound e x) h.0), up_up cmp o k (bound e x) x.last (same_up cmp o k (bound e x) h.0) i.1)
    bound-covered ss (x ∷ xs) k d (inr h) = inr (bound-covered ss xs k d.1 h)

    bound-free : (ss : List (Span K)) (js : List K) (k : K) → AnyByRecursion (λ j. Same cmp k j × Free cmp e ss j) js → Free cmp e ss k
    bound-free ss [] k h = absurd h
    bound-free ss (j ∷ js) k (inl h) = free-same e ss j k (same_back cmp o k j h.0) h.1
    bound-free ss (j ∷ js) k (inr h) = bound-free ss js k h

    -- each bound is covered
    bounds-covered : (ys : List (Span K)) → AllByRecursion (IsOrdered cmp) ys → AllByRecursion (λ j. IsCovered cmp j ys) (map (bound e) ys)
    bounds-covered [] d = tt
    bounds-covered (y ∷ ys) d = (inl (bound-in e y d.0), each-with (λ j. IsCovered cmp j ys) (λ j. IsCovered cmp j (y ∷ ys)) (map (bound e) ys) (λ j i. inr i) (bounds-covered ys d.1))

    -- a key that is a bound is among the bounds of the merge
    pub those-named : (ss : List (Span K)) (ks : List K) → AreThose cmp (map (bound e) ss) (Free cmp e ss) ks → (k : K)
        → AnyByRecursion (λ j. Same cmp k j × Free cmp e ss j) (map (bound e) ss) → AnyByRecursion (Same cmp k) ks
    those-named ss ks m k h = any-get (λ j. Free cmp e ss j → AnyByRecursion (Same cmp j) ks) (λ j. Same cmp k j × Free cmp e ss j) (AnyByRecursion (Same cmp k) ks) (map (bound e) ss)
        (λ j c q. any-map (Same cmp j) (Same cmp k) ks (λ x r. same_trans cmp o k j x q.0 r) (c q.1)) m.complete h

    -- lists that cover the same keys, and run across the same borders, have the same bounds in a merge
    pub those-again : (xs ys : List (Span K)) (ks : List K) → AllByRecursion (IsOrdered cmp) xs → AllByRecursion (IsOrdered cmp) ys
        → ((k : K) → IsCovered cmp k xs → IsCovered cmp k ys) → ((k : K) → IsCovered cmp k ys → IsCovered cmp k xs)
        → ((k : K) → Free cmp e xs k → Free cmp e ys k) → ((k : K) → Free cmp e ys k → Free cmp e xs k)
        → AreThose cmp (map (bound e) xs) (Free cmp e xs) ks → AreThose cmp (map (bound e) ys) (Free cmp e ys) ks
    those-again xs ys ks dx dy to from free_to free_from m = record {
      ascends = m.ascends;
      sound = each-with (λ k. AnyByRecursion (λ j. Same cmp k j × Free cmp e xs j) (map (bound e) xs)) (λ k. AnyByRecursion (λ j. Same cmp k j × Free cmp e ys j) (map (bound e) ys)) ks
          (λ k h. let f = free_to k (bound-free xs (map (bound e) xs) k h) in to-bound ys ys k f f (to k (bound-covered xs xs k dx h))) m.sound;
      complete = each-with (λ j. IsCovered cmp j ys) (λ j. Free cmp e ys j → AnyByRecursion (Same cmp j) ks) (map (bound e) ys)
          (λ j i f. let g = free_from j f in those-named xs ks m j (to-bound xs xs j g g (from j i))) (bounds-covered ys dy);
    }
