-- A cut by a list of ranges is the cut by its merge, whatever the order of the list.
use Rattle.std.proofs.Common.{◌≡◌, List, [], ◌∷◌, map, refl, subst, ◌⊎◌, inl, inr}
use Rattle.std.specs.Cmp.{IsTotalOrder}
use Rattle.std.specs.List.{AllByRecursion}
use Rattle.std.specs.declared.cmp.Ordering.{Ordering}
use Rattle.key_order.proofs.Orders.{up_up, low_up, low_is_up, not_both, up_self}
use Rattle.key_order.specs.Interval.{Span, IsOrdered, IsIn, IsCovered, IsWithin, IsApart}
use Rattle.key_order.specs.Order.{Upto, Below, Same, AnyByRecursion}
use Rattle.merkle_diff.proofs.Cuts.{any-cut, some-cut, left-down, left-up, left-ordered}
use Rattle.merkle_diff.proofs.Each.{any-map, each-with, each-both, each-not, none-of, any-get, any-unmapped}
use Rattle.merkle_diff.proofs.Borders.{Border, bound, Before, Behind, Across, Free, part, low, before, behind, not_both_sides, across-in, across-within, free-same, bound-in, own-free, to-bound, those-named, those-again}
use Rattle.merkle_diff.proofs.Borders.Border.{Start, End}
use Rattle.merkle_diff.proofs.MergeLaws.{merge-to, merge-from, merge-is_apart, merge-is_ordered, merge-holds}
use Rattle.merkle_diff.proofs.OrderTests.{same_back}
use Rattle.merkle_diff.specs.Cut.{IsExactCut, cut_one, pieces_left}
use Rattle.merkle_diff.specs.Merge.{AreThose, IsMerge}

-- an element that has P, related to one of the list by a relation that each element has to itself
any-member : {X : Type 0} (P : X → Type 0) (R : X → X → Type 0) (xs : List X) → ((x : X) → R x x) → AnyByRecursion P xs → (x : X) × P x × AnyByRecursion (R x) xs
any-member P R [] r h = absurd h
any-member P R (x ∷ xs) r (inl h) = (x, h, inl (r x))
any-member P R (x ∷ xs) r (inr h) = let m = any-member P R xs r h in (m.0, m.1, inr m.2)

module _ {K : Type 0} (cmp : K → K → Ordering) (o : IsTotalOrder cmp) where
  -- ---- a merge runs across the edges that its list does

  module _ (e : Border) where
    free-of_merge : (ss ms : List (Span K)) → AllByRecursion (IsOrdered cmp) ss → IsMerge cmp ss ms → (k : K) → Free cmp e ms k → Free cmp e ss k
    free-of_merge ss ms d m k f = each-not (Across cmp e k) ss (λ h.
        let x = any-member (Across cmp e k) (IsWithin cmp) ss (λ s. (up_self cmp o s.first, up_self cmp o s.last)) h in
        none-of (Across cmp e k) ms f (any-map (IsWithin cmp x.0) (Across cmp e k) ms (λ t w. across-within cmp o e k x.0 t w x.1) (merge-holds cmp o x.0 ss ms d m x.2)))

    -- ranges of which each ends before those after it begin run across no edge of one another
    apart-free : (ms : List (Span K)) → AllByRecursion (IsOrdered cmp) ms → IsApart cmp ms → AllByRecursion (λ m. Free cmp e ms (bound e m)) ms
    apart-free [] d a = tt
    apart-free (m ∷ ms) d a = (
      (own-free cmp o e m, later),
      each-both (λ t. Below cmp m.last (bound e t)) (λ t. Free cmp e ms (bound e t)) (λ t. Free cmp e (m ∷ ms) (bound e t)) ms
          (λ t b f. ((λ c. not_both cmp o (bound e t) m.last (across-in cmp o e (bound e t) m c).1 b), f)) above (apart-free ms d.1 a.1),
    )
      where
        later : Free cmp e ms (bound e m)
        later = each-with (λ t. Below cmp m.last t.first) (λ t. ¬ (Across cmp e (bound e m) t)) ms
            (λ t b c. not_both cmp o t.first m.last (up_up cmp o t.first (bound e m) m.last (across-in cmp o e (bound e m) t c).0 (bound-in cmp o e m d.0).1) b) a.0

        above : AllByRecursion (λ t. Below cmp m.last (bound e t)) ms
        above = each-both (λ t. Below cmp m.last t.first) (IsOrdered cmp) (λ t. Below cmp m.last (bound e t)) ms (λ t b i. low_up cmp o m.last t.first (bound e t) b (bound-in cmp o e t i).0) a.0 d.1

    merge-free : (ss ms : List (Span K)) → AllByRecursion (IsOrdered cmp) ss → IsMerge cmp ss ms
        → AreThose cmp (map (bound e) ss) (Free cmp e ss) (map (bound e) ms) → (k : K) → Free cmp e ss k → Free cmp e ms k
    merge-free ss ms d m those k f = each-not (Across cmp e k) ms (λ h.
        let i = merge-from cmp o k ss ms d m (any-map (Across cmp e k) (IsIn cmp k) ms (λ s a. across-in cmp o e k s a) h) in
        let q = any-unmapped (bound e) (Same cmp k) ms (those-named cmp o e ss (map (bound e) ms) those k (to-bound cmp o e ss ss k f f i)) in
        none-of (Across cmp e k) ms (any-get (λ s. Free cmp e ms (bound e s)) (λ s. Same cmp k (bound e s)) (Free cmp e ms k) ms
        (λ s g r. free-same cmp o e ms (bound e s) k (same_back cmp o k (bound e s) r) g)
        (apart-free ms (merge-is_ordered cmp o ss ms d m) (merge-is_apart cmp o ss ms d m)) q) h)

  -- ---- what is left by a cut

  -- Q holds of a piece where it holds of the range, and N of what is cut out
  record IsLeft (Q N : Span K → Type 0) : Type 0 where
    pub down : (g s : Span K) → AnyByRecursion Q (cut_one cmp g s) → Q s × N g
    pub up : (g s : Span K) → Q s → N g → AnyByRecursion Q (cut_one cmp g s)

  -- what is left by one list is left by the other
  left-again : (Q N : Span K → Type 0) → IsLeft Q N → (bad xs ys : List (Span K)) → (AllByRecursion N xs → AllByRecursion N ys)
      → AnyByRecursion Q (pieces_left cmp bad xs) → AnyByRecursion Q (pieces_left cmp bad ys)
  left-again Q N law bad xs ys f h = let r = left-down cmp o Q N law.down bad xs h in left-up cmp o Q N law.up bad ys r.0 (f r.1)

  -- a piece that runs across an edge is of a range that does, and the edge is not across what is cut out
  across-left : (e : Border) (k : K) → IsLeft (Across cmp e k) (λ g. ¬ (Across cmp e k g))
  across-left e k = record { down = down; up = λ g s i n. some-cut cmp o (Across cmp e k) g s i (λ m. up g s i n (part cmp o e k g.first) (part cmp o e k g.last)) }
    where
      down : (g s : Span K) → AnyByRecursion (Across cmp e k) (cut_one cmp g s) → Across cmp e k s × ¬ (Across cmp e k g)
      down g s =
          any-cut cmp o (Across cmp e k) (Across cmp e k s × ¬ (Across cmp e k g)) g s
          (λ n i. (i, λ c. n (low_is_up cmp o g.first s.last (low cmp o e k g.first s.last c.0 i.1), low_is_up cmp o s.first g.last (low cmp o e k s.first g.last i.0 c.1))))
          (λ m b i. ((i.0, behind cmp o e k g.first s.last m.0 i.1), λ c. not_both_sides cmp o e k g.first c.0 i.1))
          (λ m b i. ((before cmp o e k s.first g.last m.1 i.0, i.1), λ c. not_both_sides cmp o e k g.last i.0 c.1))

      up : (g s : Span K) → Across cmp e k s → ¬ (Across cmp e k g) → Before cmp e k g.first ⊎ Behind cmp e k g.first → Before cmp e k g.last ⊎ Behind cmp e k g.last
          → (Below cmp s.first g.first × Across cmp e k (record { first = s.first; last = g.first })) ⊎ (Below cmp g.last s.last × Across cmp e k (record { first = g.last; last = s.last }))
      up g s i n (inr h) t = inl (low cmp o e k s.first g.first i.0 h, (i.0, h))
      up g s i n (inl b) (inl c) = inr (low cmp o e k g.last s.last c i.1, (c, i.1))
      up g s i n (inl b) (inr h) = absurd (n (b, h))

  -- the key is the whole range
  abbrev IsPoint : K → Span K → Type 0
  IsPoint k s = Upto cmp s.first k × Upto cmp k s.last × Upto cmp k s.first × Upto cmp s.last k

  -- a range of one key is left where the key is in nothing that is cut out
  point-left : (k : K) → IsLeft (IsPoint k) (λ g. ¬ (IsIn cmp k g))
  point-left k = record {
    down = λ g s. any-cut cmp o (IsPoint k) (IsPoint k s × ¬ (IsIn cmp k g)) g s
        (λ n i. (i, λ c. n (up_up cmp o g.first k s.last c.0 i.1, up_up cmp o s.first k g.last i.0 c.1)))
        (λ m b i. absurd (none s.first g.first i b)) (λ m b i. absurd (none g.last s.last i b));
    up = λ g s i n. some-cut cmp o (IsPoint k) g s i (λ m. absurd (n (up_up cmp o g.first s.last k m.0 i.3, up_up cmp o k s.first g.last i.2 m.1)));
  }
    where
      none : (a b : K) → IsPoint k (record { first = a; last = b }) → Below cmp a b → ⊥
      none a b i l = not_both cmp o b a (up_up cmp o b k a i.3 i.2) l

  module _ (bad xs ys : List (Span K)) where
    -- a cut by xs covers no key that a cut by ys does not, where the two lists agree on what they cover and run across
    covered-again : (k : K) → ((e : Border) → Free cmp e xs k → Free cmp e ys k) → (AllByRecursion (λ g. ¬ (IsIn cmp k g)) xs → AllByRecursion (λ g. ¬ (IsIn cmp k g)) ys)
        → IsCovered cmp k (pieces_left cmp bad xs) → IsCovered cmp k (pieces_left cmp bad ys)
    covered-again k f h i = go (part cmp o Start k m.0.first) (part cmp o End k m.0.last)
      where
        m : (x : Span K) × IsIn cmp k x × AnyByRecursion (λ y. x ≡ y) (pieces_left cmp bad xs)
        m = any-member (IsIn cmp k) (λ x y. x ≡ y) (pieces_left cmp bad xs) (λ s. refl) i

        again : (Q N : Span K → Type 0) → IsLeft Q N → ((s : Span K) → Q s → IsIn cmp k s) → (AllByRecursion N xs → AllByRecursion N ys) → Q m.0 → IsCovered cmp k (pieces_left cmp bad ys)
        again Q N law holds g q = any-map Q (IsIn cmp k) (pieces_left cmp bad ys) holds (left-again Q N law bad xs ys g (any-map (λ y. m.0 ≡ y) Q (pieces_left cmp bad xs) (λ y e. subst Q e q) m.2))

        across : (e : Border) → Across cmp e k m.0 → IsCovered cmp k (pieces_left cmp bad ys)
        across e = again (Across cmp e k) (λ g. ¬ (Across cmp e k g)) (across-left e k) (across-in cmp o e k) (f e)

        -- the key is after the start, or before the end, or the whole range
        go : Below cmp m.0.first k ⊎ Upto cmp k m.0.first → Upto cmp m.0.last k ⊎ Below cmp k m.0.last → IsCovered cmp k (pieces_left cmp bad ys)
        go (inl b) t = across Start (b, m.1.1)
        go (inr u) (inr b) = across End (m.1.0, b)
        go (inr u) (inl v) = again (IsPoint k) (λ g. ¬ (IsIn cmp k g)) (point-left k) (λ s p. (p.0, p.1)) h (m.1.0, m.1.1, u, v)

    free-again : (e : Border) (k : K) → (Free cmp e ys k → Free cmp e xs k) → Free cmp e (pieces_left cmp bad xs) k → Free cmp e (pieces_left cmp bad ys) k
    free-again e k f n = each-not (Across cmp e k) (pieces_left cmp bad ys)
        (λ h. none-of (Across cmp e k) (pieces_left cmp bad xs) n (left-again (Across cmp e k) (λ g. ¬ (Across cmp e k g)) (across-left e k) bad ys xs f h))

  -- the cut by the merge of a list is the cut by the list
  pub cut-by_merge : (bad good merged result : List (Span K)) → AllByRecursion (IsOrdered cmp) bad → AllByRecursion (IsOrdered cmp) good
      → IsMerge cmp good merged → IsExactCut cmp bad merged result → IsExactCut cmp bad good result
  cut-by_merge bad good merged result db dg m c = record { starts = those Start (map (λ s. s.first) result) c.starts; ends = those End (map (λ s. s.last) result) c.ends }
    where
      free-from : (e : Border) (k : K) → Free cmp e merged k → Free cmp e good k
      free-from e k = free-of_merge e good merged dg m k

      free-to : (e : Border) (k : K) → Free cmp e good k → Free cmp e merged k
      free-to Start k = merge-free Start good merged dg m m.starts k
      free-to End k = merge-free End good merged dg m m.ends k

      keys-from : (k : K) → AllByRecursion (λ g. ¬ (IsIn cmp k g)) merged → AllByRecursion (λ g. ¬ (IsIn cmp k g)) good
      keys-from k n = each-not (IsIn cmp k) good (λ h. none-of (IsIn cmp k) merged n (merge-to cmp o k good merged dg m h))

      keys-to : (k : K) → AllByRecursion (λ g. ¬ (IsIn cmp k g)) good → AllByRecursion (λ g. ¬ (IsIn cmp k g)) merged
      keys-to k n = each-not (IsIn cmp k) merged (λ h. none-of (IsIn cmp k) good n (merge-from cmp o k good merged dg m h))

      those : (e : Border) (ks : List K) → AreThose cmp (map (bound e) (pieces_left cmp bad merged)) (Free cmp e (pieces_left cmp bad merged)) ks
          → AreThose cmp (map (bound e) (pieces_left cmp bad good)) (Free cmp e (pieces_left cmp bad good)) ks
      those e ks =
          those-again cmp o e (pieces_left cmp bad merged) (pieces_left cmp bad good) ks (left-ordered cmp o bad merged db) (left-ordered cmp o bad good db)
          (λ k. covered-again bad merged good k (λ e. free-from e k) (keys-from k)) (λ k. covered-again bad good merged k (λ e. free-to e k) (keys-to k))
          (λ k. free-again bad merged good e k (free-to e k)) (λ k. free-again bad good merged e k (free-from e k))
