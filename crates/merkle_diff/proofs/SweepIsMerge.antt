-- The sweep is the merge.
use Rattle.std.proofs.Common.{◌≡◌, Bool, true, false, List, [], ◌∷◌, map, refl, ◌⊎◌, inl, inr, if◌then◌else◌}
use Rattle.std.specs.Cmp.{IsTotalOrder}
use Rattle.std.specs.List.{AllByRecursion}
use Rattle.std.specs.declared.cmp.Ordering.{Ordering}
use Rattle.key_order.specs.Interval.{Span, IsOrdered, IsCovered, IsWithin}
use Rattle.key_order.specs.Order.{Upto, Below, Same, AnyByRecursion, upto}
use Rattle.merkle_diff.specs.Merge.{AreThose, IsMerge}
use Rattle.merkle_diff.specs.Sweep.{greater, sweep, sweep_of}
use Rattle.key_order.proofs.Orders.{same_down, up_self, up_up, low_up, up_low, not_both, low_is_up}
use Rattle.merkle_diff.proofs.Ascents.{IsAscendingByStart}
use Rattle.merkle_diff.proofs.Each.{any-get, any-with, each-with, each-both, each-mapped}
use Rattle.merkle_diff.proofs.Borders.{Border, bound, Before, Behind, Across, Free, part, before, behind, across-in, bound-in, own-free, those-again}
use Rattle.merkle_diff.proofs.Borders.Border.{Start, End}
use Rattle.merkle_diff.proofs.OrderTests.{by_upto, by_above, same-self}

pub none-merged : {K : Type 0} (cmp : K → K → Ordering) → IsMerge cmp [] []
none-merged cmp = record { starts = record { ascends = tt; sound = tt; complete = tt }; ends = record { ascends = tt; sound = tt; complete = tt } }

module _ {K : Type 0} (cmp : K → K → Ordering) (o : IsTotalOrder cmp) where
  -- the greater of two keys is at least both
  greater-both : (a b : K) → Upto cmp a (greater cmp a b) × Upto cmp b (greater cmp a b)
  greater-both a b = go (upto cmp b a) refl
    where
      go : (t : Bool) → upto cmp b a ≡ t → Upto cmp a (if t then a else b) × Upto cmp b (if t then a else b)
      go true e = (up_self cmp o a, by_upto cmp o b a e)
      go false e = (low_is_up cmp o a b (by_above cmp o b a e), up_self cmp o b)

  -- ---- a range that grows by one that begins in it

  abbrev pub grown : Span K → Span K → Span K
  grown cur s = record { first = cur.first; last = greater cmp cur.last s.last }

  module _ (cur s : Span K) (joins : Upto cmp s.first cur.last) (after : Upto cmp cur.first s.first) where
    abbrev top : K
    top = greater cmp cur.last s.last

    -- the top is one of the two ends: where it lies after an edge, one of them does
    behind-top : (e : Border) (k : K) → Behind cmp e k top → Behind cmp e k cur.last ⊎ (Before cmp e k cur.last × Behind cmp e k s.last)
    behind-top e k h = go (upto cmp s.last cur.last) (part cmp o e k cur.last) h
      where
        go : (t : Bool) → Before cmp e k cur.last ⊎ Behind cmp e k cur.last → Behind cmp e k (if t then cur.last else s.last) → Behind cmp e k cur.last
            ⊎ (Before cmp e k cur.last × Behind cmp e k s.last)
        go t (inr b) h = inl b
        go true (inl b) h = inl h
        go false (inl b) h = inr (b, h)

    -- what is within one of the two is within the grown range
    pub within-grown : (x : Span K) (ss : List (Span K)) → AnyByRecursion (IsWithin cmp x) (cur ∷ s ∷ ss) → AnyByRecursion (IsWithin cmp x) (grown cur s ∷ ss)
    within-grown x ss (inl i) = inl (i.0, up_up cmp o x.last cur.last top i.1 (greater-both cur.last s.last).0)
    within-grown x ss (inr (inl i)) = inl (up_up cmp o cur.first s.first x.first after i.0, up_up cmp o x.last s.last top i.1 (greater-both cur.last s.last).1)
    within-grown x ss (inr (inr i)) = inr i

    -- a key of the grown range is in one of the two
    pub in-grown : (k : K) (ss : List (Span K)) → IsCovered cmp k (grown cur s ∷ ss) → IsCovered cmp k (cur ∷ s ∷ ss)
    in-grown k ss (inl i) = go (behind-top Start k i.1)
      where
        go : Upto cmp k cur.last ⊎ (Below cmp cur.last k × Upto cmp k s.last) → IsCovered cmp k (cur ∷ s ∷ ss)
        go (inl h) = inl (i.0, h)
        go (inr h) = inr (inl (up_up cmp o s.first cur.last k joins (low_is_up cmp o cur.last k h.0), h.1))
    in-grown k ss (inr i) = inr (inr i)

    -- the grown range runs across the edges that one of the two does
    free-more : (e : Border) (ss : List (Span K)) (k : K) → Free cmp e (grown cur s ∷ ss) k → Free cmp e (cur ∷ s ∷ ss) k
    free-more e ss k h = (
      (λ c. h.0 (c.0, behind cmp o e k cur.last top (greater-both cur.last s.last).0 c.1)),
      ((λ c. h.0 (before cmp o e k cur.first s.first after c.0, behind cmp o e k s.last top (greater-both cur.last s.last).1 c.1)), h.1),
    )

    free-less : (e : Border) (ss : List (Span K)) (k : K) → Free cmp e (cur ∷ s ∷ ss) k → Free cmp e (grown cur s ∷ ss) k
    free-less e ss k h = ((λ c. go c (behind-top e k c.1)), h.1.1)
      where
        go : Across cmp e k (grown cur s) → Behind cmp e k cur.last ⊎ (Before cmp e k cur.last × Behind cmp e k s.last) → ⊥
        go c (inl b) = h.0 (c.0, b)
        go c (inr b) = h.1.0 (before cmp o e k s.first cur.last joins b.0, b.1)

    ordered-grown : (ss : List (Span K)) → AllByRecursion (IsOrdered cmp) (cur ∷ s ∷ ss) → AllByRecursion (IsOrdered cmp) (grown cur s ∷ ss)
    ordered-grown ss d = (up_up cmp o cur.first cur.last top d.0 (greater-both cur.last s.last).0, d.1.1)

    -- the merge with the grown range is the merge with the two
    merge-grown : (ss ys : List (Span K)) → AllByRecursion (IsOrdered cmp) (cur ∷ s ∷ ss) → IsMerge cmp (grown cur s ∷ ss) ys → IsMerge cmp (cur ∷ s ∷ ss) ys
    merge-grown ss ys d m = record {
      starts = those Start (map (λ t. t.first) ys) m.starts;
      ends = those End (map (λ t. t.last) ys) m.ends;
    }
      where
        those : (e : Border) (ks : List K) → AreThose cmp (map (bound e) (grown cur s ∷ ss)) (Free cmp e (grown cur s ∷ ss)) ks
            → AreThose cmp (map (bound e) (cur ∷ s ∷ ss)) (Free cmp e (cur ∷ s ∷ ss)) ks
        those e ks = those-again cmp o e (grown cur s ∷ ss) (cur ∷ s ∷ ss) ks (ordered-grown ss d) d (λ k. in-grown k ss)
            (λ k. within-grown (record { first = k; last = k }) ss) (free-more e ss) (free-less e ss)

  -- ---- a range that ends before all others begin

  module _ (cur : Span K) (ts : List (Span K)) (ordered : IsOrdered cmp cur) (gap : AllByRecursion (λ t. Below cmp cur.last t.first × IsOrdered cmp t) ts) where
    above : (e : Border) → AllByRecursion (λ j. Below cmp cur.last j) (map (bound e) ts)
    above e = each-mapped (bound e) (λ j. Below cmp cur.last j) ts
        (each-with (λ t. Below cmp cur.last t.first × IsOrdered cmp t) (λ t. Below cmp cur.last (bound e t)) ts
        (λ t b. low_up cmp o cur.last t.first (bound e t) b.0 (bound-in cmp o e t b.1).0) gap)

    cur-free : (e : Border) → Free cmp e (cur ∷ ts) (bound e cur)
    cur-free e = (
      own-free cmp o e cur,
      each-with (λ t. Below cmp cur.last t.first × IsOrdered cmp t) (λ t. ¬ (Across cmp e (bound e cur) t)) ts
          (λ t b a. not_both cmp o t.first cur.last (up_up cmp o t.first (bound e cur) cur.last (across-in cmp o e (bound e cur) t a).0 (bound-in cmp o e cur ordered).1) b.0) gap,
    )

    those-apart : (e : Border) (ks : List K) → AreThose cmp (map (bound e) ts) (Free cmp e ts) ks → AreThose cmp (map (bound e) (cur ∷ ts)) (Free cmp e (cur ∷ ts)) (bound e cur ∷ ks)
    those-apart e ks m = record {
      ascends = (
        each-with (λ k. AnyByRecursion (λ j. Same cmp k j × Free cmp e ts j) (map (bound e) ts)) (λ k. Below cmp (bound e cur) k) ks
            (λ k h. any-get (λ j. Below cmp cur.last j) (λ j. Same cmp k j × Free cmp e ts j) (Below cmp (bound e cur) k) (map (bound e) ts)
            (λ j b g. up_low cmp o (bound e cur) cur.last k (bound-in cmp o e cur ordered).1 (low_up cmp o cur.last j k b (same_down cmp o k j g.0))) (above e) h) m.sound,
        m.ascends,
      );
      sound = (
        inl (same-self cmp o (bound e cur), cur-free e),
        each-with (λ k. AnyByRecursion (λ j. Same cmp k j × Free cmp e ts j) (map (bound e) ts)) (λ k. AnyByRecursion (λ j. Same cmp k j × Free cmp e (cur ∷ ts) j) (map (bound e) (cur ∷ ts))) ks
            (λ k h. inr (any-with (λ j. Below cmp cur.last j) (λ j. Same cmp k j × Free cmp e ts j) (λ j. Same cmp k j × Free cmp e (cur ∷ ts) j) (map (bound e) ts)
            (λ j b g. (g.0, ((λ a. not_both cmp o j cur.last (across-in cmp o e j cur a).1 b), g.1))) (above e) h)) m.sound,
      );
      complete = (
        (λ h. inl (same-self cmp o (bound e cur))),
        each-with (λ j. Free cmp e ts j → AnyByRecursion (Same cmp j) ks) (λ j. Free cmp e (cur ∷ ts) j → AnyByRecursion (Same cmp j) (bound e cur ∷ ks))
            (map (bound e) ts) (λ j f h. inr (f h.1)) m.complete,
      );
    }

    merge-apart : (ys : List (Span K)) → IsMerge cmp ts ys → IsMerge cmp (cur ∷ ts) (cur ∷ ys)
    merge-apart ys m = record { starts = those-apart Start (map (λ t. t.first) ys) m.starts; ends = those-apart End (map (λ t. t.last) ys) m.ends }

  -- ---- the sweep

  -- what holds of no range, and comes with each range, one that grows and one that ends before all others begin, holds of the sweep
  pub swept-by : (P : List (Span K) → List (Span K) → Type 0) → P [] []
      → ((cur s : Span K) (ss out : List (Span K)) → Upto cmp s.first cur.last → Upto cmp cur.first s.first → P (grown cur s ∷ ss) out → P (cur ∷ s ∷ ss) out)
      → ((cur : Span K) (ts out : List (Span K)) → AllByRecursion (λ t. Below cmp cur.last t.first) ts → P ts out → P (cur ∷ ts) (cur ∷ out))
      → (ss : List (Span K)) → IsAscendingByStart cmp ss → P ss (sweep_of cmp ss)
  swept-by P none grows ends [] a = none
  swept-by P none grows ends (s ∷ ss) a = sweep-by s ss a
    where
      sweep-by : (cur : Span K) (ts : List (Span K)) → IsAscendingByStart cmp (cur ∷ ts) → P (cur ∷ ts) (sweep cmp cur ts)
      sweep-by cur [] a = ends cur [] [] tt none
      sweep-by cur (t ∷ ts) a = go (upto cmp t.first cur.last) refl (sweep-by (grown cur t) ts (a.0.1, a.1.1)) (sweep-by t ts a.1)
        where
          go : (b : Bool) → upto cmp t.first cur.last ≡ b → P (grown cur t ∷ ts) (sweep cmp (grown cur t) ts) → P (t ∷ ts) (sweep cmp t ts)
              → P (cur ∷ t ∷ ts) (if b then sweep cmp (grown cur t) ts else (cur ∷ sweep cmp t ts))
          go true e p q = grows cur t ts (sweep cmp (grown cur t) ts) (by_upto cmp o t.first cur.last e) a.0.0 p
          go false e p q =
              let l = by_above cmp o t.first cur.last e in
              ends cur (t ∷ ts) (sweep cmp t ts) (l, each-with (λ x. Upto cmp t.first x.first) (λ x. Below cmp cur.last x.first) ts (λ x u. low_up cmp o cur.last t.first x.first l u) a.1.0) q

  pub swept-ordered : (ss : List (Span K)) → IsAscendingByStart cmp ss → AllByRecursion (IsOrdered cmp) ss → AllByRecursion (IsOrdered cmp) (sweep_of cmp ss)
  swept-ordered = swept-by (λ ss out. AllByRecursion (IsOrdered cmp) ss → AllByRecursion (IsOrdered cmp) out) (λ d. d)
      (λ cur s ss out j a f d. f (ordered-grown cur s j a ss d)) (λ cur ts out b f d. (d.0, f d.1))

  pub swept-merge : (ss : List (Span K)) → IsAscendingByStart cmp ss → AllByRecursion (IsOrdered cmp) ss → IsMerge cmp ss (sweep_of cmp ss)
  swept-merge = swept-by (λ ss out. AllByRecursion (IsOrdered cmp) ss → IsMerge cmp ss out) (λ d. none-merged cmp)
      (λ cur s ss out j a f d. merge-grown cur s j a ss out d (f (ordered-grown cur s j a ss d)))
      (λ cur ts out b f d. merge-apart cur ts d.0
      (each-both (λ t. Below cmp cur.last t.first) (IsOrdered cmp) (λ t. Below cmp cur.last t.first × IsOrdered cmp t) ts (λ t u i. (u, i)) b d.1) out (f d.1))
