-- What agrees is spared, on two tree-shaped lists.
use Rattle.std.proofs.Common.{◌≡◌, Bool, true, false, not, ◌&&◌, List, [], ◌∷◌, ◌++◌, Option, Some, None, refl, sym, ◌∙◌, ap, subst, if◌then◌else◌, ◌⊎◌, inl, inr}
use Rattle.std.proofs.lemmas.Bool.{and_parts}
use Rattle.std.specs.Cmp.{IsTotalOrder}
use Rattle.std.specs.List.{AllByRecursion, list_any}
use Rattle.std.specs.declared.cmp.Ordering.{Ordering}
use Rattle.key_order.specs.Interval.{Span, IsOrdered, SameSpan, IsCovered, IsInside, Meets, IsWithin, is_within, meets, same_span}
use Rattle.merkle_diff.specs.Entry.{Entry, span_of, EntryWithin}
use Rattle.key_order.specs.Order.{Upto, Below, upto, AnyByRecursion}
use Rattle.merkle_diff.specs.Merge.{IsMerge}
use Rattle.merkle_diff.specs.Cut.{IsExactCut}
use Rattle.merkle_diff.specs.TreeShape.{IsTreeShaped, HoldsNoneBefore, leading_from}
use Rattle.merkle_diff.specs.Walk.{Walk, Mark, bad_of, good_of, front_within, after_within, last_holder, after_holders, bad_marks}
use Rattle.merkle_diff.specs.Walk.Mark.{Bad, Good}
use Rattle.merkle_diff.specs.Difference.{lesser, IsByTable, MayAnswer, SparesAgreed, IsByWalk}
use Rattle.key_order.proofs.Orders.{up_up, up_low, low_up, low_is_up, not_both, up_self, same_up, same_down}
use Rattle.merkle_diff.proofs.Unique.{in-same}
use Rattle.merkle_diff.proofs.MergeLaws.{merge-holds}
use Rattle.merkle_diff.proofs.WalkStarts.{Into, inv-into, inv-outside, inv-empty, agree-by}
use Rattle.merkle_diff.proofs.NoAnswer.{may-or_none}
use Rattle.merkle_diff.proofs.IntervalLaws.{no-found, by-table, law, good-ordered}
use Rattle.merkle_diff.proofs.Each.{each-with, any-get, any-left, any-right, each-all}
use Rattle.merkle_diff.proofs.OrderTests.{not-or, by_above, to_meets, to_within, not_within, within_self, same_by}

module _ {K : Type 0} (cmp : K → K → Ordering) (o : IsTotalOrder cmp) where
  in-good : (g : Span K) (ms : List (Mark K)) → AnyByRecursion (λ m. m ≡ Good g) ms → AnyByRecursion (IsWithin cmp g) (good_of ms)
  in-good g [] h = absurd h
  in-good g (Bad s ∷ ms) (inl e) = cc
  in-good g (Bad s ∷ ms) (inr h) = in-good g ms h
  in-good g (Good s ∷ ms) (inl e) = let f : s ≡ g = cc in inl (subst (λ t. IsWithin cmp g t) (sym f) (up_self cmp o g.first, up_self cmp o g.last))
  in-good g (Good s ∷ ms) (inr h) = inr (in-good g ms h)

  lesser-below : (s e : K) → Upto cmp (lesser cmp s e) s
  lesser-below s e = go (upto cmp s e) refl
    where
      go : (t : Bool) → upto cmp s e ≡ t → Upto cmp (if t then s else e) s
      go true f = up_self cmp o s
      go false f = low_is_up cmp o e s (by_above cmp o s e f)

module _ {K D : Type 0} (cmp : K → K → Ordering) (o : IsTotalOrder cmp) where
  -- no later entry holds b, where a is within b
  no-holders : (a b : Entry K D) (L : List (Entry K D)) → EntryWithin cmp a b → AllByRecursion (λ x. ¬ (EntryWithin cmp a x)) L
      → (after_holders cmp (span_of b) L ≡ L) × (last_holder cmp (span_of b) a L ≡ a)
  no-holders a b [] v n = (refl, refl)
  no-holders a b (x ∷ L) v n = rw (not_within cmp o (span_of b) (span_of x) (λ w. n.0 (up_up cmp o x.first b.first a.first w.0 v.0, up_up cmp o a.last b.last x.last v.1 w.1))) (refl, refl)

  all-after : (s : Span K) (P : List (Entry K D)) → AllByRecursion (λ x. IsWithin cmp (span_of x) s) P → after_within cmp s P ≡ []
  all-after s [] h = refl
  all-after s (x ∷ P) h = rw (to_within cmp o (span_of x) s h.0) (all-after s P h.1)

  -- ---- the leading run

  -- the peer's entry of an agreeing pair was marked good
  abbrev Spared : List (Mark K) → Entry K D × Entry K D → Type 0
  Spared ms pr = pr.0.digest ≡ pr.1.digest → AnyByRecursion (λ m. m ≡ Good (span_of pr.1)) ms

  abbrev AllOrdered : List (Entry K D) → Type 0
  AllOrdered = AllByRecursion (λ e. IsOrdered cmp (span_of e))

  -- after a pair of the run, the walk goes on with the next
  tail : (seen : List (Span K)) (R : Span K) (a b : Entry K D) (L P P' L' : List (Entry K D)) (agree : Bool) (inner after : List (Mark K)) (P1 L1 : List (Entry K D))
      → SameSpan cmp (span_of a) (span_of b) → AllOrdered P
      → Walk cmp (span_of b) None (if agree then after_within cmp (span_of b) P else P) L inner P1 L1
      → Walk cmp R (Some (span_of b)) (after_within cmp (span_of b) P1) L1 after P' L'
      → (Walk cmp R (Some (span_of b)) P L after P' L' → AllByRecursion (Spared after) (leading_from cmp (span_of a ∷ seen) L P))
      → AllByRecursion (Spared after) (leading_from cmp (span_of a ∷ seen) L P)
  tail seen R a b [] P P' L' agree inner after P1 L1 e d w v rec = tt
  tail seen R a b (a2 ∷ L) [] P' L' agree inner after P1 L1 e d w v rec = tt
  tail seen R a b (a2 ∷ L) (b2 ∷ P) P' L' agree inner after P1 L1 e d w v rec = go (same_span cmp (span_of a2) (span_of b2) && not (list_any (meets cmp (span_of a2)) (span_of a ∷ seen))) refl rec
    where
      lies : same_span cmp (span_of a2) (span_of b2) && not (list_any (meets cmp (span_of a2)) (span_of a ∷ seen)) ≡ true → is_within cmp (span_of b2) (span_of b) ≡ false
      lies t = not_within cmp o (span_of b2) (span_of b) no
        where
          q : (same_span cmp (span_of a2) (span_of b2) ≡ true) × (not (list_any (meets cmp (span_of a2)) (span_of a ∷ seen)) ≡ true)
          q = and_parts (same_span cmp (span_of a2) (span_of b2)) (not (list_any (meets cmp (span_of a2)) (span_of a ∷ seen))) t

          no : IsWithin cmp (span_of b2) (span_of b) → ⊥
          no x =
              let s = same_by cmp o (span_of a2) (span_of b2) q.0 in
              let m : Meets cmp (span_of a2) (span_of a) = (
                up_up cmp o a2.first b2.first a.last (same_up cmp o a2.first b2.first s.0)
                    (up_up cmp o b2.first b2.last a.last d.0 (up_up cmp o b2.last b.last a.last x.1 (same_down cmp o a.last b.last e.1))),
                up_up cmp o a.first b2.first a2.last (up_up cmp o a.first b.first b2.first (same_up cmp o a.first b.first e.0) x.0)
                    (up_up cmp o b2.first b2.last a2.last d.0 (same_down cmp o a2.last b2.last s.1)),
              ) in
              let f = sym (to_meets cmp o (span_of a2) (span_of a) m) ∙ not-or (meets cmp (span_of a2) (span_of a)) (list_any (meets cmp (span_of a2)) seen) q.1 in cc

      stays : is_within cmp (span_of b2) (span_of b) ≡ false → (t : Bool) → (if t then after_within cmp (span_of b) (b2 ∷ P) else (b2 ∷ P)) ≡ b2 ∷ P
      stays f true = rw f refl
      stays f false = refl

      next : is_within cmp (span_of b2) (span_of b) ≡ false → Walk cmp R (Some (span_of b)) (b2 ∷ P) (a2 ∷ L) after P' L'
      next f =
          let i = inv-outside cmp (subst (λ z. Walk cmp (span_of b) None z (a2 ∷ L) inner P1 L1) (stays f agree) w) f in
          subst (λ z. Walk cmp R (Some (span_of b)) (b2 ∷ P) z after P' L') i.2
          (subst (λ z. Walk cmp R (Some (span_of b)) z L1 after P' L') (ap (after_within cmp (span_of b)) i.1 ∙ stays f true) v)

      go : (t : Bool) → same_span cmp (span_of a2) (span_of b2) && not (list_any (meets cmp (span_of a2)) (span_of a ∷ seen)) ≡ t
          → (Walk cmp R (Some (span_of b)) (b2 ∷ P) (a2 ∷ L) after P' L' → AllByRecursion (Spared after) (if t then ((a2, b2) ∷ leading_from cmp (span_of a2 ∷ (span_of a ∷ seen)) L P) else []))
          → AllByRecursion (Spared after) (if t then ((a2, b2) ∷ leading_from cmp (span_of a2 ∷ (span_of a ∷ seen)) L P) else [])
      go true t f = f (next (lies t))
      go false t f = tt

  lead : (seen : List (Span K)) (L P : List (Entry K D)) {R : Span K} {last : Option (Span K)} {ms : List (Mark K)} {P' L' : List (Entry K D)} → Walk cmp R last P L ms P' L'
      → AllOrdered P → AllByRecursion (λ x. IsWithin cmp (span_of x) R) P → HoldsNoneBefore cmp L → AllByRecursion (Spared ms) (leading_from cmp seen L P)
  lead seen [] P w d i n = tt
  lead seen (a ∷ L) [] w d i n = tt
  lead seen (a ∷ L) (b ∷ P) {R} {last} {ms} {P'} {L'} w d i n =
      go (same_span cmp (span_of a) (span_of b) && not (list_any (meets cmp (span_of a)) seen)) refl (λ after v. lead (span_of a ∷ seen) L P v d.1 i.1 n.1)
    where
      here : SameSpan cmp (span_of a) (span_of b) → ((after : List (Mark K)) → Walk cmp R (Some (span_of b)) P L after P' L' → AllByRecursion (Spared after) (leading_from cmp (span_of a ∷ seen) L P))
          → AllByRecursion (Spared ms) ((a, b) ∷ leading_from cmp (span_of a ∷ seen) L P)
      here e rec =
          let v : EntryWithin cmp a b = (same_down cmp o a.first b.first e.0, same_up cmp o a.last b.last e.1) in
          let x = inv-into cmp w (to_within cmp o (span_of b) R i.0) (to_within cmp o (span_of a) (span_of b) v) in
          let h = no-holders a b L v n.0 in
          let t = tail seen R a b L P P' L' x.0 x.1 x.2 x.3 x.4 e d.1
          (subst (λ z. Walk cmp (span_of b) None (if x.0 then after_within cmp (span_of b) P else P) z x.1 x.3 x.4) h.0 x.6) x.7 (rec x.2) in (
            (λ g. subst (AnyByRecursion (λ m. m ≡ Good (span_of b))) (sym x.8) (inl (good x.0 (agree-by x.0 x.5 (ap (λ z. z.digest) h.1 ∙ g))))),
            each-with (Spared x.2) (Spared ms) (leading_from cmp (span_of a ∷ seen) L P)
                (λ pr f g. subst (AnyByRecursion (λ m. m ≡ Good (span_of pr.1))) (sym x.8)
                (inr (any-right (λ m. m ≡ Good (span_of pr.1)) x.1 (bad_marks cmp (front_within cmp (span_of b) x.3) ++ x.2)
                (any-right (λ m. m ≡ Good (span_of pr.1)) (bad_marks cmp (front_within cmp (span_of b) x.3)) x.2 (f g))))) t,
          )
        where
          good : (t : Bool) → t ≡ true → (if t then Good (span_of b) else Bad (span_of b)) ≡ Good (span_of b)
          good true f = refl
          good false f = cc

      go : (t : Bool) → same_span cmp (span_of a) (span_of b) && not (list_any (meets cmp (span_of a)) seen) ≡ t
          → ((after : List (Mark K)) → Walk cmp R (Some (span_of b)) P L after P' L' → AllByRecursion (Spared after) (leading_from cmp (span_of a ∷ seen) L P))
          → AllByRecursion (Spared ms) (if t then ((a, b) ∷ leading_from cmp (span_of a ∷ seen) L P) else [])
      go true t rec = here (same_by cmp o (span_of a) (span_of b) (and_parts (same_span cmp (span_of a) (span_of b)) (not (list_any (meets cmp (span_of a)) seen)) t).0) rec
      go false t rec = tt

  -- ---- the answer

  abbrev SparedKeys : List (Span K) → Entry K D × Entry K D → Type 0
  SparedKeys found pr = pr.0.digest ≡ pr.1.digest → (k : K) → IsInside cmp k (span_of pr.1) → ¬ (IsCovered cmp k found)

  none-spared : (found : List (Span K)) (run : List (Entry K D × Entry K D)) → found ≡ [] → AllByRecursion (SparedKeys found) run
  none-spared found run e = each-all (SparedKeys found) run (λ pr g k i h. subst (IsCovered cmp k) e h)

  run-in : (A : Entry K D) (seen : List (Span K)) (L P : List (Entry K D)) → AllByRecursion (λ x. EntryWithin cmp x A) L
      → AllByRecursion (λ pr. EntryWithin cmp pr.0 A × SameSpan cmp (span_of pr.0) (span_of pr.1)) (leading_from cmp seen L P)
  run-in A seen [] P h = tt
  run-in A seen (a ∷ L) [] h = tt
  run-in A seen (a ∷ L) (b ∷ P) h = go (same_span cmp (span_of a) (span_of b) && not (list_any (meets cmp (span_of a)) seen)) refl (run-in A (span_of a ∷ seen) L P h.1)
    where
      go : (t : Bool) → same_span cmp (span_of a) (span_of b) && not (list_any (meets cmp (span_of a)) seen) ≡ t
          → AllByRecursion (λ pr. EntryWithin cmp pr.0 A × SameSpan cmp (span_of pr.0) (span_of pr.1)) (leading_from cmp (span_of a ∷ seen) L P)
          → AllByRecursion (λ pr. EntryWithin cmp pr.0 A × SameSpan cmp (span_of pr.0) (span_of pr.1)) (if t then ((a, b) ∷ leading_from cmp (span_of a ∷ seen) L P) else [])
      go true e r = ((h.0, same_by cmp o (span_of a) (span_of b) (and_parts (same_span cmp (span_of a) (span_of b)) (not (list_any (meets cmp (span_of a)) seen)) e).0), r)
      go false e r = tt

  module _ (a : Entry K D) (ls : List (Entry K D)) (b : Entry K D) (ps : List (Entry K D)) (found : List (Span K)) (d : AllOrdered (b ∷ ps))
      (tl : IsTreeShaped cmp (a ∷ ls)) (tp : IsTreeShaped cmp (b ∷ ps))
      (ms : List (Mark K)) (P' L' : List (Entry K D)) (bad good : List (Span K))
      (w : Walk cmp (span_of b) None (b ∷ ps) (a ∷ ls) ms P' L') (mb : IsMerge cmp (bad_of ms) bad) (mg : IsMerge cmp (good_of ms) good) (c : IsExactCut cmp bad good found) where
    -- where the first digests agree, nothing is answered
    all-agree : (x : Into cmp (span_of b) b a ps ls P' L' ms) → x.0 ≡ true → found ≡ []
    all-agree (false, inner, after, P1, L1, j, v, u, e) t = cc
    all-agree (true, inner, after, P1, L1, j, v, u, e) t =
        let i = inv-empty cmp (subst (λ z. Walk cmp (span_of b) None z (after_holders cmp (span_of b) ls) inner P1 L1) (all-after (span_of b) ps tp.0) v) in
        let k = inv-empty cmp (subst (λ z. Walk cmp (span_of b) (Some (span_of b)) (after_within cmp (span_of b) z) L1 after P' L') i.1 u) in
        let m : ms ≡ Good (span_of b) ∷ [] = e ∙
        (ap (λ z. Good (span_of b) ∷ (z ++ (bad_marks cmp (front_within cmp (span_of b) P1) ++ after))) i.0
        ∙ (ap (λ z. Good (span_of b) ∷ (bad_marks cmp (front_within cmp (span_of b) z) ++ after)) i.1 ∙ ap (λ z. Good (span_of b) ∷ z) k.0)) in
        no-found cmp o bad good found (subst (λ z. IsMerge cmp (bad_of z) bad) m mb) c

    met-spared : EntryWithin cmp a b → Into cmp (span_of b) b a ps ls P' L' ms → AllByRecursion (SparedKeys found) (leading_from cmp [] ls ps)
    met-spared v (true, inner, after, P1, L1, j, x, u, e) = none-spared found (leading_from cmp [] ls ps) (all-agree (true, inner, after, P1, L1, j, x, u, e) refl)
    met-spared v (false, inner, after, P1, L1, j, x, u, e) =
        each-with (Spared inner) (SparedKeys found) (leading_from cmp [] ls ps) one
        (lead [] ls ps (subst (λ z. Walk cmp (span_of b) None ps z inner P1 L1) (no-holders a b ls v tl.1.0).0 x) d.1 tp.0 tl.1.1)
      where
        one : (pr : Entry K D × Entry K D) → Spared inner pr → SparedKeys found pr
        one pr f g k i h =
            let y = subst (AnyByRecursion (λ m. m ≡ Good (span_of pr.1))) (sym e)
            (inr (any-left (λ m. m ≡ Good (span_of pr.1)) inner (bad_marks cmp (front_within cmp (span_of b) P1) ++ after) (f g))) in
            let z = merge-holds cmp o (span_of pr.1) (good_of ms) good (good-ordered cmp o (a ∷ ls) b ps found d ms P' L' bad good w mb mg c) mg (in-good cmp o (span_of pr.1) ms y) in
            any-get (λ q. ¬ (IsInside cmp k q)) (IsWithin cmp (span_of pr.1)) ⊥ good
            (λ q n v. n (up_low cmp o q.first pr.1.first k v.0 i.0, low_up cmp o k pr.1.last q.last i.1 v.1))
            ((law cmp o (a ∷ ls) b ps found d ms P' L' bad good w mb mg c).kept k h).1 z

    table : IsByTable cmp (a ∷ ls) (b ∷ ps) found
    table = by-table cmp o (a ∷ ls) b ps found d (ms, P', L', bad, good, w, mb, mg, c)

    -- local's first entry begins and ends after the peer's
    front-spared : Below cmp b.first a.first → Below cmp b.last a.last → AllByRecursion (SparedKeys found) (leading_from cmp [] ls ps)
    front-spared x y =
        each-with (λ pr. EntryWithin cmp pr.0 a × SameSpan cmp (span_of pr.0) (span_of pr.1)) (SparedKeys found) (leading_from cmp [] ls ps)
        (λ pr v g k i h. no pr v k i (in-same cmp o k found (record { first = b.first; last = lesser cmp a.first b.last } ∷ []) (table.before x y) h)) (run-in a [] ls ps tl.0)
      where
        no : (pr : Entry K D × Entry K D) → EntryWithin cmp pr.0 a × SameSpan cmp (span_of pr.0) (span_of pr.1) → (k : K) → IsInside cmp k (span_of pr.1)
            → IsCovered cmp k (record { first = b.first; last = lesser cmp a.first b.last } ∷ []) → ⊥
        no pr v k i (inl h) = not_both cmp o k a.first (up_up cmp o k (lesser cmp a.first b.last) a.first h.1 (lesser-below cmp o a.first b.last))
            (up_low cmp o a.first pr.1.first k (up_up cmp o a.first pr.0.first pr.1.first v.0.0 (same_up cmp o pr.0.first pr.1.first v.1.0)) i.0)
        no pr v k i (inr h) = h

    all-spared : AllByRecursion (SparedKeys found) (leading_from cmp [] ls ps)
    all-spared = go (may-or_none cmp o a b (a ∷ ls) (b ∷ ps) found table)
      where
        go : MayAnswer cmp a b ⊎ (found ≡ []) → AllByRecursion (SparedKeys found) (leading_from cmp [] ls ps)
        go (inl (inl x)) = front-spared x.0 x.1
        go (inl (inr v)) = met-spared v (inv-into cmp w (within_self cmp o (span_of b)) (to_within cmp o (span_of a) (span_of b) v))
        go (inr e) = none-spared found (leading_from cmp [] ls ps) e

    firsts-agree : SameSpan cmp (span_of a) (span_of b) → a.digest ≡ b.digest → found ≡ []
    firsts-agree s g =
        let v : EntryWithin cmp a b = (same_down cmp o a.first b.first s.0, same_up cmp o a.last b.last s.1) in
        let x = inv-into cmp w (within_self cmp o (span_of b)) (to_within cmp o (span_of a) (span_of b) v) in
        all-agree x (agree-by x.0 x.5 (ap (λ z. z.digest) (no-holders a b ls v tl.1.0).1 ∙ g))

  -- on tree-shaped lists what agrees is spared
  pub spares : (ls ps : List (Entry K D)) (found : List (Span K)) → AllOrdered ps → IsTreeShaped cmp ls → IsTreeShaped cmp ps → IsByWalk cmp ls ps found → SparesAgreed cmp ls ps found
  spares [] ps found d tl tp h = record { spared = λ k x. absurd x; equal = λ x. absurd x }
  spares (a ∷ ls) [] found d tl tp h = record { spared = λ k x. absurd x; equal = λ x. absurd x }
  spares (a ∷ ls) (b ∷ ps) found d tl tp (ms, P', L', bad, good, w, mb, mg, c) = record {
    spared = λ k x i. any-get (SparedKeys found) (λ p. (p.0.digest ≡ p.1.digest) × IsInside cmp k (span_of p.1)) ⊥ (leading_from cmp [] ls ps) (λ pr f y. f y.0 k y.1 i)
        (all-spared a ls b ps found d tl tp ms P' L' bad good w mb mg c) x;
    equal = λ x. firsts-agree a ls b ps found d tl tp ms P' L' bad good w mb mg c x.0 x.1;
  }
