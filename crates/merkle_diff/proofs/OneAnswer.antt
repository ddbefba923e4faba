-- The walk has one answer: two answers on the same lists have the same spans.
use Rattle.std.proofs.Common.{◌≡◌, Bool, true, false, if◌then◌else◌, List, [], ◌∷◌, ◌++◌, map, Option, Some, None, refl, ◌∙◌, subst}
use Rattle.std.proofs.lemmas.List.Concat.{flat_map-cons}
use Rattle.std.specs.Cmp.{IsTotalOrder}
use Rattle.std.specs.List.{flat_map}
use Rattle.std.specs.declared.cmp.Ordering.{Ordering}
use Rattle.key_order.specs.Order.{AnyByRecursion, Same, below}
use Rattle.key_order.specs.Interval.{Span, SameSpan, meets}
use Rattle.key_order.proofs.SameKeys.{SameKeys, any-same, all-same}
use Rattle.key_order.proofs.Orders.{compare-same, same_up, same_down}
use Rattle.merkle_diff.specs.Cut.{piece, cut_one, pieces_left}
use Rattle.merkle_diff.specs.Difference.{IsByWalk}
use Rattle.merkle_diff.specs.Entry.{Entry, span_of}
use Rattle.merkle_diff.specs.Merge.{AreThose, IsMerge, SameSpans}
use Rattle.merkle_diff.proofs.WalkStarts.{inv-empty, inv-outside, inv-nil, inv-held, inv-between, inv-into, agree-by, differ-by}
use Rattle.merkle_diff.proofs.Each.{any-map, each-with}
use Rattle.merkle_diff.proofs.Borders.{Border, bound, Across, Free, across-same, across-within}
use Rattle.merkle_diff.proofs.Borders.Border.{Start, End}
use Rattle.merkle_diff.proofs.OrderTests.{same_trans, same_back}
use Rattle.merkle_diff.proofs.Unique.{merge-unique, same-back, each-same}
use Rattle.merkle_diff.specs.Walk.{Walk, no_peer, outside, held, no_local, between, agrees, differs, Mark, Bad, Good, bad_of, good_of, bad_marks, front_within, after_within, after_holders}

module _ {K D : Type 0} (cmp : K → K → Ordering) where
  -- a walk of a span over the same lists makes the same marks
  same_walk : {R : Span K} {last : Option (Span K)} {P L P1 L1 P2 L2 : List (Entry K D)} {ms ns : List (Mark K)} → Walk cmp R last P L ms P1 L1 → Walk cmp R last P L ns P2 L2
      → (ns ≡ ms) × (P2 ≡ P1) × (L2 ≡ L1)
  same_walk no_peer u = inv-empty cmp u
  same_walk (outside h) u = inv-outside cmp u h
  same_walk (held h i j) u = inv-held cmp u h i j
  same_walk (no_local h) u = inv-nil cmp u h
  same_walk (between h i j) u = inv-between cmp u h i j
  same_walk {R = R} {P2 = P2} {L2 = L2} (agrees {p = p} {P = P} {L = L} {L' = L'} h i j w v) u =
      let x = inv-into cmp u h i in
      let t = agree-by x.0 x.5 j in
      let m = same_walk w (subst (λ b. Walk cmp (span_of p) None (if b then after_within cmp (span_of p) P else P) (after_holders cmp (span_of p) L) x.1 x.3 x.4) t x.6) in
      let n = same_walk v (subst (λ q. Walk cmp R (Some (span_of p)) (after_within cmp (span_of p) q) L' x.2 P2 L2) m.1
      (subst (λ q. Walk cmp R (Some (span_of p)) (after_within cmp (span_of p) x.3) q x.2 P2 L2) m.2 x.7)) in
      (x.8 ∙ (λ k. (if t k then Good (span_of p) else Bad (span_of p)) ∷ (m.0 k ++ (bad_marks cmp (front_within cmp (span_of p) (m.1 k)) ++ n.0 k))), n.1, n.2)
  same_walk {R = R} {P2 = P2} {L2 = L2} (differs {p = p} {P = P} {L = L} {L' = L'} h i j w v) u =
      let x = inv-into cmp u h i in
      let t = differ-by x.0 x.5 j in
      let m = same_walk w (subst (λ b. Walk cmp (span_of p) None (if b then after_within cmp (span_of p) P else P) (after_holders cmp (span_of p) L) x.1 x.3 x.4) t x.6) in
      let n = same_walk v (subst (λ q. Walk cmp R (Some (span_of p)) (after_within cmp (span_of p) q) L' x.2 P2 L2) m.1
      (subst (λ q. Walk cmp R (Some (span_of p)) (after_within cmp (span_of p) x.3) q x.2 P2 L2) m.2 x.7)) in
      (x.8 ∙ (λ k. (if t k then Good (span_of p) else Bad (span_of p)) ∷ (m.0 k ++ (bad_marks cmp (front_within cmp (span_of p) (m.1 k)) ++ n.0 k))), n.1, n.2)

module _ {K : Type 0} (cmp : K → K → Ordering) (o : IsTotalOrder cmp) where
  pub spans-append : (xs ys us vs : List (Span K)) → SameSpans cmp xs us → SameSpans cmp ys vs → SameSpans cmp (xs ++ ys) (us ++ vs)
  spans-append [] ys [] vs e f = f
  spans-append [] ys (u ∷ us) vs e f = absurd e
  spans-append (x ∷ xs) ys [] vs e f = absurd e
  spans-append (x ∷ xs) ys (u ∷ us) vs e f = (e.0, spans-append xs ys us vs e.1 f)

  piece-same : (a b c d : K) → Same cmp a b → Same cmp c d → SameSpans cmp (piece cmp a c) (piece cmp b d)
  piece-same a b c d e f = by (below cmp a c) (below cmp b d) (rw (compare-same cmp o a b c d e f) refl)
    where
      by : (p q : Bool) → p ≡ q → SameSpans cmp (if p then (record { first = a; last = c } ∷ []) else []) (if q then (record { first = b; last = d } ∷ []) else [])
      by true true r = ((e, f), tt)
      by false false r = tt
      by true false r = absurd (cc)
      by false true r = absurd (cc)

  cut-same : (g h s t : Span K) → SameSpan cmp g h → SameSpan cmp s t → SameSpans cmp (cut_one cmp g s) (cut_one cmp h t)
  cut-same g h s t e f = by (meets cmp g s) (meets cmp h t) (rw (compare-same cmp o g.first h.first s.last t.last e.0 f.1, compare-same cmp o s.first t.first g.last h.last f.0 e.1) refl)
    where
      by : (p q : Bool) → p ≡ q → SameSpans cmp (if p then (piece cmp s.first g.first ++ piece cmp g.last s.last) else (s ∷ []))
          (if q then (piece cmp t.first h.first ++ piece cmp h.last t.last) else (t ∷ []))
      by true true r =
          spans-append (piece cmp s.first g.first) (piece cmp g.last s.last) (piece cmp t.first h.first) (piece cmp h.last t.last)
          (piece-same s.first t.first g.first h.first f.0 e.0) (piece-same g.last h.last s.last t.last e.1 f.1)
      by false false r = (f, tt)
      by true false r = absurd (cc)
      by false true r = absurd (cc)

  flat-same : (g h : Span K) → SameSpan cmp g h → (xs ys : List (Span K)) → SameSpans cmp xs ys → SameSpans cmp (flat_map (cut_one cmp g) xs) (flat_map (cut_one cmp h) ys)
  flat-same g h e [] [] f = tt
  flat-same g h e [] (y ∷ ys) f = absurd f
  flat-same g h e (x ∷ xs) [] f = absurd f
  flat-same g h e (x ∷ xs) (y ∷ ys) f =
      rw (flat_map-cons (cut_one cmp g) x xs, flat_map-cons (cut_one cmp h) y ys)
      (spans-append (cut_one cmp g x) (flat_map (cut_one cmp g) xs) (cut_one cmp h y) (flat_map (cut_one cmp h) ys) (cut-same g h x y e f.0) (flat-same g h e xs ys f.1))

  left-same : (good fine : List (Span K)) → SameSpans cmp good fine → (bad poor : List (Span K)) → SameSpans cmp bad poor → SameSpans cmp (pieces_left cmp bad good) (pieces_left cmp poor fine)
  left-same [] [] e bad poor f = f
  left-same [] (h ∷ fine) e bad poor f = absurd e
  left-same (g ∷ good) [] e bad poor f = absurd e
  left-same (g ∷ good) (h ∷ fine) e bad poor f = left-same good fine e.1 (flat_map (cut_one cmp g) bad) (flat_map (cut_one cmp h) poor) (flat-same g h e.0 bad poor f)

  those-same : (P Q : K → Type 0) → ((a b : K) → Same cmp a b → P a → Q b) → ((a b : K) → Same cmp a b → Q b → P a) → (from to ks : List K)
      → SameKeys cmp from to → AreThose cmp from P ks → AreThose cmp to Q ks
  those-same P Q p q from to ks e m = record {
    ascends = m.ascends;
    sound = each-with (λ k. AnyByRecursion (λ j. Same cmp k j × P j) from) (λ k. AnyByRecursion (λ j. Same cmp k j × Q j) to) ks
        (λ k h. any-same cmp (λ j. Same cmp k j × P j) (λ j. Same cmp k j × Q j) (λ a b f i. (same_trans cmp o k a b i.0 f, p a b f i.1)) from to e h) m.sound;
    complete = all-same cmp (λ j. P j → AnyByRecursion (Same cmp j) ks) (λ j. Q j → AnyByRecursion (Same cmp j) ks)
        (λ a b f g i. any-map (Same cmp a) (Same cmp b) ks (λ x r. same_trans cmp o b a x (same_back cmp o a b f) r) (g (q a b f i))) from to e m.complete;
  }

  module _ (e : Border) where
    bound-same : (s t : Span K) → SameSpan cmp s t → Same cmp (bound e s) (bound e t)
    bound-same s t h = go e
      where
        go : (e : Border) → Same cmp (bound e s) (bound e t)
        go Start = h.0
        go End = h.1

    bounds-same : (xs ys : List (Span K)) → SameSpans cmp xs ys → SameKeys cmp (map (bound e) xs) (map (bound e) ys)
    bounds-same [] [] h = tt
    bounds-same [] (y ∷ ys) h = absurd h
    bounds-same (x ∷ xs) [] h = absurd h
    bounds-same (x ∷ xs) (y ∷ ys) h = (bound-same x y h.0, bounds-same xs ys h.1)

    free-alike : (xs ys : List (Span K)) → SameSpans cmp xs ys → (a b : K) → Same cmp a b → Free cmp e xs a → Free cmp e ys b
    free-alike xs ys h a b q = each-same cmp o (λ s. ¬ (Across cmp e a s)) (λ s. ¬ (Across cmp e b s)) xs ys
        (λ s t w n c. n (across-same cmp o e b a s (same_back cmp o a b q) (across-within cmp o e b t s (same_up cmp o s.first t.first w.0, same_down cmp o s.last t.last w.1) c))) h

    those-alike : (xs ys : List (Span K)) (ks : List K) → SameSpans cmp xs ys → AreThose cmp (map (bound e) xs) (Free cmp e xs) ks → AreThose cmp (map (bound e) ys) (Free cmp e ys) ks
    those-alike xs ys ks h = those-same (Free cmp e xs) (Free cmp e ys) (free-alike xs ys h)
        (λ a b q. free-alike ys xs (same-back cmp o xs ys h) b a (same_back cmp o a b q)) (map (bound e) xs) (map (bound e) ys) ks (bounds-same xs ys h)

  -- the same spans have the same merges
  pub merge-same : (xs ys merged : List (Span K)) → SameSpans cmp xs ys → IsMerge cmp xs merged → IsMerge cmp ys merged
  merge-same xs ys merged h m = record { starts = those-alike Start xs ys (map (λ s. s.first) merged) h m.starts; ends = those-alike End xs ys (map (λ s. s.last) merged) h m.ends }

module _ {K D : Type 0} (cmp : K → K → Ordering) (o : IsTotalOrder cmp) where
  -- two answers by the walk on the same lists have the same spans
  pub one_answer : (ls ps : List (Entry K D)) (xs ys : List (Span K)) → IsByWalk cmp ls ps xs → IsByWalk cmp ls ps ys → SameSpans cmp xs ys
  one_answer ls [] xs ys e f = rw (e, f) tt
  one_answer ls (p ∷ ps) xs ys (ms, P, L, bad, good, w, m, n, c) (ns, P', L', poor, fine, w', m', n', c') =
      let same = same_walk cmp w w' in
      let bads = merge-unique cmp o (bad_of ms) bad poor m (subst (λ (q : List (Mark K)). IsMerge cmp (bad_of q) poor) same.0 m') in
      let goods = merge-unique cmp o (good_of ms) good fine n (subst (λ (q : List (Mark K)). IsMerge cmp (good_of q) fine) same.0 n') in
      merge-unique cmp o (pieces_left cmp poor fine) xs ys (merge-same cmp o (pieces_left cmp bad good) (pieces_left cmp poor fine) xs (left-same cmp o good fine goods bad poor bads) c) c'
