-- The exact walk on lists of the same entries marks the same spans, so that its answer is one on both.
use Rattle.std.proofs.Common.{◌≡◌, Bool, true, false, if◌then◌else◌, List, [], ◌∷◌, ◌++◌, map, Option, Some, None, refl, sym, ◌∙◌}
use Rattle.std.specs.Cmp.{IsTotalOrder}
use Rattle.std.specs.declared.cmp.Ordering.{Ordering}
use Rattle.key_order.specs.Order.{AnyByRecursion, Same, upto}
use Rattle.key_order.specs.Interval.{Span, SameSpan, is_within}
use Rattle.key_order.proofs.Orders.{compare-same}
use Rattle.key_order.proofs.SameKeys.{SameKeys, any-same, all-same, ascending-same}
use Rattle.merkle_diff.specs.Cut.{pieces_left}
use Rattle.merkle_diff.specs.Difference.{IsByWalk, IsAnswer}
use Rattle.merkle_diff.specs.Entry.{Entry, span_of}
use Rattle.merkle_diff.specs.Merge.{AreThose, IsMerge, SameSpans}
use Rattle.merkle_diff.specs.SameEntries.{SameEntry, SameEntries}
use Rattle.merkle_diff.specs.Walk.{Walk, no_peer, outside, held, no_local, between, agrees, differs, Mark, Bad, Good, bad_of, good_of, gap_start, gap_mark, gap_end, front_within, after_within, last_holder, after_holders, bad_marks}
use Rattle.merkle_diff.proofs.Each.{any-map, each-with}
use Rattle.merkle_diff.proofs.OneAnswer.{merge-same, one_answer}
use Rattle.merkle_diff.proofs.OrderTests.{same_back, same_trans}
use Rattle.merkle_diff.proofs.SameAnswers.{none-same}
use Rattle.merkle_diff.proofs.SameEntries.{same_entries-back}
use Rattle.merkle_diff.proofs.SameLists.{difference-alike, spares-alike, shaped-alike}
use Rattle.merkle_diff.proofs.SameSpans.{same_spans-own, same-firsts, same-lasts}

module _ {K : Type 0} (cmp : K → K → Ordering) where
  -- the same mark, of spans with equal bounds
  abbrev SameMark : Mark K → Mark K → Type 0
  SameMark (Bad s) (Bad t) = SameSpan cmp s t
  SameMark (Bad s) (Good t) = ⊥
  SameMark (Good s) (Bad t) = ⊥
  SameMark (Good s) (Good t) = SameSpan cmp s t

  abbrev SameMarks : List (Mark K) → List (Mark K) → Type 0
  SameMarks [] [] = Unit {0}
  SameMarks [] (n ∷ ns) = ⊥
  SameMarks (m ∷ ms) [] = ⊥
  SameMarks (m ∷ ms) (n ∷ ns) = SameMark m n × SameMarks ms ns

  abbrev SameLast : Option (Span K) → Option (Span K) → Type 0
  SameLast None None = Unit {0}
  SameLast None (Some t) = ⊥
  SameLast (Some s) None = ⊥
  SameLast (Some s) (Some t) = SameSpan cmp s t

  marks-append : (ms ns us vs : List (Mark K)) → SameMarks ms ns → SameMarks us vs → SameMarks (ms ++ us) (ns ++ vs)
  marks-append [] [] us vs h k = k
  marks-append [] (n ∷ ns) us vs h k = absurd h
  marks-append (m ∷ ms) [] us vs h k = absurd h
  marks-append (m ∷ ms) (n ∷ ns) us vs h k = (h.0, marks-append ms ns us vs h.1 k)

  bad-alike : (ms ns : List (Mark K)) → SameMarks ms ns → SameSpans cmp (bad_of ms) (bad_of ns)
  bad-alike [] [] h = tt
  bad-alike [] (n ∷ ns) h = absurd h
  bad-alike (m ∷ ms) [] h = absurd h
  bad-alike (Bad s ∷ ms) (Bad t ∷ ns) h = (h.0, bad-alike ms ns h.1)
  bad-alike (Bad s ∷ ms) (Good t ∷ ns) h = absurd h.0
  bad-alike (Good s ∷ ms) (Bad t ∷ ns) h = absurd h.0
  bad-alike (Good s ∷ ms) (Good t ∷ ns) h = bad-alike ms ns h.1

  good-alike : (ms ns : List (Mark K)) → SameMarks ms ns → SameSpans cmp (good_of ms) (good_of ns)
  good-alike [] [] h = tt
  good-alike [] (n ∷ ns) h = absurd h
  good-alike (m ∷ ms) [] h = absurd h
  good-alike (Bad s ∷ ms) (Bad t ∷ ns) h = good-alike ms ns h.1
  good-alike (Bad s ∷ ms) (Good t ∷ ns) h = absurd h.0
  good-alike (Good s ∷ ms) (Bad t ∷ ns) h = absurd h.0
  good-alike (Good s ∷ ms) (Good t ∷ ns) h = (h.0, good-alike ms ns h.1)

  gap_start-alike : (R S : Span K) (last end : Option (Span K)) → SameSpan cmp R S → SameLast last end → Same cmp (gap_start R last) (gap_start S end)
  gap_start-alike R S None None h k = h.0
  gap_start-alike R S None (Some t) h k = absurd k
  gap_start-alike R S (Some s) None h k = absurd k
  gap_start-alike R S (Some s) (Some t) h k = k.1

module _ {K : Type 0} (cmp : K → K → Ordering) (o : IsTotalOrder cmp) where
  is_within-alike : (s t u v : Span K) → SameSpan cmp s u → SameSpan cmp t v → is_within cmp s t ≡ is_within cmp u v
  is_within-alike s t u v h k = rw (compare-same cmp o t.first v.first s.first u.first k.0 h.0, compare-same cmp o s.last u.last t.last v.last h.1 k.1) refl

  gap_mark-alike : (a b c d : K) → Same cmp a c → Same cmp b d → SameMarks cmp (gap_mark cmp a b) (gap_mark cmp c d)
  gap_mark-alike a b c d h k = by (upto cmp a b) (upto cmp c d) (rw (compare-same cmp o a c b d h k) refl)
    where
      by : (p q : Bool) → p ≡ q → SameMarks cmp (if p then (Bad (record { first = a; last = b }) ∷ []) else []) (if q then (Bad (record { first = c; last = d }) ∷ []) else [])
      by true true e = ((h, k), tt)
      by false false e = tt
      by true false e = absurd (cc)
      by false true e = absurd (cc)

  -- a list has the merges of the same spans
  merged-alike : (from merged found : List (Span K)) → SameSpans cmp merged found → IsMerge cmp from merged → IsMerge cmp from found
  merged-alike from merged found h m = record {
    starts = those (map (λ s. s.first) from) _ (map (λ s. s.first) merged) (map (λ s. s.first) found) (same-firsts cmp merged found h) m.starts;
    ends = those (map (λ s. s.last) from) _ (map (λ s. s.last) merged) (map (λ s. s.last) found) (same-lasts cmp merged found h) m.ends;
  }
    where
      those : (from : List K) (P : K → Type 0) (ks js : List K) → SameKeys cmp ks js → AreThose cmp from P ks → AreThose cmp from P js
      those from P ks js s a = record {
        ascends = ascending-same cmp o ks js s a.ascends;
        sound = all-same cmp (λ k. AnyByRecursion (λ i. Same cmp k i × P i) from) (λ j. AnyByRecursion (λ i. Same cmp j i × P i) from)
            (λ k j e. any-map (λ i. Same cmp k i × P i) (λ i. Same cmp j i × P i) from (λ i g. (same_trans cmp o j k i (same_back cmp o k j e) g.0, g.1))) ks js s a.sound;
        complete = each-with (λ i. P i → AnyByRecursion (Same cmp i) ks) (λ i. P i → AnyByRecursion (Same cmp i) js) from
            (λ i f p. any-same cmp (Same cmp i) (Same cmp i) (λ k j e g. same_trans cmp o i k j g e) ks js s (f p)) a.complete;
      }

module _ {K D : Type 0} (cmp : K → K → Ordering) (o : IsTotalOrder cmp) where
  gap_end-alike : (p q : Entry K D) (L M : List (Entry K D)) → SameEntry cmp p q → SameEntries cmp L M → Same cmp (gap_end cmp p L) (gap_end cmp q M)
  gap_end-alike p q [] [] h k = h.0.1
  gap_end-alike p q [] (m ∷ M) h k = absurd k
  gap_end-alike p q (l ∷ L) [] h k = absurd k
  gap_end-alike p q (l ∷ L) (m ∷ M) h k = by (upto cmp p.last l.first) (upto cmp q.last m.first) (rw (compare-same cmp o p.last q.last l.first m.first h.0.1 k.0.0.0) refl)
    where
      by : (v w : Bool) → v ≡ w → Same cmp (if v then p.last else l.first) (if w then q.last else m.first)
      by true true e = h.0.1
      by false false e = k.0.0.0
      by true false e = absurd (cc)
      by false true e = absurd (cc)

  front-alike : (s t : Span K) → SameSpan cmp s t → (P Q : List (Entry K D)) → SameEntries cmp P Q → SameEntries cmp (front_within cmp s P) (front_within cmp t Q)
  front-alike s t h [] [] k = tt
  front-alike s t h [] (q ∷ Q) k = absurd k
  front-alike s t h (p ∷ P) [] k = absurd k
  front-alike s t h (p ∷ P) (q ∷ Q) k = by (is_within cmp (span_of p) s) (is_within cmp (span_of q) t) (is_within-alike cmp o (span_of p) s (span_of q) t k.0.0 h) (front-alike s t h P Q k.1)
    where
      by : (v w : Bool) → v ≡ w → SameEntries cmp (front_within cmp s P) (front_within cmp t Q)
          → SameEntries cmp (if v then (p ∷ front_within cmp s P) else []) (if w then (q ∷ front_within cmp t Q) else [])
      by true true e f = (k.0, f)
      by false false e f = tt
      by true false e f = absurd (cc)
      by false true e f = absurd (cc)

  after-alike : (s t : Span K) → SameSpan cmp s t → (P Q : List (Entry K D)) → SameEntries cmp P Q → SameEntries cmp (after_within cmp s P) (after_within cmp t Q)
  after-alike s t h [] [] k = tt
  after-alike s t h [] (q ∷ Q) k = absurd k
  after-alike s t h (p ∷ P) [] k = absurd k
  after-alike s t h (p ∷ P) (q ∷ Q) k = by (is_within cmp (span_of p) s) (is_within cmp (span_of q) t) (is_within-alike cmp o (span_of p) s (span_of q) t k.0.0 h) (after-alike s t h P Q k.1)
    where
      by : (v w : Bool) → v ≡ w → SameEntries cmp (after_within cmp s P) (after_within cmp t Q)
          → SameEntries cmp (if v then after_within cmp s P else (p ∷ P)) (if w then after_within cmp t Q else (q ∷ Q))
      by true true e f = f
      by false false e f = k
      by true false e f = absurd (cc)
      by false true e f = absurd (cc)

  holder-alike : (s t : Span K) → SameSpan cmp s t → (l m : Entry K D) → SameEntry cmp l m → (L M : List (Entry K D)) → SameEntries cmp L M
      → SameEntry cmp (last_holder cmp s l L) (last_holder cmp t m M)
  holder-alike s t h l m e [] [] k = e
  holder-alike s t h l m e [] (y ∷ M) k = absurd k
  holder-alike s t h l m e (x ∷ L) [] k = absurd k
  holder-alike s t h l m e (x ∷ L) (y ∷ M) k =
      by (is_within cmp s (span_of x)) (is_within cmp t (span_of y)) (is_within-alike cmp o s (span_of x) t (span_of y) h k.0.0) (holder-alike s t h x y k.0 L M k.1)
    where
      by : (v w : Bool) → v ≡ w → SameEntry cmp (last_holder cmp s x L) (last_holder cmp t y M) → SameEntry cmp (if v then last_holder cmp s x L else l) (if w then last_holder cmp t y M else m)
      by true true r f = f
      by false false r f = e
      by true false r f = absurd (cc)
      by false true r f = absurd (cc)

  holders-alike : (s t : Span K) → SameSpan cmp s t → (L M : List (Entry K D)) → SameEntries cmp L M → SameEntries cmp (after_holders cmp s L) (after_holders cmp t M)
  holders-alike s t h [] [] k = tt
  holders-alike s t h [] (y ∷ M) k = absurd k
  holders-alike s t h (x ∷ L) [] k = absurd k
  holders-alike s t h (x ∷ L) (y ∷ M) k =
      by (is_within cmp s (span_of x)) (is_within cmp t (span_of y)) (is_within-alike cmp o s (span_of x) t (span_of y) h k.0.0) (holders-alike s t h L M k.1)
    where
      by : (v w : Bool) → v ≡ w → SameEntries cmp (after_holders cmp s L) (after_holders cmp t M)
          → SameEntries cmp (if v then after_holders cmp s L else (x ∷ L)) (if w then after_holders cmp t M else (y ∷ M))
      by true true r f = f
      by false false r f = k
      by true false r f = absurd (cc)
      by false true r f = absurd (cc)

  bad_marks-alike : (P Q : List (Entry K D)) → SameEntries cmp P Q → SameMarks cmp (bad_marks cmp P) (bad_marks cmp Q)
  bad_marks-alike [] [] h = tt
  bad_marks-alike [] (q ∷ Q) h = absurd h
  bad_marks-alike (p ∷ P) [] h = absurd h
  bad_marks-alike (p ∷ P) (q ∷ Q) h = (h.0.0, bad_marks-alike P Q h.1)

  -- a walk on the same lists, which makes the same marks and leaves the same rests
  abbrev WalksAlike : Span K → Option (Span K) → List (Entry K D) → List (Entry K D) → List (Mark K) → List (Entry K D) → List (Entry K D) → Type 0
  WalksAlike S end Q M ms P1 L1 = (ns : List (Mark K)) × (Q1 : List (Entry K D)) × (M1 : List (Entry K D)) × Walk cmp S end Q M ns Q1 M1 × SameMarks cmp ms ns
      × SameEntries cmp P1 Q1 × SameEntries cmp L1 M1

  walk-alike : {R : Span K} {last : Option (Span K)} {P L P1 L1 : List (Entry K D)} {ms : List (Mark K)} → Walk cmp R last P L ms P1 L1
      → (S : Span K) (end : Option (Span K)) (Q M : List (Entry K D)) → SameSpan cmp R S → SameLast cmp last end → SameEntries cmp P Q → SameEntries cmp L M → WalksAlike S end Q M ms P1 L1
  walk-alike no_peer S end [] M r e h k = ([], [], M, no_peer, tt, tt, k)
  walk-alike no_peer S end (q ∷ Q) M r e h k = absurd h
  walk-alike (outside i) S end [] M r e h k = absurd h
  walk-alike {R = R} (outside {p = p} i) S end (q ∷ Q) M r e h k =
      ([], q ∷ Q, M, outside (sym (is_within-alike cmp o (span_of p) R (span_of q) S h.0.0 r) ∙ i), tt, h, k)
  walk-alike (held i j n) S end [] M r e h k = absurd h
  walk-alike (held i j n) S end (q ∷ Q) [] r e h k = absurd k
  walk-alike {R = R} (held {p = p} {l = l} i j n) S end (q ∷ Q) (m ∷ M) r e h k = (
    [],
    Q,
    m ∷ M,
    held (sym (is_within-alike cmp o (span_of p) R (span_of q) S h.0.0 r) ∙ i)
        (sym (is_within-alike cmp o (span_of l) (span_of p) (span_of m) (span_of q) k.0.0 h.0.0) ∙ j)
        (sym (is_within-alike cmp o (span_of p) (span_of l) (span_of q) (span_of m) h.0.0 k.0.0) ∙ n),
    tt,
    h.1,
    k,
  )
  walk-alike (no_local i) S end [] M r e h k = absurd h
  walk-alike (no_local i) S end (q ∷ Q) (m ∷ M) r e h k = absurd k
  walk-alike {R = R} {last = last} (no_local {p = p} i) S end (q ∷ Q) [] r e h k = (
    gap_mark cmp (gap_start S end) (gap_end cmp q []),
    Q,
    [],
    no_local (sym (is_within-alike cmp o (span_of p) R (span_of q) S h.0.0 r) ∙ i),
    gap_mark-alike cmp o (gap_start R last) (gap_end cmp p []) (gap_start S end) (gap_end cmp q []) (gap_start-alike cmp R S last end r e) (gap_end-alike p q [] [] h.0 tt),
    h.1,
    tt,
  )
  walk-alike (between i j n) S end [] M r e h k = absurd h
  walk-alike (between i j n) S end (q ∷ Q) [] r e h k = absurd k
  walk-alike {R = R} {last = last} (between {p = p} {l = l} {L = L} i j n) S end (q ∷ Q) (m ∷ M) r e h k = (
    gap_mark cmp (gap_start S end) (gap_end cmp q (m ∷ M)),
    Q,
    m ∷ M,
    between (sym (is_within-alike cmp o (span_of p) R (span_of q) S h.0.0 r) ∙ i)
        (sym (is_within-alike cmp o (span_of l) (span_of p) (span_of m) (span_of q) k.0.0 h.0.0) ∙ j)
        (sym (is_within-alike cmp o (span_of p) (span_of l) (span_of q) (span_of m) h.0.0 k.0.0) ∙ n),
    gap_mark-alike cmp o (gap_start R last) (gap_end cmp p (l ∷ L)) (gap_start S end) (gap_end cmp q (m ∷ M)) (gap_start-alike cmp R S last end r e) (gap_end-alike p q (l ∷ L) (m ∷ M) h.0 k),
    h.1,
    k,
  )
  walk-alike (agrees i j d w v) S end [] M r e h k = absurd h
  walk-alike (agrees i j d w v) S end (q ∷ Q) [] r e h k = absurd k
  walk-alike {R = R} (agrees {p = p} {l = l} {P = P} {L = L} {P' = P'} {inner = inner} {after = after} i j d w v) S end (q ∷ Q) (m ∷ M) r e h k =
      let s = span_of p in
      let t = span_of q in
      let last_same = holder-alike s t h.0.0 l m k.0 L M k.1 in
      let (marks, Q1, M1, w', same, hp, hl) = walk-alike w t None (after_within cmp t Q) (after_holders cmp t M) h.0.0 tt (after-alike s t h.0.0 P Q h.1) (holders-alike s t h.0.0 L M k.1) in
      let (more, Q2, M2, v', same', hp', hl') = walk-alike v S (Some t) (after_within cmp t Q1) M1 r h.0.0 (after-alike s t h.0.0 P' Q1 hp) hl in (
        Good t ∷ (marks ++ (bad_marks cmp (front_within cmp t Q1) ++ more)),
        Q2,
        M2,
        agrees (sym (is_within-alike cmp o s R t S h.0.0 r) ∙ i) (sym (is_within-alike cmp o (span_of l) s (span_of m) t k.0.0 h.0.0) ∙ j) (sym last_same.1 ∙ d ∙ h.0.1) w' v',
        (
          h.0.0,
          marks-append cmp inner marks _ _ same
              (marks-append cmp (bad_marks cmp (front_within cmp s P')) (bad_marks cmp (front_within cmp t Q1)) after more
              (bad_marks-alike (front_within cmp s P') (front_within cmp t Q1) (front-alike s t h.0.0 P' Q1 hp)) same'),
        ),
        hp',
        hl',
      )
  walk-alike (differs i j d w v) S end [] M r e h k = absurd h
  walk-alike (differs i j d w v) S end (q ∷ Q) [] r e h k = absurd k
  walk-alike {R = R} (differs {p = p} {l = l} {P = P} {L = L} {P' = P'} {inner = inner} {after = after} i j d w v) S end (q ∷ Q) (m ∷ M) r e h k =
      let s = span_of p in
      let t = span_of q in
      let last_same = holder-alike s t h.0.0 l m k.0 L M k.1 in
      let (marks, Q1, M1, w', same, hp, hl) = walk-alike w t None Q (after_holders cmp t M) h.0.0 tt h.1 (holders-alike s t h.0.0 L M k.1) in
      let (more, Q2, M2, v', same', hp', hl') = walk-alike v S (Some t) (after_within cmp t Q1) M1 r h.0.0 (after-alike s t h.0.0 P' Q1 hp) hl in (
        Bad t ∷ (marks ++ (bad_marks cmp (front_within cmp t Q1) ++ more)),
        Q2,
        M2,
        differs (sym (is_within-alike cmp o s R t S h.0.0 r) ∙ i) (sym (is_within-alike cmp o (span_of l) s (span_of m) t k.0.0 h.0.0) ∙ j) (λ f. d (last_same.1 ∙ f ∙ sym h.0.1)) w' v',
        (
          h.0.0,
          marks-append cmp inner marks _ _ same
              (marks-append cmp (bad_marks cmp (front_within cmp s P')) (bad_marks cmp (front_within cmp t Q1)) after more
              (bad_marks-alike (front_within cmp s P') (front_within cmp t Q1) (front-alike s t h.0.0 P' Q1 hp)) same'),
        ),
        hp',
        hl',
      )

  -- the exact walk holds of the same lists and the same ranges
  pub by_walk-alike : (ls bs ps qs : List (Entry K D)) (xs ys : List (Span K)) → SameEntries cmp ls bs → SameEntries cmp ps qs → SameSpans cmp xs ys → IsByWalk cmp ls ps xs → IsByWalk cmp bs qs ys
  by_walk-alike ls bs [] [] xs ys h k s w = none-same cmp o xs ys s w
  by_walk-alike ls bs [] (q ∷ qs) xs ys h k s w = absurd k
  by_walk-alike ls bs (p ∷ ps) [] xs ys h k s w = absurd k
  by_walk-alike ls bs (p ∷ ps) (q ∷ qs) xs ys h k s (ms, P, L, bad, good, w, b, g, c) =
      let (ns, Q1, M1, v, same, hp, hl) = walk-alike w (span_of q) None (q ∷ qs) bs k.0.0 tt k h in (
        ns,
        Q1,
        M1,
        bad,
        good,
        v,
        merge-same cmp o (bad_of ms) (bad_of ns) bad (bad-alike cmp ms ns same) b,
        merge-same cmp o (good_of ms) (good_of ns) good (good-alike cmp ms ns same) g,
        merged-alike cmp o (pieces_left cmp bad good) xs ys s c,
      )

  -- the exact walk has one answer on the same lists
  pub one_answer-alike : (ls bs ps qs : List (Entry K D)) (xs ys : List (Span K)) → SameEntries cmp ls bs → SameEntries cmp ps qs → IsByWalk cmp ls ps xs → IsByWalk cmp bs qs ys → SameSpans cmp xs ys
  one_answer-alike ls bs ps qs xs ys h k w v = one_answer cmp o bs qs xs ys (by_walk-alike ls bs ps qs xs xs h k (same_spans-own cmp o xs) w) v

  -- so what `diff` answers on two lists is what it answers on the same lists
  pub answer-alike : (ls bs ps qs : List (Entry K D)) (xs ys : List (Span K)) → SameEntries cmp ls bs → SameEntries cmp ps qs → SameSpans cmp xs ys → IsAnswer cmp ls ps xs → IsAnswer cmp bs qs ys
  answer-alike ls bs ps qs xs ys h k s a = record {
    interval_laws = difference-alike cmp o ls bs ps qs xs ys h k s a.interval_laws;
    laws_on_trees = λ t u.
        spares-alike cmp o ls bs ps qs xs ys h k s (a.laws_on_trees (shaped-alike cmp o bs ls (same_entries-back cmp o ls bs h) t) (shaped-alike cmp o qs ps (same_entries-back cmp o ps qs k) u));
    exact_walk = by_walk-alike ls bs ps qs xs ys h k s a.exact_walk;
  }
