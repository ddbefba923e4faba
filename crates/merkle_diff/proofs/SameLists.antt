-- The laws of an answer on two lists hold of it on lists of the same entries.
use Rattle.std.proofs.Common.{◌≡◌, Bool, true, false, not, ◌&&◌, ◌||◌, if◌then◌else◌, List, [], ◌∷◌, ◌++◌, refl, sym, ◌∙◌, ◌⊎◌, inl, inr}
use Rattle.std.specs.Cmp.{IsTotalOrder}
use Rattle.std.specs.List.{list_any}
use Rattle.std.specs.declared.cmp.Ordering.{Ordering}
use Rattle.key_order.specs.Interval.{Span, IsIn, IsInside, SameSpan, IsCovered, meets, same_span}
use Rattle.key_order.specs.Order.{AnyByRecursion, Same, upto}
use Rattle.key_order.proofs.Orders.{compare-same, upto-same, below-same}
use Rattle.merkle_diff.specs.Difference.{HasDigestOf, IsAgreed, IsInFirst, IsBoundOfEntry, lesser, IsByFirsts, IsByTable, IsDifference, FirstsAgree, SparesAgreed}
use Rattle.merkle_diff.specs.Entry.{Entry, span_of, EntryWithin}
use Rattle.merkle_diff.specs.Merge.{SameSpans}
use Rattle.merkle_diff.specs.SameEntries.{SameEntry, SameEntries}
use Rattle.merkle_diff.specs.TreeShape.{HoldsNoneBefore, IsTreeShaped, leading_from, leading_run}
use Rattle.merkle_diff.proofs.Each.{each-with}
use Rattle.merkle_diff.proofs.IntervalLaws.{spans-trans}
use Rattle.merkle_diff.proofs.OrderTests.{same-self, same_back, same_trans}
use Rattle.merkle_diff.proofs.SameAnswers.{difference-same, spares-same}
use Rattle.merkle_diff.proofs.SameEntries.{same_entries-append, any-entry, each-entry, same_entry-back, same_entries-back}

module _ {K : Type 0} (cmp : K → K → Ordering) (o : IsTotalOrder cmp) where
  lesser-alike : (a b c d : K) → Same cmp a c → Same cmp b d → Same cmp (lesser cmp a b) (lesser cmp c d)
  lesser-alike a b c d h k = by (upto cmp a b) (upto cmp c d) (rw (compare-same cmp o a c b d h k) refl)
    where
      by : (p q : Bool) → p ≡ q → Same cmp (if p then a else b) (if q then c else d)
      by true true e = h
      by false false e = k
      by true false e = absurd (cc)
      by false true e = absurd (cc)

  meets-alike : (s t u v : Span K) → SameSpan cmp s u → SameSpan cmp t v → meets cmp s t ≡ meets cmp u v
  meets-alike s t u v h k = rw (compare-same cmp o s.first u.first t.last v.last h.0 k.1, compare-same cmp o t.first v.first s.last u.last k.0 h.1) refl

  some_meets-alike : (s u : Span K) → SameSpan cmp s u → (ss ts : List (Span K)) → SameSpans cmp ss ts → list_any (meets cmp s) ss ≡ list_any (meets cmp u) ts
  some_meets-alike s u h [] [] k = refl
  some_meets-alike s u h [] (t ∷ ts) k = absurd k
  some_meets-alike s u h (r ∷ ss) [] k = absurd k
  some_meets-alike s u h (r ∷ ss) (t ∷ ts) k = λ i. meets-alike s r u t h k.0 i || some_meets-alike s u h ss ts k.1 i

  same_span-alike : (s t u v : Span K) → SameSpan cmp s u → SameSpan cmp t v → same_span cmp s t ≡ same_span cmp u v
  same_span-alike s t u v h k = rw (compare-same cmp o s.first u.first t.first v.first h.0 k.0, compare-same cmp o s.last u.last t.last v.last h.1 k.1) refl

module _ {K D : Type 0} (cmp : K → K → Ordering) (o : IsTotalOrder cmp) where
  within-alike : (a b c d : Entry K D) → SameEntry cmp a c → SameEntry cmp b d → EntryWithin cmp a b → EntryWithin cmp c d
  within-alike a b c d h k w = (upto-same cmp o b.first d.first a.first c.first k.0.0 h.0.0 w.0, upto-same cmp o a.last c.last b.last d.last h.0.1 k.0.1 w.1)

  inside-alike : (k : K) (a b : Entry K D) → SameEntry cmp a b → IsInside cmp k (span_of a) → IsInside cmp k (span_of b)
  inside-alike k a b h i = (below-same cmp o a.first b.first k k h.0.0 (same-self cmp o k) i.0, below-same cmp o k k a.last b.last (same-self cmp o k) h.0.1 i.1)

  in-alike : (k : K) (a b : Entry K D) → SameEntry cmp a b → IsIn cmp k (span_of a) → IsIn cmp k (span_of b)
  in-alike k a b h i = (upto-same cmp o a.first b.first k k h.0.0 (same-self cmp o k) i.0, upto-same cmp o k k a.last b.last (same-self cmp o k) h.0.1 i.1)

  -- ---- the interval laws

  in_first-alike : (ps qs : List (Entry K D)) → SameEntries cmp ps qs → (s : Span K) → IsInFirst cmp ps s → IsInFirst cmp qs s
  in_first-alike [] [] h s i = i
  in_first-alike [] (q ∷ qs) h s i = absurd i
  in_first-alike (p ∷ ps) [] h s i = absurd h
  in_first-alike (p ∷ ps) (q ∷ qs) h s i = (
    upto-same cmp o p.first q.first s.first s.first h.0.0.0 (same-self cmp o s.first) i.0,
    upto-same cmp o s.last s.last p.last q.last (same-self cmp o s.last) h.0.0.1 i.1,
  )

  bound-alike : (ls bs : List (Entry K D)) → SameEntries cmp ls bs → (k : K) → IsBoundOfEntry cmp ls k → IsBoundOfEntry cmp bs k
  bound-alike ls bs h k = any-entry cmp (λ e. Same cmp k e.first ⊎ Same cmp k e.last) (λ e. Same cmp k e.first ⊎ Same cmp k e.last) one ls bs h
    where
      one : (a b : Entry K D) → SameEntry cmp a b → Same cmp k a.first ⊎ Same cmp k a.last → Same cmp k b.first ⊎ Same cmp k b.last
      one a b e (inl i) = inl (same_trans cmp o k a.first b.first i e.0.0)
      one a b e (inr i) = inr (same_trans cmp o k a.last b.last i e.0.1)

  has_digest-alike : (ls bs : List (Entry K D)) → SameEntries cmp ls bs → (p q : Entry K D) → SameEntry cmp p q → HasDigestOf p ls → HasDigestOf q bs
  has_digest-alike ls bs h p q e = any-entry cmp (λ a. a.digest ≡ p.digest) (λ b. b.digest ≡ q.digest) (λ a b f i. sym f.1 ∙ i ∙ e.1) ls bs h

  agreed-alike : (ls bs ps qs : List (Entry K D)) → SameEntries cmp ls bs → SameEntries cmp ps qs → (k : K) → IsAgreed cmp ls ps k → IsAgreed cmp bs qs k
  agreed-alike ls bs ps qs h e k = any-entry cmp (λ p. IsIn cmp k (span_of p) × HasDigestOf p ls) (λ q. IsIn cmp k (span_of q) × HasDigestOf q bs)
      (λ p q f i. (in-alike k p q f i.0, has_digest-alike ls bs h p q f i.1)) ps qs e

  firsts-alike : (a b c d : Entry K D) (ls bs ps qs : List (Entry K D)) (found : List (Span K)) → SameEntry cmp a c → SameEntry cmp b d → SameEntries cmp ls bs → SameEntries cmp ps qs
      → IsByFirsts cmp a b ls ps found → IsByFirsts cmp c d bs qs found
  firsts-alike a b c d ls bs ps qs found ac bd h e t =
      let ca = same_entry-back cmp o a c ac in
      let db = same_entry-back cmp o b d bd in
      record {
        before = λ l m.
            spans-trans cmp o found (record { first = b.first; last = lesser cmp a.first b.last } ∷ []) (record { first = d.first; last = lesser cmp c.first d.last } ∷ [])
            (t.before (below-same cmp o d.first b.first c.first a.first db.0.0 ca.0.0 l) (below-same cmp o d.last b.last c.last a.last db.0.1 ca.0.1 m))
            ((bd.0.0, lesser-alike cmp o a.first b.last c.first d.last ac.0.0 bd.0.1), tt);
        behind = λ l m. t.behind (below-same cmp o c.first a.first d.first b.first ca.0.0 db.0.0 l) (below-same cmp o c.last a.last d.last b.last ca.0.1 db.0.1 m);
        within = λ w n. t.within (within-alike d c b a db ca w)
            (λ s. n (
              same_trans cmp o c.first b.first d.first (same_trans cmp o c.first a.first b.first ca.0.0 s.0) bd.0.0,
              same_trans cmp o c.last b.last d.last (same_trans cmp o c.last a.last b.last ca.0.1 s.1) bd.0.1,
            ));
        holds = λ w k i. or k (t.holds (within-alike c d a b ca db w) k (in-alike k d b db i));
      }
    where
      or : (k : K) → IsCovered cmp k found ⊎ IsAgreed cmp ls ps k → IsCovered cmp k found ⊎ IsAgreed cmp bs qs k
      or k (inl i) = inl i
      or k (inr i) = inr (agreed-alike ls bs ps qs h e k i)

  table-alike : (ls bs ps qs : List (Entry K D)) (found : List (Span K)) → SameEntries cmp ls bs → SameEntries cmp ps qs → IsByTable cmp ls ps found → IsByTable cmp bs qs found
  table-alike ls bs [] [] found h e t = t
  table-alike ls bs [] (q ∷ qs) found h e t = absurd e
  table-alike ls bs (p ∷ ps) [] found h e t = absurd e
  table-alike [] [] (p ∷ ps) (q ∷ qs) found h e t = spans-trans cmp o found (span_of p ∷ []) (span_of q ∷ []) t (e.0.0, tt)
  table-alike [] (b ∷ bs) (p ∷ ps) (q ∷ qs) found h e t = absurd h
  table-alike (a ∷ ls) [] (p ∷ ps) (q ∷ qs) found h e t = absurd h
  table-alike (a ∷ ls) (b ∷ bs) (p ∷ ps) (q ∷ qs) found h e t = firsts-alike a p b q (a ∷ ls) (b ∷ bs) (p ∷ ps) (q ∷ qs) found h.0 e.0 h e t

  -- the interval laws hold of the same lists and the same ranges
  pub difference-alike : (ls bs ps qs : List (Entry K D)) (xs ys : List (Span K)) → SameEntries cmp ls bs → SameEntries cmp ps qs → SameSpans cmp xs ys
      → IsDifference cmp ls ps xs → IsDifference cmp bs qs ys
  difference-alike ls bs ps qs xs ys h e s d =
      let all = same_entries-append cmp ls bs ps qs h e in
      difference-same cmp o bs qs xs ys s
      (record {
        apart = d.apart;
        ordered = d.ordered;
        inside = each-with (IsInFirst cmp ps) (IsInFirst cmp qs) xs (in_first-alike ps qs e) d.inside;
        bounds = each-with (λ s. IsBoundOfEntry cmp (ls ++ ps) s.first × IsBoundOfEntry cmp (ls ++ ps) s.last) (λ s. IsBoundOfEntry cmp (bs ++ qs) s.first × IsBoundOfEntry cmp (bs ++ qs) s.last) xs
            (λ s i. (bound-alike (ls ++ ps) (bs ++ qs) all s.first i.0, bound-alike (ls ++ ps) (bs ++ qs) all s.last i.1)) d.bounds;
        table = table-alike ls bs ps qs xs h e d.table;
      })

  -- ---- the laws on trees

  -- some pair of the leading run agrees and has the key inside
  abbrev Spared : K → Entry K D × Entry K D → Type 0
  Spared k p = (p.0.digest ≡ p.1.digest) × IsInside cmp k (span_of p.1)

  leading-alike : (k : K) (seen met : List (Span K)) (ls bs ps qs : List (Entry K D)) → SameSpans cmp seen met → SameEntries cmp ls bs → SameEntries cmp ps qs
      → AnyByRecursion (Spared k) (leading_from cmp seen ls ps) → AnyByRecursion (Spared k) (leading_from cmp met bs qs)
  leading-alike k seen met [] bs ps qs s h e i = absurd i
  leading-alike k seen met (a ∷ ls) bs [] qs s h e i = absurd i
  leading-alike k seen met (a ∷ ls) [] (p ∷ ps) qs s h e i = absurd h
  leading-alike k seen met (a ∷ ls) (b ∷ bs) (p ∷ ps) [] s h e i = absurd e
  leading-alike k seen met (a ∷ ls) (b ∷ bs) (p ∷ ps) (q ∷ qs) s h e i =
      by (same_span cmp (span_of a) (span_of p) && not (list_any (meets cmp (span_of a)) seen)) (same_span cmp (span_of b) (span_of q) && not (list_any (meets cmp (span_of b)) met))
      (λ j. same_span-alike cmp o (span_of a) (span_of p) (span_of b) (span_of q) h.0.0 e.0.0 j && not (some_meets-alike cmp o (span_of a) (span_of b) h.0.0 seen met s j))
      (leading-alike k (span_of a ∷ seen) (span_of b ∷ met) ls bs ps qs (h.0.0, s) h.1 e.1) i
    where
      by : (v w : Bool) → v ≡ w → (AnyByRecursion (Spared k) (leading_from cmp (span_of a ∷ seen) ls ps) → AnyByRecursion (Spared k) (leading_from cmp (span_of b ∷ met) bs qs))
          → AnyByRecursion (Spared k) (if v then ((a, p) ∷ leading_from cmp (span_of a ∷ seen) ls ps) else [])
          → AnyByRecursion (Spared k) (if w then ((b, q) ∷ leading_from cmp (span_of b ∷ met) bs qs) else [])
      by true true r f (inl i) = inl (sym h.0.1 ∙ i.0 ∙ e.0.1, inside-alike k p q e.0 i.1)
      by true true r f (inr i) = inr (f i)
      by true false r f i = absurd (cc)
      by false w r f i = absurd i

  run-alike : (k : K) (ls bs ps qs : List (Entry K D)) → SameEntries cmp ls bs → SameEntries cmp ps qs → AnyByRecursion (Spared k) (leading_run cmp ls ps)
      → AnyByRecursion (Spared k) (leading_run cmp bs qs)
  run-alike k [] bs ps qs h e i = absurd i
  run-alike k (a ∷ ls) bs [] qs h e i = absurd i
  run-alike k (a ∷ ls) [] (p ∷ ps) qs h e i = absurd h
  run-alike k (a ∷ ls) (b ∷ bs) (p ∷ ps) [] h e i = absurd e
  run-alike k (a ∷ ls) (b ∷ bs) (p ∷ ps) (q ∷ qs) h e i = leading-alike k [] [] ls bs ps qs tt h.1 e.1 i

  agree-alike : (ls bs ps qs : List (Entry K D)) → SameEntries cmp ls bs → SameEntries cmp ps qs → FirstsAgree cmp ls ps → FirstsAgree cmp bs qs
  agree-alike [] bs ps qs h e f = absurd f
  agree-alike (a ∷ ls) bs [] qs h e f = absurd f
  agree-alike (a ∷ ls) [] (p ∷ ps) qs h e f = absurd h
  agree-alike (a ∷ ls) (b ∷ bs) (p ∷ ps) [] h e f = absurd e
  agree-alike (a ∷ ls) (b ∷ bs) (p ∷ ps) (q ∷ qs) h e f = (
    (
      same_trans cmp o b.first p.first q.first (same_trans cmp o b.first a.first p.first (same_back cmp o a.first b.first h.0.0.0) f.0.0) e.0.0.0,
      same_trans cmp o b.last p.last q.last (same_trans cmp o b.last a.last p.last (same_back cmp o a.last b.last h.0.0.1) f.0.1) e.0.0.1,
    ),
    sym h.0.1 ∙ f.1 ∙ e.0.1,
  )

  -- the laws on trees hold of the same lists and the same ranges
  pub spares-alike : (ls bs ps qs : List (Entry K D)) (xs ys : List (Span K)) → SameEntries cmp ls bs → SameEntries cmp ps qs → SameSpans cmp xs ys
      → SparesAgreed cmp ls ps xs → SparesAgreed cmp bs qs ys
  spares-alike ls bs ps qs xs ys h e s d =
      let back = same_entries-back cmp o ls bs h in
      let peers = same_entries-back cmp o ps qs e in
      spares-same cmp o bs qs xs ys s
      (record {
        spared = λ k i. d.spared k (run-alike k bs ls qs ps back peers i);
        equal = λ f. d.equal (agree-alike bs ls qs ps back peers f);
      })

  none_before-alike : (ls bs : List (Entry K D)) → SameEntries cmp ls bs → HoldsNoneBefore cmp ls → HoldsNoneBefore cmp bs
  none_before-alike [] [] h i = tt
  none_before-alike [] (b ∷ bs) h i = absurd h
  none_before-alike (a ∷ ls) [] h i = absurd h
  none_before-alike (a ∷ ls) (b ∷ bs) h i = (
    each-entry cmp (λ x. ¬ (EntryWithin cmp a x)) (λ y. ¬ (EntryWithin cmp b y)) (λ x y e n w. n (within-alike b y a x (same_entry-back cmp o a b h.0) (same_entry-back cmp o x y e) w)) ls bs h.1 i.0,
    none_before-alike ls bs h.1 i.1,
  )

  -- the same list ls one in the shape of a tree is in that shape
  pub shaped-alike : (ls bs : List (Entry K D)) → SameEntries cmp ls bs → IsTreeShaped cmp ls → IsTreeShaped cmp bs
  shaped-alike [] [] h i = tt
  shaped-alike [] (b ∷ bs) h i = absurd h
  shaped-alike (a ∷ ls) [] h i = absurd h
  shaped-alike (a ∷ ls) (b ∷ bs) h i = (
    each-entry cmp (λ x. EntryWithin cmp x a) (λ y. EntryWithin cmp y b) (λ x y e w. within-alike x a y b e h.0 w) ls bs h.1 i.0,
    none_before-alike (a ∷ ls) (b ∷ bs) h i.1,
  )
