-- The laws of the answer on any two lists.
use Rattle.std.proofs.Common.{◌≡◌, Bool, true, false, List, [], ◌∷◌, ◌++◌, None, refl, sym, ◌∙◌, ap, subst, if◌then◌else◌, ◌⊎◌, inl, inr}
use Rattle.std.specs.Cmp.{IsTotalOrder}
use Rattle.std.specs.List.{AllByRecursion}
use Rattle.std.specs.declared.cmp.Ordering.{Ordering}
use Rattle.key_order.specs.Interval.{Span, IsOrdered, IsIn, IsCovered, IsWithin}
use Rattle.merkle_diff.specs.Entry.{Entry, span_of}
use Rattle.key_order.specs.Order.{Upto, Below, Same, upto, AnyByRecursion}
use Rattle.merkle_diff.specs.Merge.{IsMerge, SameSpans}
use Rattle.merkle_diff.specs.Cut.{IsExactCut, IsCut, pieces_left}
use Rattle.merkle_diff.specs.Walk.{Walk, Mark, bad_of, good_of, gap_mark, gap_end}
use Rattle.merkle_diff.specs.Walk.Mark.{Bad, Good}
use Rattle.merkle_diff.specs.Difference.{lesser, IsAgreed, IsByTable, HasDigestOf, IsBoundOfEntry, IsDifference, IsByWalk}
use Rattle.key_order.proofs.Orders.{up_up, low_up, low_is_up, not_both, either, up_self, same_from}
use Rattle.key_order.proofs.ListParts.{each-before, each-behind}
use Rattle.merkle_diff.proofs.Unique.{same-back, apart-same, ordered-same}
use Rattle.merkle_diff.proofs.MergeLaws.{merge-to, merge-from, merge-is_ordered, merge-of_apart}
use Rattle.merkle_diff.proofs.Cuts.{Bounds, bound-same, cut-out, cut-ordered, left-bounds, merge-bounds, own-bounds}
use Rattle.merkle_diff.proofs.WalkStarts.{inv-nil, inv-between, inv-held, inv-into}
use Rattle.merkle_diff.proofs.OnePass.{left-none}
use Rattle.merkle_diff.proofs.WalkMarks.{span_marked, walk_marks}
use Rattle.merkle_diff.proofs.EachMark.{walk-each, each-bad, each-good}
use Rattle.merkle_diff.proofs.Each.{any-map, each-with, each-both, any-get, every-in}
use Rattle.merkle_diff.proofs.OrderTests.{by_upto, by_above, same_trans, same-self, to_upto, not_upto, to_within, not_within, within_self}

module _ {K : Type 0} (cmp : K → K → Ordering) (o : IsTotalOrder cmp) where
  pub none-merge : (m : List (Span K)) → IsMerge cmp [] m → m ≡ []
  none-merge [] h = refl
  none-merge (x ∷ m) h = absurd h.starts.sound.0

  pub no-found : (bad good found : List (Span K)) → IsMerge cmp [] bad → IsExactCut cmp bad good found → found ≡ []
  no-found bad good found m c = none-merge found (subst (λ xs. IsMerge cmp xs found) (ap (λ xs. pieces_left cmp xs good) (none-merge bad m) ∙ left-none cmp good) c)

  pub spans-trans : (xs ys zs : List (Span K)) → SameSpans cmp xs ys → SameSpans cmp ys zs → SameSpans cmp xs zs
  spans-trans [] [] zs h k = k
  spans-trans [] (y ∷ ys) zs h k = absurd h
  spans-trans (x ∷ xs) [] zs h k = absurd h
  spans-trans (x ∷ xs) (y ∷ ys) [] h k = absurd k
  spans-trans (x ∷ xs) (y ∷ ys) (z ∷ zs) h k = ((same_trans cmp o x.first y.first z.first h.0.0 k.0.0, same_trans cmp o x.last y.last z.last h.0.1 k.0.1), spans-trans xs ys zs h.1 k.1)

  one-found : (s : Span K) (bad good found : List (Span K)) → IsOrdered cmp s → IsMerge cmp (s ∷ []) bad → IsMerge cmp [] good → IsExactCut cmp bad good found → SameSpans cmp found (s ∷ [])
  one-found s bad good found d m n c =
      let b = merge-of_apart cmp o (s ∷ []) bad (d, tt) (tt, tt) m in
      let f : SameSpans cmp bad found = merge-of_apart cmp o bad found (ordered-same cmp o (s ∷ []) bad b (d, tt)) (apart-same cmp o (s ∷ []) bad b (tt, tt))
      (subst (λ g. IsMerge cmp (pieces_left cmp bad g) found) (none-merge good n) c) in
      spans-trans found bad (s ∷ []) (same-back cmp o bad found f) (same-back cmp o (s ∷ []) bad b)

  decide-in : (k : K) (ss : List (Span K)) → IsCovered cmp k ss ⊎ ¬ (IsCovered cmp k ss)
  decide-in k [] = inr (λ h. h)
  decide-in k (s ∷ ss) = go (either cmp o s.first k) (either cmp o k s.last) (decide-in k ss)
    where
      no : ¬ (IsIn cmp k s) → ¬ (IsCovered cmp k ss) → IsCovered cmp k (s ∷ ss) → ⊥
      no m n (inl i) = m i
      no m n (inr i) = n i

      go : Upto cmp s.first k ⊎ Below cmp k s.first → Upto cmp k s.last ⊎ Below cmp s.last k → IsCovered cmp k ss ⊎ ¬ (IsCovered cmp k ss) → IsCovered cmp k (s ∷ ss) ⊎ ¬ (IsCovered cmp k (s ∷ ss))
      go (inl a) (inl b) r = inl (inl (a, b))
      go a b (inl r) = inl (inr r)
      go (inl a) (inr b) (inr r) = inr (no (λ i. not_both cmp o k s.last i.1 b) r)
      go (inr a) b (inr r) = inr (no (λ i. not_both cmp o s.first k i.0 a) r)

  -- each key of a list of ranges with their bounds in order is in the list
  each-in : (ss : List (Span K)) → AllByRecursion (λ s. (k : K) → IsIn cmp k s → IsCovered cmp k ss) ss
  each-in [] = tt
  each-in (s ∷ ss) = ((λ k i. inl i), each-with (λ t. (k : K) → IsIn cmp k t → IsCovered cmp k ss) (λ t. (k : K) → IsIn cmp k t → IsCovered cmp k (s ∷ ss)) ss (λ t f k i. inr (f k i)) (each-in ss))

  lesser-same : (e s : K) → Same cmp (if upto cmp e s then e else s) (lesser cmp s e)
  lesser-same e s = go (upto cmp e s) (upto cmp s e) refl refl
    where
      go : (x y : Bool) → upto cmp e s ≡ x → upto cmp s e ≡ y → Same cmp (if x then e else s) (if y then s else e)
      go true true f g = same_from cmp o e s (by_upto cmp o e s f) (by_upto cmp o s e g)
      go true false f g = same-self cmp o e
      go false true f g = same-self cmp o s
      go false false f g = absurd (not_both cmp o s e (low_is_up cmp o s e (by_above cmp o e s f)) (by_above cmp o s e g))

  lesser-above : (a s e : K) → Upto cmp a s → Upto cmp a e → Upto cmp a (if upto cmp e s then e else s)
  lesser-above a s e h k = go (upto cmp e s)
    where
      go : (x : Bool) → Upto cmp a (if x then e else s)
      go true = k
      go false = h

module _ {K D : Type 0} (cmp : K → K → Ordering) (o : IsTotalOrder cmp) where
  -- ---- the marks' bounds

  abbrev Known : List (Entry K D) → Mark K → Type 0
  Known es m = IsOrdered cmp (span_marked m) × (IsBoundOfEntry cmp es (span_marked m).first × IsBoundOfEntry cmp es (span_marked m).last)

  entry-bounds : (es : List (Entry K D)) → AllByRecursion (λ e. IsBoundOfEntry cmp es e.first × IsBoundOfEntry cmp es e.last) es
  entry-bounds = own-bounds cmp o (λ e. e.first) (λ e. e.last)

  pub bound-of_same : (es : List (Entry K D)) (k j : K) → Same cmp k j → IsBoundOfEntry cmp es j → IsBoundOfEntry cmp es k
  bound-of_same = bound-same cmp o (λ e. e.first) (λ e. e.last)

  marks-known : (es ls : List (Entry K D)) (b : Entry K D) (ps P' L' : List (Entry K D)) (ms : List (Mark K)) → AllByRecursion (λ e. IsOrdered cmp (span_of e)) (b ∷ ps)
      → AllByRecursion (λ e. IsBoundOfEntry cmp es e.first × IsBoundOfEntry cmp es e.last) (b ∷ ps) → AllByRecursion (λ e. IsBoundOfEntry cmp es e.first × IsBoundOfEntry cmp es e.last) ls
      → Walk cmp (span_of b) None (b ∷ ps) ls ms P' L' → AllByRecursion (Known es) ms
  marks-known es ls b ps P' L' ms d pb lb w =
      (walk-each cmp o (λ e. IsOrdered cmp (span_of e) × (IsBoundOfEntry cmp es e.first × IsBoundOfEntry cmp es e.last)) (λ e. IsBoundOfEntry cmp es e.first) (IsBoundOfEntry cmp es) (Known es)
      (λ e h. h.1) (λ e h. h) (λ e h. h) (λ x y h k u. (u, (h, k))) (λ p l h i j. h) w pb.0.0
      (each-both (λ e. IsOrdered cmp (span_of e)) (λ e. IsBoundOfEntry cmp es e.first × IsBoundOfEntry cmp es e.last)
      (λ e. IsOrdered cmp (span_of e) × (IsBoundOfEntry cmp es e.first × IsBoundOfEntry cmp es e.last)) (b ∷ ps) (λ e x y. (x, y)) d pb)
      (each-with (λ e. IsBoundOfEntry cmp es e.first × IsBoundOfEntry cmp es e.last) (λ e. IsBoundOfEntry cmp es e.first) ls (λ e x. x.0) lb)).0

  -- ---- what agrees

  module _ (ls ps : List (Entry K D)) where
    -- the span is that of a peer entry with the digest of some local one
    abbrev pub AgreedSpan : Span K → Type 0
    AgreedSpan g = AnyByRecursion (λ p. (span_of p ≡ g) × HasDigestOf p ls) ps

    abbrev MarkAgreed : Mark K → Type 0
    MarkAgreed (Bad s) = Unit {0}
    MarkAgreed (Good s) = AgreedSpan s

    agreed : (p l : Entry K D) → AnyByRecursion (λ y. y ≡ p) ps → AnyByRecursion (λ x. x ≡ l) ls → l.digest ≡ p.digest → AgreedSpan (span_of p)
    agreed p l h i a = any-map (λ y. y ≡ p) (λ y. (span_of y ≡ span_of p) × HasDigestOf y ls) ps
        (λ y e. (ap span_of e, any-map (λ x. x ≡ l) (λ x. x.digest ≡ y.digest) ls (λ x f. ap (λ z. z.digest) f ∙ (a ∙ sym (ap (λ z. z.digest) e))) i)) h

    agreed-key : (k : K) (g : Span K) → IsIn cmp k g → AgreedSpan g → IsAgreed cmp ls ps k
    agreed-key k g i h = any-map (λ p. (span_of p ≡ g) × HasDigestOf p ls) (λ p. IsIn cmp k (span_of p) × HasDigestOf p ls) ps (λ p e. (subst (IsIn cmp k) (sym e.0) i, e.1)) h

  marks-agreed : (ls : List (Entry K D)) (b : Entry K D) (ps P' L' : List (Entry K D)) (ms : List (Mark K)) → Walk cmp (span_of b) None (b ∷ ps) ls ms P' L'
      → AllByRecursion (MarkAgreed ls (b ∷ ps)) ms
  marks-agreed ls b ps P' L' ms w =
      (walk-each cmp o (λ e. AnyByRecursion (λ y. y ≡ e) (b ∷ ps)) (λ e. AnyByRecursion (λ y. y ≡ e) ls) (λ k. Unit {0}) (MarkAgreed ls (b ∷ ps))
      (λ e h. (tt, tt)) (λ e h. tt) (λ e h. tt) (λ x y h k u. tt) (λ p l h i j. agreed ls (b ∷ ps) p l h i j) w tt (every-in (b ∷ ps)) (every-in ls)).0

  module _ (ls : List (Entry K D)) (b : Entry K D) (ps : List (Entry K D)) (found : List (Span K)) (d : AllByRecursion (λ e. IsOrdered cmp (span_of e)) (b ∷ ps))
      (ms : List (Mark K)) (P' L' : List (Entry K D)) (bad good : List (Span K))
      (w : Walk cmp (span_of b) None (b ∷ ps) ls ms P' L') (mb : IsMerge cmp (bad_of ms) bad) (mg : IsMerge cmp (good_of ms) good) (c : IsExactCut cmp bad good found) where
    abbrev es : List (Entry K D)
    es = ls ++ b ∷ ps

    known : AllByRecursion (Known es) ms
    known = marks-known es ls b ps P' L' ms d (each-behind (λ e. IsBoundOfEntry cmp es e.first × IsBoundOfEntry cmp es e.last) ls (b ∷ ps) (entry-bounds es))
        (each-before (λ e. IsBoundOfEntry cmp es e.first × IsBoundOfEntry cmp es e.last) ls (b ∷ ps) (entry-bounds es)) w

    bad-ordered : AllByRecursion (IsOrdered cmp) (bad_of ms)
    bad-ordered = each-bad (IsOrdered cmp) (Known es) ms (λ s h. h.0) known

    pub good-ordered : AllByRecursion (IsOrdered cmp) (good_of ms)
    good-ordered = each-good (IsOrdered cmp) (Known es) ms (λ s h. h.0) known

    merged-ordered : AllByRecursion (IsOrdered cmp) bad
    merged-ordered = merge-is_ordered cmp o (bad_of ms) bad bad-ordered mb

    pub law : IsCut cmp bad good found
    law = cut-out cmp o bad good found merged-ordered c

    found-ordered : AllByRecursion (IsOrdered cmp) found
    found-ordered = cut-ordered cmp o bad good found merged-ordered c

    found-bounds : AllByRecursion (Bounds cmp o (IsBoundOfEntry cmp es)) found
    found-bounds = merge-bounds cmp o (IsBoundOfEntry cmp es) (pieces_left cmp bad good) found (bound-of_same es) (left-bounds cmp o (IsBoundOfEntry cmp es) bad good
        (merge-bounds cmp o (IsBoundOfEntry cmp es) (bad_of ms) bad (bound-of_same es) (each-bad (Bounds cmp o (IsBoundOfEntry cmp es)) (Known es) ms (λ s h. h.1) known) mb)
        (merge-bounds cmp o (IsBoundOfEntry cmp es) (good_of ms) good (bound-of_same es) (each-good (Bounds cmp o (IsBoundOfEntry cmp es)) (Known es) ms (λ s h. h.1) known) mg)) c

    -- each key of the answer is in the peer's first span
    found-in : (k : K) → IsCovered cmp k found → IsIn cmp k (span_of b)
    found-in k h = any-get (λ s. IsWithin cmp s (span_of b)) (IsIn cmp k) (IsIn cmp k (span_of b)) (bad_of ms)
        (λ s v i. (up_up cmp o b.first s.first k v.0 i.0, up_up cmp o k s.last b.last i.1 v.1))
        (each-bad (λ s. IsWithin cmp s (span_of b)) (λ m. IsWithin cmp (span_marked m) (span_of b)) ms (λ s v. v) (walk_marks cmp o w (up_self cmp o b.first) d).0)
        (merge-from cmp o k (bad_of ms) bad bad-ordered mb (law.kept k h).0)

    found-inside : AllByRecursion (λ s. IsWithin cmp s (span_of b)) found
    found-inside = each-both (λ s. (k : K) → IsIn cmp k s → IsCovered cmp k found) (IsOrdered cmp) (λ s. IsWithin cmp s (span_of b)) found
        (λ s f e. ((found-in s.first (f s.first (up_self cmp o s.first, e))).0, (found-in s.last (f s.last (e, up_self cmp o s.last))).1)) (each-in cmp o found) found-ordered

    -- where the peer's first span was marked bad or agrees
    covered : (k : K) → IsIn cmp k (span_of b) → (agree : Bool) (more : List (Mark K)) → ms ≡ (if agree then Good (span_of b) else Bad (span_of b)) ∷ more
        → IsCovered cmp k found ⊎ IsAgreed cmp ls (b ∷ ps) k
    covered k i true more e = inr (agreed-key ls (b ∷ ps) k (span_of b) i (subst (AllByRecursion (MarkAgreed ls (b ∷ ps))) e (marks-agreed ls b ps P' L' ms w)).0)
    covered k i false more e = go (decide-in cmp o k good)
      where
        go : IsCovered cmp k good ⊎ ¬ (IsCovered cmp k good) → IsCovered cmp k found ⊎ IsAgreed cmp ls (b ∷ ps) k
        go (inl h) = inr (any-get (AgreedSpan ls (b ∷ ps)) (IsIn cmp k) (IsAgreed cmp ls (b ∷ ps) k) (good_of ms) (λ g a j. agreed-key ls (b ∷ ps) k g j a)
            (each-good (AgreedSpan ls (b ∷ ps)) (MarkAgreed ls (b ∷ ps)) ms (λ s x. x) (marks-agreed ls b ps P' L' ms w)) (merge-from cmp o k (good_of ms) good good-ordered mg h))
        go (inr n) = inl (law.covers k (merge-to cmp o k (bad_of ms) bad bad-ordered mb (subst (λ x. IsCovered cmp k (bad_of x)) (sym e) (inl i))) n)

    one-mark : (s : Span K) → IsOrdered cmp s → ms ≡ Bad s ∷ [] → SameSpans cmp found (s ∷ [])
    one-mark s e h = one-found cmp o s bad good found e (subst (λ x. IsMerge cmp (bad_of x) bad) h mb) (subst (λ x. IsMerge cmp (good_of x) good) h mg) c

    no-mark : ms ≡ [] → found ≡ []
    no-mark h = no-found cmp o bad good found (subst (λ x. IsMerge cmp (bad_of x) bad) h mb) c

  pub by-table : (ls : List (Entry K D)) (b : Entry K D) (ps : List (Entry K D)) (found : List (Span K))
      → AllByRecursion (λ e. IsOrdered cmp (span_of e)) (b ∷ ps) → IsByWalk cmp ls (b ∷ ps) found → IsByTable cmp ls (b ∷ ps) found
  by-table [] b ps found d (ms, P', L', bad, good, w, mb, mg, c) =
      one-mark [] b ps found d ms P' L' bad good w mb mg c (span_of b) d.0 ((inv-nil cmp w (within_self cmp o (span_of b))).0 ∙ rw (to_upto cmp o b.first b.last d.0) refl)
  by-table (a ∷ ls) b ps found d (ms, P', L', bad, good, w, mb, mg, c) = record {
    before = λ h k. let s : Span K = record { first = b.first; last = gap_end cmp b (a ∷ ls) } in
        let u : Upto cmp b.first (gap_end cmp b (a ∷ ls)) = lesser-above cmp o b.first a.first b.last (low_is_up cmp o b.first a.first h) d.0 in
        spans-trans cmp o found (s ∷ []) (record { first = b.first; last = lesser cmp a.first b.last } ∷ [])
        (one-mark (a ∷ ls) b ps found d ms P' L' bad good w mb mg c s u
        ((inv-between cmp w (within_self cmp o (span_of b)) (not_within cmp o (span_of a) (span_of b) (λ v. not_both cmp o a.last b.last v.1 k))
        (not_within cmp o (span_of b) (span_of a) (λ v. not_both cmp o a.first b.first v.0 h))).0 ∙ marked s.last u))
        ((same-self cmp o b.first, lesser-same cmp o b.last a.first), tt);
    behind = λ h k. no-mark (a ∷ ls) b ps found d ms P' L' bad good w mb mg c
        ((inv-between cmp w (within_self cmp o (span_of b)) (not_within cmp o (span_of a) (span_of b) (λ v. not_both cmp o b.first a.first v.0 h))
        (not_within cmp o (span_of b) (span_of a) (λ v. not_both cmp o b.last a.last v.1 k))).0
        ∙ (ap (λ e. gap_mark cmp b.first e) (ends h) ∙ unmarked h));
    within = λ v n. no-mark (a ∷ ls) b ps found d ms P' L' bad good w mb mg c
        (inv-held cmp w (within_self cmp o (span_of b))
        (not_within cmp o (span_of a) (span_of b) (λ i. n (same_from cmp o a.first b.first v.0 i.0, same_from cmp o a.last b.last i.1 v.1)))
        (to_within cmp o (span_of b) (span_of a) v)).0;
    holds = λ v k i. let x = inv-into cmp w (within_self cmp o (span_of b)) (to_within cmp o (span_of a) (span_of b) v) in covered (a ∷ ls) b ps found d ms P' L' bad good w mb mg c k i x.0 _ x.8;
  }
    where
      marked : (e : K) → Upto cmp b.first e → gap_mark cmp b.first e ≡ Bad (record { first = b.first; last = e }) ∷ []
      marked e u = rw (to_upto cmp o b.first e u) refl

      ends : Below cmp a.first b.first → gap_end cmp b (a ∷ ls) ≡ a.first
      ends h = rw (not_upto cmp o b.last a.first (low_up cmp o a.first b.first b.last h d.0)) refl

      unmarked : Below cmp a.first b.first → gap_mark cmp b.first a.first ≡ []
      unmarked h = rw (not_upto cmp o b.first a.first h) refl

  -- the answer has the laws on any two lists
  pub difference : (ls ps : List (Entry K D)) (found : List (Span K)) → AllByRecursion (λ e. IsOrdered cmp (span_of e)) ps → IsByWalk cmp ls ps found → IsDifference cmp ls ps found
  difference ls [] found d h = subst (IsDifference cmp ls []) (sym h) (record { apart = tt; ordered = tt; inside = tt; bounds = tt; table = none ls })
    where
      none : (xs : List (Entry K D)) → IsByTable cmp xs [] []
      none xs = refl
  difference ls (b ∷ ps) found d h =
      let ms = h.0 in let P' = h.1 in let L' = h.2 in let bad = h.3 in let good = h.4 in
      record {
        apart = (law ls b ps found d ms P' L' bad good h.5 h.6 h.7 h.8).apart;
        ordered = found-ordered ls b ps found d ms P' L' bad good h.5 h.6 h.7 h.8;
        inside = found-inside ls b ps found d ms P' L' bad good h.5 h.6 h.7 h.8;
        bounds = found-bounds ls b ps found d ms P' L' bad good h.5 h.6 h.7 h.8;
        table = by-table ls b ps found d h;
      }
