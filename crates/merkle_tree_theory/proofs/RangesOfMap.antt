-- The list of the page ranges of a tree of a map lists pages of the map.
use Rattle.std.proofs.Common.{◌≡◌, ℕ, Bool, true, false, cond, List, [], ◌∷◌, ◌++◌, refl, sym, ◌∙◌, ap, subst, ◌⊎◌, inl, inr, append_assoc, append-nil}
use Rattle.std.specs.Cmp.{IsTotalOrder}
use Rattle.std.specs.List.{AllByRecursion}
use Rattle.std.specs.declared.cmp.Ordering.{Ordering}
use Rattle.merkle_digest.specs.Level.{level_of}
use Rattle.merkle_tree_theory.specs.Tree.{Tree, page, Row, high, node, Held, nothing, below}
use Rattle.merkle_tree_theory.specs.Canonical.{IsCanonicalRoot}
use Rattle.merkle_tree_theory.specs.Stream.{page_digest}
use Rattle.merkle_tree_theory.specs.Page.{pairs, row_pairs, held_pairs}
use Rattle.merkle_tree_theory.specs.Ranges.{IsRangesOf, IsPageOf, IsPageIn, IsPageInRow, IsPageInHeld, ranges_of, row_ranges, held_ranges, entry_of}
use Rattle.merkle_tree_theory.specs.Canonical.{IsTreeOf}
use Rattle.key_order.specs.Interval.{Span, IsIn, is_in}
use Rattle.merkle_diff.specs.Entry.{Entry, span_of}
use Rattle.key_order.specs.Order.{Upto, Below, Same}
use Rattle.key_order.proofs.Orders.{up_up, low_is_up, up_self, not_both}
use Rattle.key_order.proofs.SameMaps.{ascends}
use Rattle.key_order.specs.Map.{last_key, IsMap, SameMap, rows_at}
use Rattle.merkle_tree_theory.specs.Listing.{IsListing, IsWhole, entry_rows}
use Rattle.key_order.proofs.Bools.{which}
use Rattle.merkle_tree_theory.proofs.RangeKeys.{not-none}
use Rattle.merkle_tree_theory.proofs.SameRanges.{same_last}
use Rattle.key_order.proofs.Spans.{test_from_in, in_from_test, is_in-same}
use Rattle.key_order.proofs.ListParts.{each-append, each-at}
use Rattle.merkle_tree_theory.specs.declared.page_format.PageFormat.{PageFormat}
use Rattle.merkle_tree_theory.proofs.PagesIn.{itself}

module _ {K : Type 0} (cmp : K → K → Ordering) (o : IsTotalOrder cmp) where
  -- the test of a span fails for a key that is not in it
  pub fails : (k : K) (s : Span K) → (IsIn cmp k s → ⊥) → is_in cmp k s ≡ false
  fails k s h = go (which (is_in cmp k s))
    where
      go : (is_in cmp k s ≡ false) ⊎ (is_in cmp k s ≡ true) → is_in cmp k s ≡ false
      go (inl e) = e
      go (inr e) = absurd (h (in_from_test cmp o k s e))

module _ {K X : Type 0} (cmp : K → K → Ordering) (o : IsTotalOrder cmp) where
  -- ---- a stretch of an ascending list is what its span holds

  last_after : (c : K) (q : K × X) (qs post : List (K × X)) → Upto cmp c q.0 → IsMap cmp ((q ∷ qs) ++ post) → Upto cmp c (last_key q.0 qs)
  last_after c q [] post h a = h
  last_after c q (r ∷ rs) post h a = last_after c r rs post (up_up cmp o c q.0 r.0 h (low_is_up cmp o q.0 r.0 a.0.0)) a.1

  none_pass : (s : Span K) (post : List (K × X)) → AllByRecursion (λ r. Below cmp s.last r.0) post → rows_at (λ k. is_in cmp k s) post ≡ []
  none_pass s [] a = refl
  none_pass s (r ∷ rs) a = rw (fails cmp o r.0 s (λ i. not_both cmp o r.0 s.last i.1 a.0)) (none_pass s rs a.1)

  stretch : (f : K) (p : K × X) (ps post : List (K × X)) → Upto cmp f p.0 → IsMap cmp ((p ∷ ps) ++ post)
      → rows_at (λ k. is_in cmp k (record { first = f; last = last_key p.0 ps })) ((p ∷ ps) ++ post) ≡ p ∷ ps
  stretch f p [] post h a = rw (test_from_in cmp o p.0 (record { first = f; last = p.0 }) (h, up_self cmp o p.0)) (ap (λ w. p ∷ w) (none_pass (record { first = f; last = p.0 }) post a.0))
  stretch f p (q ∷ qs) post h a =
      rw (test_from_in cmp o p.0 (record { first = f; last = last_key q.0 qs }) (h, last_after p.0 q qs post (low_is_up cmp o p.0 q.0 a.0.0) a.1))
      (ap (λ w. p ∷ w) (stretch f q qs post (up_up cmp o f p.0 q.0 h (low_is_up cmp o p.0 q.0 a.0.0)) a.1))

  pub after_front : (pre : List (K × X)) (p : K × X) (ps post : List (K × X)) → IsMap cmp (pre ++ ((p ∷ ps) ++ post))
      → rows_at (λ k. is_in cmp k (record { first = p.0; last = last_key p.0 ps })) (pre ++ ((p ∷ ps) ++ post)) ≡ p ∷ ps
  after_front [] p ps post a = stretch p.0 p ps post (up_self cmp o p.0) a
  after_front (x ∷ pre) p ps post a =
      rw (fails cmp o x.0 (record { first = p.0; last = last_key p.0 ps }) (λ i. not_both cmp o p.0 x.0 i.0 (each-at (λ r. Below cmp x.0 r.0) pre p (ps ++ post) a.0))) (after_front pre p ps post a.1)

  -- the pairs of equal maps that pass a test
  pub same_part : (R : X → X → Type 0) (test : K → Bool) → ((k j : K) → Same cmp k j → test k ≡ test j) → (a b : List (K × X)) → SameMap cmp R a b → SameMap cmp R (rows_at test a) (rows_at test b)
  same_part R test resp [] [] s = tt
  same_part R test resp [] (q ∷ qs) s = absurd s
  same_part R test resp (p ∷ ps) [] s = absurd s
  same_part R test resp (p ∷ ps) (q ∷ qs) s = rw (resp p.0 q.0 s.0) (go (same_part R test resp ps qs s.2) (test q.0))
    where
      go : SameMap cmp R (rows_at test ps) (rows_at test qs) → (b : Bool) → SameMap cmp R (cond b (p ∷ rows_at test ps) (rows_at test ps)) (cond b (q ∷ rows_at test qs) (rows_at test qs))
      go m true = (s.0, s.1, m)
      go m false = m

module _ {K : Type 0} (cmp : K → K → Ordering) (o : IsTotalOrder cmp) (format : PageFormat) (bytes_of : K → List ℕ) (whole : Tree K (List ℕ)) (m : List (K × List ℕ)) (a : IsMap cmp m) where
  -- an entry of a page of the tree, which has the map's pairs within it
  abbrev Right : Entry K (List ℕ) → Type 0
  Right e = (s : Tree K (List ℕ)) × IsPageIn s whole × (page_digest format bytes_of s ≡ e.digest) × (pairs s ≡ entry_rows cmp e m)

  own : (t : Tree K (List ℕ)) (ps : List (K × List ℕ)) (d : List ℕ) (pre post : List (K × List ℕ)) → pairs t ≡ ps → page_digest format bytes_of t ≡ d
      → m ≡ pre ++ (ps ++ post) → IsPageIn t whole → AllByRecursion Right (entry_of ps d)
  own t [] d pre post u v e i = tt
  own t (p ∷ ps) d pre post u v e i =
      ((t, i, v, u ∙ sym (ap (λ n. rows_at (λ k. is_in cmp k (record { first = p.0; last = last_key p.0 ps })) n) e ∙ after_front cmp o pre p ps post (subst (IsMap cmp) e a))), tt)

  mutual
    of_tree : (t : Tree K (List ℕ)) (pre post : List (K × List ℕ)) → m ≡ pre ++ (pairs t ++ post) → ((s : Tree K (List ℕ)) → IsPageIn s t → IsPageIn s whole)
        → AllByRecursion Right (ranges_of format bytes_of t)
    of_tree (page l c r) pre post e i =
        each-append Right (entry_of (row_pairs r) (page_digest format bytes_of (page l c r))) (row_ranges format bytes_of r)
        (own (page l c r) (row_pairs r) (page_digest format bytes_of (page l c r)) pre post refl refl e (i (page l c r) (itself (page l c r))))
        (of_row r pre post e (λ s h. i s (inr h)))

    of_row : (r : Row K (List ℕ)) (pre post : List (K × List ℕ)) → m ≡ pre ++ (row_pairs r ++ post)
        → ((s : Tree K (List ℕ)) → IsPageInRow s r → IsPageIn s whole) → AllByRecursion Right (row_ranges format bytes_of r)
    of_row (high h) pre post e i = of_held h pre post e i
    of_row (node h k d r) pre post e i =
        each-append Right (held_ranges format bytes_of h) (row_ranges format bytes_of r)
        (of_held h pre (((k, d) ∷ row_pairs r) ++ post) (e ∙ ap (λ w. pre ++ w) (append_assoc (held_pairs h) ((k, d) ∷ row_pairs r) post)) (λ s j. i s (inl j)))
        (of_row r (pre ++ (held_pairs h ++ ((k, d) ∷ []))) post
        (e ∙ ap (λ w. pre ++ w) (append_assoc (held_pairs h) ((k, d) ∷ row_pairs r) post
        ∙ sym (append_assoc (held_pairs h) ((k, d) ∷ []) (row_pairs r ++ post))) ∙ sym (append_assoc pre (held_pairs h ++ ((k, d) ∷ [])) (row_pairs r ++ post)))
        (λ s j. i s (inr j)))

    of_held : (h : Held K (List ℕ)) (pre post : List (K × List ℕ)) → m ≡ pre ++ (held_pairs h ++ post)
        → ((s : Tree K (List ℕ)) → IsPageInHeld s h → IsPageIn s whole) → AllByRecursion Right (held_ranges format bytes_of h)
    of_held nothing pre post e i = tt
    of_held (below t) pre post e i = of_tree t pre post e i

module _ {K : Type 0} (cmp : K → K → Ordering) (o : IsTotalOrder cmp) (lev : K → ℕ) (format : PageFormat) (bytes_of : K → List ℕ) where
  -- the first entry is that of the root
  no_pairs : (l : ℕ) (c : _) (r : Row K (List ℕ)) → IsCanonicalRoot lev (page l c r) → row_pairs r ≡ [] → row_ranges format bytes_of r ≡ []
  no_pairs l c (high nothing) h e = refl
  no_pairs l c (high (below t)) h e = absurd h
  no_pairs l c (node h k d r) g e = absurd (not-none (held_pairs h) (k, d) (row_pairs r) e)

  none_none : (ps : List (K × List ℕ)) (d : List ℕ) (es : List (Entry K (List ℕ))) → (ps ≡ [] → es ≡ []) → (m : List (K × List ℕ))
      → SameMap cmp (λ x y. x ≡ y) ps m → IsWhole cmp m (entry_of ps d ++ es)
  none_none [] d es f [] s = subst (IsWhole {D = List ℕ} cmp []) (sym (f refl)) tt
  none_none [] d es f (q ∷ qs) s = absurd s
  none_none (p ∷ ps) d es f [] s = absurd s
  none_none (p ∷ ps) d es f (q ∷ qs) s = (s.0, same_last cmp p.0 q.0 ps qs s.0 s.2)

  whole_root : (t : Tree K (List ℕ)) (m : List (K × List ℕ)) → IsCanonicalRoot lev t → SameMap cmp (λ x y. x ≡ y) (pairs t) m → IsWhole cmp m (ranges_of format bytes_of t)
  whole_root (page l c r) m h s = none_none (row_pairs r) (page_digest format bytes_of (page l c r)) (row_ranges format bytes_of r) (no_pairs l c r h) m s

module _ {K : Type 0} (cmp : K → K → Ordering) (o : IsTotalOrder cmp) (digest_of : K → List ℕ) (base : ℕ) (format : PageFormat) (bytes_of : K → List ℕ) where
  to_map : (t : Tree K (List ℕ)) (m : List (K × List ℕ)) (a : IsMap cmp (pairs t)) (es : List (Entry K (List ℕ))) → IsTreeOf cmp digest_of base t m
      → AllByRecursion (Right cmp o format bytes_of t (pairs t) a) es
      → AllByRecursion (λ e. (s : Tree K (List ℕ)) × IsPageOf cmp digest_of base s m × (page_digest format bytes_of s ≡ e.digest) × SameMap cmp (λ x y. x ≡ y) (pairs s) (entry_rows cmp e m)) es
  to_map t m a [] h r = tt
  to_map t m a (e ∷ es) h ((s, i, d, p), rest) = (
    (
      s,
      (t, h, i),
      d,
      subst (λ n. SameMap cmp (λ x y. x ≡ y) n (entry_rows cmp e m)) (sym p)
          (same_part cmp o (λ x y. x ≡ y) (λ k. is_in cmp k (span_of e)) (is_in-same cmp o (span_of e)) (pairs t) m h.1),
    ),
    to_map t m a es h rest,
  )

  pub lists : (m : List (K × List ℕ)) (es : List (Entry K (List ℕ))) → IsMap cmp m → IsRangesOf cmp digest_of base format bytes_of m es
      → IsListing cmp (IsPageOf cmp digest_of base) (page_digest format bytes_of) pairs m es
  lists m es a (t, h, e) =
      let b = ascends cmp o (λ x y. x ≡ y) (pairs t) m h.1 a in
      record {
        whole = subst (IsWhole cmp m) (sym e) (whole_root cmp o (λ k. level_of (digest_of k) base) format bytes_of t m h.0 h.1);
        pages = to_map t m b es h (subst (AllByRecursion (Right cmp o format bytes_of t (pairs t) b)) (sym e)
            (of_tree cmp o format bytes_of t (pairs t) b t [] [] (sym (append-nil (pairs t))) (λ s i. i)));
      }
