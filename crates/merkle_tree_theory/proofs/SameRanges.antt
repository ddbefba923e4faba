-- Pages that are the same, apart from the caches, have equal maps and the same page ranges.
use Rattle.std.proofs.Common.{◌≡◌, ℕ, List, [], ◌∷◌, ◌++◌}
use Rattle.std.specs.declared.cmp.Ordering.{Ordering}
use Rattle.key_order.specs.Order.{Same}
use Rattle.key_order.specs.Map.{SameMap, last_key}
use Rattle.merkle_diff.specs.Entry.{Entry}
use Rattle.merkle_diff.specs.SameEntries.{SameEntries}
use Rattle.merkle_tree_theory.specs.Tree.{Tree, page, Row, high, node, Held, nothing, below}
use Rattle.merkle_tree_theory.specs.Page.{pairs, row_pairs, held_pairs}
use Rattle.merkle_tree_theory.specs.Stream.{page_digest}
use Rattle.merkle_tree_theory.specs.Canonical.{SamePages, SameRow, SameHeld}
use Rattle.merkle_tree_theory.specs.Ranges.{entry_of, ranges_of, row_ranges, held_ranges}
use Rattle.key_order.proofs.SameMaps.{same-append}
use Rattle.merkle_tree_theory.proofs.Same.{same_digest}
use Rattle.merkle_tree_theory.specs.declared.page_format.PageFormat.{PageFormat}

module _ {K : Type 0} (cmp : K → K → Ordering) where
  mutual
    pub same-pairs : (t t' : Tree K (List ℕ)) → SamePages cmp t t' → SameMap cmp (λ d e. d ≡ e) (pairs t) (pairs t')
    same-pairs (page l c r) (page l' c' r') s = row_same-pairs r r' s.2

    row_same-pairs : (r r' : Row K (List ℕ)) → SameRow cmp r r' → SameMap cmp (λ d e. d ≡ e) (row_pairs r) (row_pairs r')
    row_same-pairs (high h) (high h') s = held_same-pairs h h' s
    row_same-pairs (high h) (node h' k' d' r') s = absurd s
    row_same-pairs (node h k d r) (high h') s = absurd s
    row_same-pairs (node h k d r) (node h' k' d' r') s =
        same-append cmp (held_pairs h) ((k, d) ∷ row_pairs r) (held_pairs h') ((k', d') ∷ row_pairs r') (held_same-pairs h h' s.0) (s.1, s.2, row_same-pairs r r' s.3)

    held_same-pairs : (h h' : Held K (List ℕ)) → SameHeld cmp h h' → SameMap cmp (λ d e. d ≡ e) (held_pairs h) (held_pairs h')
    held_same-pairs nothing nothing s = tt
    held_same-pairs nothing (below t') s = absurd s
    held_same-pairs (below t) nothing s = absurd s
    held_same-pairs (below t) (below t') s = same-pairs t t' s

  -- equal maps have equal last keys
  pub same_last : (p q : K) (ps qs : List (K × List ℕ)) → Same cmp p q → SameMap cmp (λ d e. d ≡ e) ps qs → Same cmp (last_key p ps) (last_key q qs)
  same_last p q [] [] e s = e
  same_last p q [] (y ∷ ys) e s = absurd s
  same_last p q (x ∷ xs) [] e s = absurd s
  same_last p q (x ∷ xs) (y ∷ ys) e s = same_last x.0 y.0 xs ys s.0 s.2

  same-entries-append : (xs bs cs ds : List (Entry K (List ℕ))) → SameEntries cmp xs cs → SameEntries cmp bs ds → SameEntries cmp (xs ++ bs) (cs ++ ds)
  same-entries-append [] bs [] ds a b = b
  same-entries-append [] bs (x ∷ cs) ds a b = absurd a
  same-entries-append (x ∷ xs) bs [] ds a b = absurd a
  same-entries-append (x ∷ xs) bs (y ∷ cs) ds a b = (a.0, same-entries-append xs bs cs ds a.1 b)

  same_entry_of : (ps qs : List (K × List ℕ)) (d e : List ℕ) → SameMap cmp (λ x y. x ≡ y) ps qs → d ≡ e → SameEntries cmp (entry_of ps d) (entry_of qs e)
  same_entry_of [] [] d e s h = tt
  same_entry_of [] (q ∷ qs) d e s h = absurd s
  same_entry_of (p ∷ ps) [] d e s h = absurd s
  same_entry_of (p ∷ ps) (q ∷ qs) d e s h = (((s.0, same_last p.0 q.0 ps qs s.0 s.2), h), tt)

  module _ (format : PageFormat) (bytes_of : K → List ℕ) (respects : (x y : K) → Same cmp x y → bytes_of x ≡ bytes_of y) where
    mutual
      -- the entries agree in span and digest, place by place
      pub same_ranges : (t t' : Tree K (List ℕ)) → SamePages cmp t t' → SameEntries cmp (ranges_of format bytes_of t) (ranges_of format bytes_of t')
      same_ranges (page l c r) (page l' c' r') s =
          let d = page_digest format bytes_of (page l c r) in
          let d' = page_digest format bytes_of (page l' c' r') in
          same-entries-append (entry_of (row_pairs r) d) (row_ranges format bytes_of r) (entry_of (row_pairs r') d') (row_ranges format bytes_of r')
          (same_entry_of (row_pairs r) (row_pairs r') d d' (row_same-pairs r r' s.2) (same_digest cmp format bytes_of respects (page l c r) (page l' c' r') s)) (row_same_ranges r r' s.2)

      row_same_ranges : (r r' : Row K (List ℕ)) → SameRow cmp r r' → SameEntries cmp (row_ranges format bytes_of r) (row_ranges format bytes_of r')
      row_same_ranges (high h) (high h') s = held_same_ranges h h' s
      row_same_ranges (high h) (node h' k' d' r') s = absurd s
      row_same_ranges (node h k d r) (high h') s = absurd s
      row_same_ranges (node h k d r) (node h' k' d' r') s =
          same-entries-append (held_ranges format bytes_of h) (row_ranges format bytes_of r) (held_ranges format bytes_of h') (row_ranges format bytes_of r')
          (held_same_ranges h h' s.0) (row_same_ranges r r' s.3)

      held_same_ranges : (h h' : Held K (List ℕ)) → SameHeld cmp h h' → SameEntries cmp (held_ranges format bytes_of h) (held_ranges format bytes_of h')
      held_same_ranges nothing nothing s = tt
      held_same_ranges nothing (below t') s = absurd s
      held_same_ranges (below t) nothing s = absurd s
      held_same_ranges (below t) (below t') s = same_ranges t t' s
