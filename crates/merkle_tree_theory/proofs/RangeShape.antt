-- The page ranges of a tree are tree-shaped.
use Rattle.std.proofs.Common.{◌≡◌, ℕ, List, [], ◌∷◌, ◌++◌, ◌⊎◌, inl, inr, refl}
use Rattle.std.specs.Cmp.{IsTotalOrder}
use Rattle.std.specs.List.{AllByRecursion}
use Rattle.std.specs.declared.cmp.Ordering.{Ordering}
use Rattle.key_order.specs.Order.{Below}
use Rattle.key_order.specs.Map.{IsMap, last_key}
use Rattle.key_order.proofs.Orders.{up_up, up_low, low_low, not_both}
use Rattle.key_order.proofs.ListParts.{each-append, each-at, map-before, map-first, map-rest}
use Rattle.merkle_diff.specs.Entry.{Entry, EntryWithin}
use Rattle.merkle_diff.specs.TreeShape.{HoldsNoneBefore, IsTreeShaped}
use Rattle.merkle_diff.proofs.Each.{each-with}
use Rattle.merkle_tree_theory.specs.Tree.{Tree, page, Row, high, node, Held, nothing, below}
use Rattle.merkle_tree_theory.specs.Page.{pairs, row_pairs, held_pairs}
use Rattle.merkle_tree_theory.specs.Stream.{page_digest}
use Rattle.merkle_tree_theory.specs.Canonical.{HasNode, IsCanonical, IsRow, IsGap, IsCanonicalRoot}
use Rattle.merkle_tree_theory.specs.Ranges.{entry_of, ranges_of, row_ranges, held_ranges}
use Rattle.merkle_tree_theory.proofs.RangeKeys.{not-none, OfBounds, of_row, of_held, InSpan, each_in_span}
use Rattle.merkle_tree_theory.specs.declared.page_format.PageFormat.{PageFormat}

module _ {K : Type 0} (cmp : K → K → Ordering) (o : IsTotalOrder cmp) where
  -- k is beside the entry
  abbrev Beside : K → Entry K (List ℕ) → Type 0
  Beside k e = Below cmp e.last k ⊎ Below cmp k e.first

  none-join : (xs bs : List (Entry K (List ℕ))) → HoldsNoneBefore cmp xs → HoldsNoneBefore cmp bs
      → AllByRecursion (λ a. AllByRecursion (λ x. ¬ (EntryWithin cmp a x)) bs) xs → HoldsNoneBefore cmp (xs ++ bs)
  none-join [] bs p q h = q
  none-join (a ∷ xs) bs p q h = (each-append (λ x. ¬ (EntryWithin cmp a x)) xs bs p.0 h.0, none-join xs bs p.1 q h.1)

  -- no entry below a key is within one above it
  apart : (k : K) (xs bs : List (Entry K (List ℕ))) → AllByRecursion (OfBounds (λ j. Below cmp j k)) xs → AllByRecursion (OfBounds (λ j. Below cmp k j)) bs
      → AllByRecursion (λ a. AllByRecursion (λ x. ¬ (EntryWithin cmp a x)) bs) xs
  apart k xs bs p q =
      each-with (OfBounds (λ j. Below cmp j k)) (λ a. AllByRecursion (λ x. ¬ (EntryWithin cmp a x)) bs) xs
      (λ a l. each-with (OfBounds (λ j. Below cmp k j)) (λ x. ¬ (EntryWithin cmp a x)) bs (λ x u w. not_both cmp o x.first a.first w.0 (low_low cmp o a.first k x.first l.0 u.0)) q) p

  -- an entry that spans a key is within none beside the key
  spans_key : (ps : List (K × List ℕ)) (d : List ℕ) (es : List (Entry K (List ℕ))) (k : K) → InSpan cmp k ps → AllByRecursion (Beside k) es
      → HoldsNoneBefore cmp es → HoldsNoneBefore cmp (entry_of ps d ++ es)
  spans_key [] d es k i a h = h
  spans_key (p ∷ ps) d es k i a h =
      (each-with (Beside k) (λ x. ¬ (EntryWithin cmp (record { first = p.0; last = last_key p.0 ps; digest = d }) x)) es by a, h)
    where
      by : (x : Entry K (List ℕ)) → Beside k x → ¬ (EntryWithin cmp (record { first = p.0; last = last_key p.0 ps; digest = d }) x)
      by x (inl u) w = not_both cmp o k (last_key p.0 ps) i.1 (up_low cmp o (last_key p.0 ps) x.last k w.1 u)
      by x (inr u) w = not_both cmp o x.first k (up_up cmp o x.first p.0 k w.0 i.0) u

  shaped : (ps : List (K × List ℕ)) (d : List ℕ) (es : List (Entry K (List ℕ))) → (ps ≡ [] → ⊥) → AllByRecursion (OfBounds (λ j. InSpan cmp j ps)) es
      → HoldsNoneBefore cmp (entry_of ps d ++ es) → IsTreeShaped cmp (entry_of ps d ++ es)
  shaped [] d es n a h = absurd (n refl)
  shaped (p ∷ ps) d es n a h =
      (each-with (OfBounds (λ j. InSpan cmp j (p ∷ ps))) (λ x. EntryWithin cmp x (record { first = p.0; last = last_key p.0 ps; digest = d })) es (λ x i. (i.0.0, i.1.1)) a, h)

  module _ (lev : K → ℕ) (format : PageFormat) (bytes_of : K → List ℕ) where
    -- the entries of the pages below a page with a node are beside the node's key
    beside : (h : Held K (List ℕ)) (k : K) (d : List ℕ) (r : Row K (List ℕ)) → IsMap cmp (row_pairs (node h k d r)) → AllByRecursion (Beside k) (row_ranges format bytes_of (node h k d r))
    beside h k d r m =
        each-append (Beside k) (held_ranges format bytes_of h) (row_ranges format bytes_of r)
        (each-with (OfBounds (λ j. Below cmp j k)) (Beside k) (held_ranges format bytes_of h) (λ x u. inl u.1)
        (of_held (λ j. Below cmp j k) format bytes_of h (map-before cmp (held_pairs h) (k, d) (row_pairs r) m)))
        (each-with (OfBounds (λ j. Below cmp k j)) (Beside k) (row_ranges format bytes_of r) (λ x u. inr u.0)
        (of_row (λ j. Below cmp k j) format bytes_of r (map-rest cmp (held_pairs h) ((k, d) ∷ row_pairs r) m).0))

    mutual
      tree_none : (t : Tree K (List ℕ)) → HasNode t → IsCanonical lev t → IsMap cmp (pairs t) → HoldsNoneBefore cmp (ranges_of format bytes_of t)
      tree_none (page l c (high h)) n g m = absurd n
      tree_none (page l c (node h k d r)) n g m =
          spans_key (row_pairs (node h k d r)) (page_digest format bytes_of (page l c (node h k d r))) (row_ranges format bytes_of (node h k d r)) k
          (each-at (λ q. InSpan cmp q.0 (row_pairs (node h k d r))) (held_pairs h) (k, d) (row_pairs r) (each_in_span cmp o (row_pairs (node h k d r)) m))
          (beside h k d r m) (row_none l (node h k d r) g m)

      row_none : (l : ℕ) (r : Row K (List ℕ)) → IsRow lev l r → IsMap cmp (row_pairs r) → HoldsNoneBefore cmp (row_ranges format bytes_of r)
      row_none l (high h) g m = held_none l h g m
      row_none l (node h k d r) g m =
          let rest = map-rest cmp (held_pairs h) ((k, d) ∷ row_pairs r) m in
          none-join (held_ranges format bytes_of h) (row_ranges format bytes_of r) (held_none l h g.0 (map-first cmp (held_pairs h) ((k, d) ∷ row_pairs r) m)) (row_none l r g.2 rest.1)
          (apart k (held_ranges format bytes_of h) (row_ranges format bytes_of r)
          (of_held (λ j. Below cmp j k) format bytes_of h (map-before cmp (held_pairs h) (k, d) (row_pairs r) m)) (of_row (λ j. Below cmp k j) format bytes_of r rest.0))

      held_none : (l : ℕ) (h : Held K (List ℕ)) → IsGap lev l h → IsMap cmp (held_pairs h) → HoldsNoneBefore cmp (held_ranges format bytes_of h)
      held_none l nothing g m = tt
      held_none l (below t) g m = tree_none t g.1 g.2 m

    -- the page ranges of the canonical tree of a map are tree-shaped
    pub tree_shaped : (t : Tree K (List ℕ)) → IsCanonicalRoot lev t → IsMap cmp (pairs t) → IsTreeShaped cmp (ranges_of format bytes_of t)
    tree_shaped (page l c (high nothing)) g m = tt
    tree_shaped (page l c (high (below t))) g m = absurd g
    tree_shaped (page l c (node h k d r)) g m =
        let ps = row_pairs (node h k d r) in
        shaped ps (page_digest format bytes_of (page l c (node h k d r))) (row_ranges format bytes_of (node h k d r)) (not-none (held_pairs h) (k, d) (row_pairs r))
        (of_row (λ j. InSpan cmp j ps) format bytes_of (node h k d r) (each_in_span cmp o ps m)) (tree_none (page l c (node h k d r)) tt g m)
