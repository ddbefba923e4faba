-- The page of the pairs of a level in a gap.
use Rattle.std.proofs.Common.{◌≡◌, ◌<◌, ℕ, suc, true, List, [], ◌∷◌, Some, None, sym, ap, subst, ◌∙◌, arith}
use Rattle.std.specs.Cmp.Lexicographic.{nat_list_cmp_total}
use Rattle.key_order.specs.Map.{IsMap}
use Rattle.merkle_tree_theory.specs.Gap.{pairs_within, part_before, part_behind}
use Rattle.merkle_tree_theory.specs.Tree.{page, Row, high, node, below}
use Rattle.merkle_tree_theory.specs.TreeOf.{any_at, gap_of, row_of}
use Rattle.store_tree.specs.Cells.{bytes_order, KeyDigests, AreUnder, held_within, pairs_from}
use Rattle.store_tree.specs.Pages.{gap_between}
use Rattle.store_tree.proofs.Fronts.{Front}
use Rattle.store_tree.proofs.Paging.{any_middle, lower_held, none_at}
use Rattle.store_tree.proofs.Parts.{back_within, front_within}
use Rattle.store_tree.proofs.Remaining.{Remains, all_under, next_gap}
use Rattle.store_tree.proofs.Runs.{gap_of-top, row_of-ends, row_of-goes}

module _ (lev : List ℕ → ℕ) (m : KeyDigests) (up : IsMap bytes_order m) (low : (key : List ℕ) → lev key < 256) (l : ℕ) (few : l < 256) where
  abbrev ps : KeyDigests
  ps = pairs_from lev m l

  -- the row whose nodes are these pairs of the level in a gap
  abbrev pub row_by : Front → Front → KeyDigests → Row (List ℕ) (List ℕ)
  row_by after before [] = high (held_within lev m (gap_between after before))
  row_by after before (q ∷ qs) = node (held_within lev m (gap_between after (Some q.0))) q.0 q.1 (row_by (Some q.0) before qs)

  row_is : (qs : KeyDigests) (after before : Front) → Remains lev m up l after before → pairs_within bytes_order (gap_between after before) ps ≡ qs
      → row_of lev (gap_of lev l) l [] (pairs_within bytes_order (gap_between after before) m) ≡ row_by after before qs
  row_is [] after before r none =
      let under : AreUnder lev l (pairs_within bytes_order (gap_between after before) m) = all_under lev m up l (gap_between after before) none in
      row_of-ends lev (gap_of lev l) l [] (pairs_within bytes_order (gap_between after before) m) (none_at lev l l (pairs_within bytes_order (gap_between after before) m) (omega arith) under)
      ∙ ap (λ h. high h) (lower_held lev m up low l few (pairs_within bytes_order (gap_between after before) m) under)
  row_is (q ∷ qs) after before r some =
      let p = next_gap lev m up l after before q qs r some in
      let gap = gap_between after before in
      let (front, back, is) = p.has in
      let first : pairs_within bytes_order (part_before gap q.0) m ≡ front = front_within bytes_order nat_list_cmp_total gap m up front q back is in
      let second : pairs_within bytes_order (part_behind gap q.0) m ≡ back = back_within bytes_order nat_list_cmp_total gap m up front q back is in
      let less : AreUnder lev l front = subst (AreUnder lev l) first p.gap.under in
      let held : gap_of lev l front ≡ held_within lev m (gap_between after (Some q.0)) = lower_held lev m up low l few front less ∙ ap (gap_of lev 256) (sym first) in
      let others : row_of lev (gap_of lev l) l [] back ≡ row_by (Some q.0) before qs = ap (row_of lev (gap_of lev l) l []) (sym second) ∙ row_is qs (Some q.0) before p.rest p.left in
      ap (row_of lev (gap_of lev l) l []) is ∙ row_of-goes lev (gap_of lev l) l [] front q back (none_at lev l l front (omega arith) less) p.on ∙ (λ i. node (held i) q.0 q.1 (others i))

  -- a page on the level stands in a gap of the level above that has a key of it
  pub page_there : (q : List ℕ × List ℕ) (qs : KeyDigests) (after before : Front) → Remains lev m up l after before → pairs_within bytes_order (gap_between after before) ps ≡ q ∷ qs
      → held_within lev m (gap_between after before) ≡ below (page l None (row_by after before (q ∷ qs)))
  page_there q qs after before r some =
      let all : KeyDigests = pairs_within bytes_order (gap_between after before) m in
      let p = next_gap lev m up l after before q qs r some in
      let (front, back, is) = p.has in
      let any : any_at lev l all ≡ true = ap (any_at lev l) is ∙ any_middle lev l front q back p.on in
      gap_of-top lev 256 l all few any (λ j high upto. none_at lev (suc l) j all (omega (arith, high)) r.upto) ∙ ap (λ r. below (page l None r)) (row_is (q ∷ qs) after before r some)
