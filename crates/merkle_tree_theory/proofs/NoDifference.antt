-- Lists that agree in span and digest have no difference, and the page ranges of equal maps are such lists.
use Rattle.std.proofs.Common.{◌≡◌, ℕ, List, [], ◌∷◌, sym, subst}
use Rattle.std.specs.Cmp.{IsTotalOrder}
use Rattle.std.specs.declared.cmp.Ordering.{Ordering}
use Rattle.key_order.specs.Order.{Same}
use Rattle.key_order.specs.Interval.{Span}
use Rattle.key_order.specs.Map.{SameMap}
use Rattle.key_order.proofs.Orders.{same_from, same_up, same_down}
use Rattle.merkle_diff.specs.Entry.{Entry}
use Rattle.merkle_diff.specs.SameEntries.{SameEntries}
use Rattle.merkle_diff.specs.Difference.{IsByTable, FirstsAgree}
use Rattle.merkle_digest.specs.Level.{level_of}
use Rattle.merkle_tree_theory.specs.Ranges.{IsRangesOf, NothingToAsk, ranges_of}
use Rattle.merkle_tree_theory.specs.declared.page_format.PageFormat.{PageFormat}
use Rattle.merkle_tree_theory.proofs.SameRanges.{same_ranges}
use Rattle.merkle_tree_theory.proofs.TreeOf.{same_pairs}
use Rattle.merkle_tree_theory.proofs.Unique.{unique_root}

module _ {K : Type 0} (cmp : K → K → Ordering) where
  none_found : (ls ps : List (Entry K (List ℕ))) (found : List (Span K)) → SameEntries cmp ls ps → IsByTable cmp ls ps found → (FirstsAgree cmp ls ps → found ≡ []) → found ≡ []
  none_found [] [] found s t e = t
  none_found [] (b ∷ ps) found s t e = absurd s
  none_found (a ∷ ls) [] found s t e = absurd s
  none_found (a ∷ ls) (b ∷ ps) found s t e = e s.0

  pub nothing_to_ask : (ls ps : List (Entry K (List ℕ))) → SameEntries cmp ls ps → NothingToAsk cmp ls ps
  nothing_to_ask ls ps s = λ found laws spares. none_found ls ps found s laws.table spares.equal

  same_back : IsTotalOrder cmp → (x y : K) → Same cmp x y → Same cmp y x
  same_back o x y e = same_from cmp o y x (same_down cmp o x y e) (same_up cmp o x y e)

  pub same-entries-back : IsTotalOrder cmp → (ls ps : List (Entry K (List ℕ))) → SameEntries cmp ls ps → SameEntries cmp ps ls
  same-entries-back o [] [] s = tt
  same-entries-back o [] (b ∷ ps) s = absurd s
  same-entries-back o (a ∷ ls) [] s = absurd s
  same-entries-back o (a ∷ ls) (b ∷ ps) s = (((same_back o a.first b.first s.0.0.0, same_back o a.last b.last s.0.0.1), sym s.0.1), same-entries-back o ls ps s.1)

module _ {K : Type 0} (cmp : K → K → Ordering) (o : IsTotalOrder cmp) (digest_of : K → List ℕ) (base : ℕ) (alike : (x y : K) → Same cmp x y → level_of (digest_of x) base ≡ level_of (digest_of y) base)
    (format : PageFormat) (bytes_of : K → List ℕ) (respects : (x y : K) → Same cmp x y → bytes_of x ≡ bytes_of y) where
  -- the page ranges of equal maps agree in span and digest
  pub same_lists : (a b : List (K × List ℕ)) (ls ps : List (Entry K (List ℕ))) → SameMap cmp (λ d e. d ≡ e) a b
      → IsRangesOf cmp digest_of base format bytes_of a ls → IsRangesOf cmp digest_of base format bytes_of b ps → SameEntries cmp ls ps
  same_lists a b ls ps same (t, is_t, e) (u, is_u, f) =
      subst (λ xs. SameEntries cmp xs ps) (sym e) (subst (SameEntries cmp (ranges_of format bytes_of t)) (sym f)
      (same_ranges cmp format bytes_of respects t u (unique_root (λ k. level_of (digest_of k) base) cmp alike t u is_t.0 is_u.0 (same_pairs cmp o digest_of base a b t u same is_t is_u))))
