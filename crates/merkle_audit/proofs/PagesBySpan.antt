-- The pages of a tree by their spans: the pairs of a page are those of the tree from its first key to its last, and the page ranges of the tree
-- have its entry.
use Rattle.std.proofs.Common.{◌≡◌, ℕ, List, [], ◌∷◌, ◌++◌, sym, ◌∙◌, ap, subst, inl, inr, append_assoc, append-nil}
use Rattle.std.specs.Cmp.{IsTotalOrder}
use Rattle.std.specs.List.{AllByRecursion}
use Rattle.std.specs.declared.cmp.Ordering.{Ordering}
use Rattle.key_order.specs.Map.{IsMap, last_key}
use Rattle.key_order.proofs.ListParts.{each-before, each-behind}
use Rattle.merkle_diff.specs.Entry.{Entry}
use Rattle.merkle_tree_theory.specs.Canonical.{HasNode, IsCanonicalRoot}
use Rattle.merkle_tree_theory.specs.Listing.{entry_rows}
use Rattle.merkle_tree_theory.specs.Page.{pairs, row_pairs, held_pairs}
use Rattle.merkle_tree_theory.specs.Ranges.{IsPageIn, IsPageInRow, IsPageInHeld, entry_of, ranges_of, row_ranges, held_ranges}
use Rattle.merkle_tree_theory.specs.Stream.{page_digest}
use Rattle.merkle_tree_theory.specs.Tree.{Tree, page, Row, high, node, Held, nothing, below}
use Rattle.merkle_tree_theory.specs.declared.page_format.PageFormat.{PageFormat}
use Rattle.merkle_tree_theory.proofs.Inside.{canonical_down}
use Rattle.merkle_tree_theory.proofs.PagesIn.{inside}
use Rattle.merkle_tree_theory.proofs.RangeKeys.{not-none}
use Rattle.merkle_tree_theory.proofs.RangesOfMap.{after_front}

-- the elements stand together in a list
abbrev pub IsStretch : {X : Type 0} → List X → List X → Type 0
IsStretch {X} xs whole = (pre : List X) × (post : List X) × (whole ≡ pre ++ (xs ++ post))

module _ {K D : Type 0} where
  mutual
    -- the pairs of a page of a tree stand together among those of the tree
    pub page_stretch : (s t : Tree K D) → IsPageIn s t → IsStretch (pairs s) (pairs t)
    page_stretch s (page l c r) (inl e) = ([], [], sym (ap pairs e) ∙ sym (append-nil (pairs s)))
    page_stretch s (page l c r) (inr i) = row_stretch s r i

    row_stretch : (s : Tree K D) (r : Row K D) → IsPageInRow s r → IsStretch (pairs s) (row_pairs r)
    row_stretch s (high h) i = held_stretch s h i
    row_stretch s (node h k d r) (inl i) =
        let (pre, post, e) = held_stretch s h i in
        let rest = (k, d) ∷ row_pairs r in
        (pre, post ++ rest, ap (λ w. w ++ rest) e ∙ append_assoc pre (pairs s ++ post) rest ∙ ap (λ w. pre ++ w) (append_assoc (pairs s) post rest))
    row_stretch s (node h k d r) (inr i) =
        let (pre, post, e) = row_stretch s r i in
        (held_pairs h ++ (k, d) ∷ pre, post, ap (λ w. held_pairs h ++ (k, d) ∷ w) e ∙ sym (append_assoc (held_pairs h) ((k, d) ∷ pre) (pairs s ++ post)))

    held_stretch : (s : Tree K D) (h : Held K D) → IsPageInHeld s h → IsStretch (pairs s) (held_pairs h)
    held_stretch s nothing i = absurd i
    held_stretch s (below t) i = page_stretch s t i

-- the entry of a page whose pairs are these
abbrev pub entry_at : {K : Type 0} → K × List ℕ → List (K × List ℕ) → List ℕ → Entry K (List ℕ)
entry_at p ps d = record { first = p.0; last = last_key p.0 ps; digest = d }

module _ {K : Type 0} (cmp : K → K → Ordering) (o : IsTotalOrder cmp) where
  -- the pairs of the tree in the span of a page are those of the page
  pub span_pairs : (s t : Tree K (List ℕ)) (p : K × List ℕ) (ps : List (K × List ℕ)) (d : List ℕ) → IsPageIn s t → IsMap cmp (pairs t) → pairs s ≡ p ∷ ps
      → entry_rows cmp (entry_at p ps d) (pairs t) ≡ pairs s
  span_pairs s t p ps d i m e =
      let (pre, post, f) = page_stretch s t i in
      let g : pairs t ≡ pre ++ ((p ∷ ps) ++ post) = f ∙ ap (λ w. pre ++ (w ++ post)) e in
      ap (entry_rows cmp (entry_at p ps d)) g ∙ after_front cmp o pre p ps post (subst (IsMap cmp) g m) ∙ sym e

module _ {K : Type 0} (format : PageFormat) (bytes_of : K → List ℕ) (P : Entry K (List ℕ) → Type 0) where
  mutual
    -- what holds of each of the page ranges of a tree holds of the entry of each of its pages that has a pair
    pub of_page : (s t : Tree K (List ℕ)) (p : K × List ℕ) (ps : List (K × List ℕ)) → IsPageIn s t → pairs s ≡ p ∷ ps → AllByRecursion P (ranges_of format bytes_of t)
        → P (entry_at p ps (page_digest format bytes_of s))
    of_page s (page l c r) p ps (inl e) q all =
        let own : AllByRecursion P (entry_of (row_pairs r) (page_digest format bytes_of (page l c r))) =
        each-before P (entry_of (row_pairs r) (page_digest format bytes_of (page l c r))) (row_ranges format bytes_of r) all in
        (subst (λ xs. AllByRecursion P (entry_of xs (page_digest format bytes_of s))) q
        (subst (λ (u : Tree K (List ℕ)). AllByRecursion P (entry_of (pairs u) (page_digest format bytes_of u))) (sym e) own)).0
    of_page s (page l c r) p ps (inr i) q all =
        of_page_in_row s r p ps i q (each-behind P (entry_of (row_pairs r) (page_digest format bytes_of (page l c r))) (row_ranges format bytes_of r) all)

    of_page_in_row : (s : Tree K (List ℕ)) (r : Row K (List ℕ)) (p : K × List ℕ) (ps : List (K × List ℕ)) → IsPageInRow s r → pairs s ≡ p ∷ ps
        → AllByRecursion P (row_ranges format bytes_of r) → P (entry_at p ps (page_digest format bytes_of s))
    of_page_in_row s (high h) p ps i q all = of_page_in_held s h p ps i q all
    of_page_in_row s (node h k d r) p ps (inl i) q all = of_page_in_held s h p ps i q (each-before P (held_ranges format bytes_of h) (row_ranges format bytes_of r) all)
    of_page_in_row s (node h k d r) p ps (inr i) q all = of_page_in_row s r p ps i q (each-behind P (held_ranges format bytes_of h) (row_ranges format bytes_of r) all)

    of_page_in_held : (s : Tree K (List ℕ)) (h : Held K (List ℕ)) (p : K × List ℕ) (ps : List (K × List ℕ)) → IsPageInHeld s h → pairs s ≡ p ∷ ps
        → AllByRecursion P (held_ranges format bytes_of h) → P (entry_at p ps (page_digest format bytes_of s))
    of_page_in_held s nothing p ps i q all = absurd i
    of_page_in_held s (below t) p ps i q all = of_page s t p ps i q all

module _ {K D : Type 0} (lev : K → ℕ) where
  some_pair : (s : Tree K D) → HasNode s → pairs s ≡ [] → ⊥
  some_pair (page l c (high h)) n e = n
  some_pair (page l c (node h k d r)) n e = not-none (held_pairs h) (k, d) (row_pairs r) e

  -- a page of a canonical tree that has no pair is its root page
  pub page_without_pairs : (s t : Tree K D) → IsCanonicalRoot lev t → IsPageIn s t → pairs s ≡ [] → s ≡ t
  page_without_pairs s (page l c (high nothing)) g (inl e) q = e
  page_without_pairs s (page l c (high nothing)) g (inr i) q = absurd i
  page_without_pairs s (page l c (high (below t))) g i q = absurd g
  page_without_pairs s (page l c (node h k d r)) g i q = absurd (some_pair s (inside (canonical_down lev) s (page l c (node h k d r)) (tt, g) i).0 q)
