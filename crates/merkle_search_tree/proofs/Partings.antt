-- The parts of a page at the key's gap, and the partings of its path.
use Rattle.std.proofs.Common.{◌≡◌, ℕ, zero, suc, ◌<◌, ◌≤◌, List, [], ◌∷◌, length, get_or, Bool, true, false, if◌then◌else◌, Option, None, refl, ap, sym, subst, ◌∙◌, arith}
use Rattle.std.specs.declared.cmp.Ordering.{Ordering}
use Rattle.std.specs.Ordering.{is_gt}
use Rattle.key_order.specs.Map.{IsMap}
use Rattle.key_order.proofs.ListParts.{map-first, map-rest}
use Rattle.merkle_tree_theory.specs.Tree.{Tree, page, Row, high, node, Held, below, Node, row, tree_size, row_size, held_size}
use Rattle.merkle_tree_theory.specs.Page.{pairs, row_pairs, held_pairs, row_nodes, nodes_of}
use Rattle.merkle_tree_theory.specs.Upsert.{place, lower, upper, held_lower, held_upper, as_held, row_digest_beside, digest_beside}
use Rattle.merkle_tree_theory.specs.Chain.{row_length, page_length, high_of, first_of, with_high, with_first, row_take, row_drop, row_of_page}
use Rattle.merkle_search_tree.specs.Parting.{gap, row_place, parting_place, PartsNodes, PartingFits, PartingsFit}
use Rattle.merkle_search_tree.specs.declared.parting.Parting.{Parting}
use Rattle.merkle_tree_theory.proofs.PageChains.{length-first, length-drop, some-held, some-kept}

module _ {K D : Type 0} (cmp : K → K → Ordering) (at : K) where
  pub gap-all : (r : Row K D) → row_place cmp at r ≡ row_length r → gap cmp at r ≡ high_of r
  gap-all (high h) p = refl
  gap-all (node h k d r) p = by (is_gt (cmp at k)) p (gap-all r)
    where
      by : (b : Bool) → (if b then (suc (row_place cmp at r)) else 0) ≡ suc (row_length r) → (row_place cmp at r ≡ row_length r → gap cmp at r ≡ high_of r)
          → (if b then (gap cmp at r) else h) ≡ high_of r
      by true p f = f (omega (arith, p))
      by false p f = absurd (omega (arith, p))

  low-all : (r : Row K D) → row_place cmp at r ≡ row_length r → lower cmp at r ≡ with_high (held_lower cmp at (high_of r)) r
  low-all (high h) p = refl
  low-all (node h k d r) p = by (is_gt (cmp at k)) p (low-all r)
    where
      by : (b : Bool) → (if b then (suc (row_place cmp at r)) else 0) ≡ suc (row_length r) → (row_place cmp at r ≡ row_length r → lower cmp at r ≡ with_high (held_lower cmp at (high_of r)) r)
          → (if b then (node h k d (lower cmp at r)) else (high (held_lower cmp at h))) ≡ node h k d (with_high (held_lower cmp at (high_of r)) r)
      by true p f = ap (node h k d) (f (omega (arith, p)))
      by false p f = absurd (omega (arith, p))

  up-all : (r : Row K D) → row_place cmp at r ≡ row_length r → upper cmp at r ≡ high (held_upper cmp at (high_of r))
  up-all (high h) p = refl
  up-all (node h k d r) p = by (is_gt (cmp at k)) p (up-all r)
    where
      by : (b : Bool) → (if b then (suc (row_place cmp at r)) else 0) ≡ suc (row_length r) → (row_place cmp at r ≡ row_length r → upper cmp at r ≡ high (held_upper cmp at (high_of r)))
          → (if b then (upper cmp at r) else (node (held_upper cmp at h) k d r)) ≡ high (held_upper cmp at (high_of r))
      by true p f = f (omega (arith, p))
      by false p f = absurd (omega (arith, p))

  pub gap-at : (r : Row K D) (i : ℕ) → i ≡ row_place cmp at r → gap cmp at r ≡ first_of (row_drop i r)
  gap-at (high h) zero p = refl
  gap-at (high h) (suc i) p = refl
  gap-at (node h k d r) i p = by (is_gt (cmp at k)) i p (gap-at r)
    where
      by : (b : Bool) (i : ℕ) → i ≡ (if b then (suc (row_place cmp at r)) else 0) → ((j : ℕ) → j ≡ row_place cmp at r → gap cmp at r ≡ first_of (row_drop j r))
          → (if b then (gap cmp at r) else h) ≡ first_of (row_drop i (node h k d r))
      by true zero p f = absurd (omega (arith, p))
      by true (suc j) p f = f j (omega (arith, p))
      by false zero p f = refl
      by false (suc j) p f = absurd (omega (arith, p))

  low-at : (r : Row K D) (i : ℕ) → i ≡ row_place cmp at r → i < row_length r → lower cmp at r ≡ with_high (held_lower cmp at (first_of (row_drop i r))) (row_take i r)
  low-at (high h) i p q = absurd (omega arith)
  low-at (node h k d r) i p q = by (is_gt (cmp at k)) i p q (low-at r)
    where
      by : (b : Bool) (i : ℕ) → i ≡ (if b then (suc (row_place cmp at r)) else 0) → i < suc (row_length r)
          → ((j : ℕ) → j ≡ row_place cmp at r → j < row_length r → lower cmp at r ≡ with_high (held_lower cmp at (first_of (row_drop j r))) (row_take j r))
          → (if b then (node h k d (lower cmp at r)) else (high (held_lower cmp at h))) ≡ with_high (held_lower cmp at (first_of (row_drop i (node h k d r)))) (row_take i (node h k d r))
      by true zero p q f = absurd (omega (arith, p))
      by true (suc j) p q f = ap (node h k d) (f j (omega (arith, p)) (omega (arith, q)))
      by false zero p q f = refl
      by false (suc j) p q f = absurd (omega (arith, p))

  up-at : (r : Row K D) (i : ℕ) → i ≡ row_place cmp at r → i < row_length r → upper cmp at r ≡ with_first (held_upper cmp at (first_of (row_drop i r))) (row_drop i r)
  up-at (high h) i p q = absurd (omega arith)
  up-at (node h k d r) i p q = by (is_gt (cmp at k)) i p q (up-at r)
    where
      by : (b : Bool) (i : ℕ) → i ≡ (if b then (suc (row_place cmp at r)) else 0) → i < suc (row_length r)
          → ((j : ℕ) → j ≡ row_place cmp at r → j < row_length r → upper cmp at r ≡ with_first (held_upper cmp at (first_of (row_drop j r))) (row_drop j r))
          → (if b then (upper cmp at r) else (node (held_upper cmp at h) k d r)) ≡ with_first (held_upper cmp at (first_of (row_drop i (node h k d r)))) (row_drop i (node h k d r))
      by true zero p q f = absurd (omega (arith, p))
      by true (suc j) p q f = f j (omega (arith, p)) (omega (arith, q))
      by false zero p q f = refl
      by false (suc j) p q f = absurd (omega (arith, p))

  -- the parts of a page at the key
  pub page-all : (l : ℕ) (c : Option (List ℕ)) (r : Row K D) → row_place cmp at r ≡ row_length r
      → (held_lower cmp at (below (page l c r)) ≡ below (page l (digest_beside (held_upper cmp at (high_of r)) c) (with_high (held_lower cmp at (high_of r)) r)))
      × (held_upper cmp at (below (page l c r)) ≡ held_upper cmp at (high_of r))
  page-all l c (high h) p = (refl, refl)
  page-all l c (node h k d r) p =
      let lo = low-all (node h k d r) p in
      let up = up-all (node h k d r) p in ((λ j. as_held l (row_digest_beside (up j) c) (lo j)), (λ j. as_held l (row_digest_beside (lo j) c) (up j)))

  pub page-none : (l : ℕ) (c : Option (List ℕ)) (r : Row K D) → row_place cmp at r ≡ 0 → 0 < row_length r
      → (held_lower cmp at (below (page l c r)) ≡ held_lower cmp at (first_of r))
      × (held_upper cmp at (below (page l c r)) ≡ below (page l (digest_beside (held_lower cmp at (first_of r)) c) (with_first (held_upper cmp at (first_of r)) r)))
  page-none l c (high h) p q = absurd (omega arith)
  page-none l c (node h k d r) p q =
      let lo = low-at (node h k d r) 0 (sym p) q in
      let up = up-at (node h k d r) 0 (sym p) q in ((λ j. as_held l (row_digest_beside (up j) c) (lo j)), (λ j. as_held l (row_digest_beside (lo j) c) (up j)))

  pub page-at : (l : ℕ) (c : Option (List ℕ)) (r : Row K D) (i : ℕ) → i ≡ row_place cmp at r → 0 < i → i < row_length r
      → (held_lower cmp at (below (page l c r)) ≡ below (page l None (with_high (held_lower cmp at (first_of (row_drop i r))) (row_take i r))))
      × (held_upper cmp at (below (page l c r)) ≡ below (page l None (with_first (held_upper cmp at (first_of (row_drop i r))) (row_drop i r))))
  page-at l c (high h) i p z q = absurd (omega arith)
  page-at l c (node h k d r) zero p z q = absurd (omega arith)
  page-at l c (node h k d r) (suc i) p z q =
      let lo = low-at (node h k d r) (suc i) p q in
      let up = up-at (node h k d r) (suc i) p q in
      let U = with_first (held_upper cmp at (first_of (row_drop i r))) (row_drop i r) in
      let some : 0 < row_length U = omega (arith, length-first (held_upper cmp at (first_of (row_drop i r))) (row_drop i r), length-drop i r, q) in (
        (λ j. as_held l (row_digest_beside (up j) c) (lo j)) ∙ ap (λ o. below (page l o (node h k d (with_high (held_lower cmp at (first_of (row_drop i r))) (row_take i r))))) (some-kept c U some),
        (λ j. as_held l (row_digest_beside (lo j) c) (up j)) ∙ some-held l None U some,
      )

module _ {K D : Type 0} (cmp : K → K → Ordering) (k : K) where
  row_place-nodes : (r : Row K D) → row_place cmp k r ≡ place cmp k (row_nodes r)
  row_place-nodes (high h) = refl
  row_place-nodes (node h x d r) = ap (λ n. if (is_gt (cmp k x)) then (suc n) else 0) (row_place-nodes r)

  pub page_place : (t : Tree K D) → row_place cmp k (row_of_page t) ≡ place cmp k (nodes_of t)
  page_place (page l c r) = row_place-nodes r

  -- the partings of a page's path: its own, and those of what stands in its gap
  pub partings-more : (t : Tree K D) (at : ℕ) (c : Parting K D) (cs : List (Parting K D)) → at ≡ row_place cmp k (row_of_page t) → PartsNodes (page_length t) c → parting_place (page_length t) c ≡ at
      → PartingsFit cmp k (first_of (row_drop at (row_of_page t))) cs → PartingsFit cmp k (below t) (c ∷ cs)
  partings-more (page l o r) at c cs p a q f = ((a, q ∙ p), subst (λ h. PartingsFit cmp k h cs) (sym (gap-at cmp k r at p)) f)

  pub first-parting : (h : Held K D) (t : Tree K D) (c : Parting K D) (cs its : List (Parting K D)) → h ≡ below t → its ≡ c ∷ cs → PartingsFit cmp k h its
      → PartingFits cmp k (row_of_page t) c × PartingsFit cmp k (gap cmp k (row_of_page t)) cs
  first-parting h t c cs its e f a = by t (subst (λ xs. PartingsFit cmp k (below t) xs) f (subst (λ x. PartingsFit cmp k x its) e a))
    where
      by : (t : Tree K D) → PartingsFit cmp k (below t) (c ∷ cs) → PartingFits cmp k (row_of_page t) c × PartingsFit cmp k (gap cmp k (row_of_page t)) cs
      by (page l o r) a = a

module _ {K D : Type 0} where
  row_length-nodes : (r : Row K D) → row_length r ≡ length (row_nodes r)
  row_length-nodes (high h) = refl
  row_length-nodes (node h x d r) = omega (arith, row_length-nodes r)

  pub page_length-nodes : (t : Tree K D) → page_length t ≡ length (nodes_of t)
  page_length-nodes (page l c r) = row_length-nodes r

  -- what stands in a gap of a map is a map, and smaller
  held-map : (cmp : K → K → Ordering) (r : Row K D) (i : ℕ) → IsMap cmp (row_pairs r) → IsMap cmp (held_pairs (first_of (row_drop i r)))
  held-map cmp (high h) zero a = a
  held-map cmp (high h) (suc i) a = a
  held-map cmp (node h k d r) zero a = map-first cmp (held_pairs h) ((k, d) ∷ row_pairs r) a
  held-map cmp (node h k d r) (suc i) a = held-map cmp r i (map-rest cmp (held_pairs h) ((k, d) ∷ row_pairs r) a).1

  pub page_held-map : (cmp : K → K → Ordering) (t : Tree K D) (i : ℕ) → IsMap cmp (pairs t) → IsMap cmp (held_pairs (first_of (row_drop i (row_of_page t))))
  page_held-map cmp (page l c r) i a = held-map cmp r i a

  held-size : (r : Row K D) (i : ℕ) → held_size (first_of (row_drop i r)) ≤ row_size r
  held-size (high h) zero = omega arith
  held-size (high h) (suc i) = omega arith
  held-size (node h k d r) zero = omega arith
  held-size (node h k d r) (suc i) = omega (arith, held-size r i)

  pub page_held-size : (t : Tree K D) (i : ℕ) → held_size (first_of (row_drop i (row_of_page t))) < tree_size t
  page_held-size (page l c r) i = omega (arith, held-size r i)

  pub first-at : (es : List (Node K D)) (h : Held K D) (i : ℕ) (x : Node K D) → i < length es → first_of (row_drop i (row es h)) ≡ (get_or es i x).lt
  first-at [] h i x r = absurd (omega arith)
  first-at (e ∷ es) h zero x r = refl
  first-at (e ∷ es) h (suc i) x r = first-at es h i x (omega arith)

  pub first-last : (es : List (Node K D)) (h : Held K D) (i : ℕ) → length es ≤ i → first_of (row_drop i (row es h)) ≡ h
  first-last [] h zero r = refl
  first-last [] h (suc i) r = refl
  first-last (e ∷ es) h zero r = absurd (omega arith)
  first-last (e ∷ es) h (suc i) r = first-last es h i (omega arith)
