-- The tree of a map is canonical, and has that map.
use Rattle.std.proofs.Common.{◌≡◌, ◌≢◌, ℕ, zero, suc, ◌<◌, ◌≤◌, Bool, true, false, ◌==◌, ◌||◌, if◌then◌else◌, List, [], ◌∷◌, ◌++◌, None, refl, ap, sym, ◌∙◌, subst, append_assoc, append-nil, arith}
use Rattle.std.proofs.lemmas.Bool.{eqb-true, eqb-false}
use Rattle.std.specs.Cmp.{IsTotalOrder}
use Rattle.std.specs.declared.cmp.Ordering.{Ordering}
use Rattle.key_order.specs.Order.{Same}
use Rattle.merkle_tree_theory.specs.Tree.{Tree, page, node, Held, below}
use Rattle.merkle_tree_theory.specs.Page.{pairs, row_pairs, held_pairs}
use Rattle.merkle_tree_theory.specs.Canonical.{HasNode, IsRow, IsGap, IsCanonicalRoot, IsTreeOf, SamePages}
use Rattle.key_order.specs.Map.{SameMap}
use Rattle.key_order.proofs.SameMaps.{same_map-own, same_across, same_map-back}
use Rattle.merkle_tree_theory.specs.TreeOf.{any_at, row_of, gap_of, tree_of}
use Rattle.merkle_tree_theory.proofs.Same.{same-root, same-back}
use Rattle.merkle_tree_theory.proofs.SameRanges.{same-pairs}
use Rattle.merkle_tree_theory.proofs.Unique.{Under, Under-append, unique_root}
use Rattle.merkle_tree_theory.proofs.Roots.{root-pairs, root-canonical}

-- a level below n + 1 that is not n is below n
not_at : (k n : ℕ) → k < suc n → (k == n) ≡ false → k < n
not_at k n h e = let ne : k ≢ n = eqb-false k n e in omega arith

module _ {K D : Type 0} (lev : K → ℕ) where
  pub row_of-pairs : (gap : List (K × D) → Held K D) (n : ℕ) → ((g : List (K × D)) → Under lev n g → held_pairs (gap g) ≡ g) → (run ps : List (K × D))
      → Under lev n run → Under lev (suc n) ps → row_pairs (row_of lev gap n run ps) ≡ run ++ ps
  row_of-pairs gap n f run [] u v = f run u ∙ sym (append-nil run)
  row_of-pairs gap n f run (p ∷ ps) u v =
      by (lev p.0 == n) refl (row_of-pairs gap n f [] ps tt v.1) (λ h. row_of-pairs gap n f (run ++ p ∷ []) ps (Under-append lev n run (p ∷ []) u (h, tt)) v.1)
    where
      by : (c : Bool) → (lev p.0 == n) ≡ c → row_pairs (row_of lev gap n [] ps) ≡ ps → (lev p.0 < n → row_pairs (row_of lev gap n (run ++ p ∷ []) ps) ≡ (run ++ p ∷ []) ++ ps)
          → row_pairs (if c then (node (gap run) p.0 p.1 (row_of lev gap n [] ps)) else (row_of lev gap n (run ++ p ∷ []) ps)) ≡ run ++ p ∷ ps
      by true e a b = ap (λ xs. xs ++ p ∷ row_pairs (row_of lev gap n [] ps)) (f run u) ∙ ap (λ xs. run ++ p ∷ xs) a
      by false e a b = b (not_at (lev p.0) n v.0 e) ∙ append_assoc run (p ∷ []) ps

  pub row_of-canonical : (gap : List (K × D) → Held K D) (n : ℕ) → ((g : List (K × D)) → Under lev n g → IsGap lev n (gap g)) → (run ps : List (K × D))
      → Under lev n run → Under lev (suc n) ps → IsRow lev n (row_of lev gap n run ps)
  row_of-canonical gap n f run [] u v = f run u
  row_of-canonical gap n f run (p ∷ ps) u v =
      by (lev p.0 == n) refl (row_of-canonical gap n f [] ps tt v.1) (λ h. row_of-canonical gap n f (run ++ p ∷ []) ps (Under-append lev n run (p ∷ []) u (h, tt)) v.1)
    where
      by : (c : Bool) → (lev p.0 == n) ≡ c → IsRow lev n (row_of lev gap n [] ps) → (lev p.0 < n → IsRow lev n (row_of lev gap n (run ++ p ∷ []) ps))
          → IsRow lev n (if c then (node (gap run) p.0 p.1 (row_of lev gap n [] ps)) else (row_of lev gap n (run ++ p ∷ []) ps))
      by true e a b = (f run u, eqb-true (lev p.0) n e, a)
      by false e a b = b (not_at (lev p.0) n v.0 e)

  pub row_of-node : (gap : List (K × D) → Held K D) (n l : ℕ) (run ps : List (K × D)) → any_at lev n ps ≡ true → HasNode (page l None (row_of lev gap n run ps))
  row_of-node gap n l run [] e = absurd (cc)
  row_of-node gap n l run (p ∷ ps) e = by (lev p.0 == n) e (λ h. row_of-node gap n l (run ++ p ∷ []) ps h)
    where
      by : (c : Bool) → c || any_at lev n ps ≡ true → (any_at lev n ps ≡ true → HasNode (page l None (row_of lev gap n (run ++ p ∷ []) ps)))
          → HasNode (page l None (if c then (node (gap run) p.0 p.1 (row_of lev gap n [] ps)) else (row_of lev gap n (run ++ p ∷ []) ps)))
      by true e a = tt
      by false e a = a e

  pub none_at : (n : ℕ) (ps : List (K × D)) → any_at lev n ps ≡ false → Under lev (suc n) ps → Under lev n ps
  none_at n [] e u = tt
  none_at n (p ∷ ps) e u = by (lev p.0 == n) refl e (λ h. none_at n ps h u.1)
    where
      by : (c : Bool) → (lev p.0 == n) ≡ c → c || any_at lev n ps ≡ false → (any_at lev n ps ≡ false → Under lev n ps) → (lev p.0 < n) × Under lev n ps
      by true x y a = absurd (cc)
      by false x y a = (not_at (lev p.0) n u.0 x, a y)

  pub gap_of-pairs : (n : ℕ) (ps : List (K × D)) → Under lev n ps → held_pairs (gap_of lev n ps) ≡ ps
  gap_of-pairs zero [] u = refl
  gap_of-pairs zero (p ∷ ps) u = absurd (omega (arith, u.0))
  gap_of-pairs (suc n) ps u = by (any_at lev n ps) refl (row_of-pairs (gap_of lev n) n (gap_of-pairs n) [] ps tt u) (λ h. gap_of-pairs n ps h)
    where
      by : (c : Bool) → any_at lev n ps ≡ c → row_pairs (row_of lev (gap_of lev n) n [] ps) ≡ ps → (Under lev n ps → held_pairs (gap_of lev n ps) ≡ ps)
          → held_pairs (if c then (below (page n None (row_of lev (gap_of lev n) n [] ps))) else (gap_of lev n ps)) ≡ ps
      by true e a b = a
      by false e a b = b (none_at n ps e u)

  pub gap_of-canonical : (n m : ℕ) → n ≤ m → (ps : List (K × D)) → Under lev n ps → IsGap lev m (gap_of lev n ps)
  gap_of-canonical zero m h ps u = tt
  gap_of-canonical (suc n) m h ps u =
      by (any_at lev n ps) refl (row_of-canonical (gap_of lev n) n (λ g v. let le : n ≤ n = omega arith in gap_of-canonical n n le g v) [] ps tt u)
      (λ v. let le : n ≤ m = omega arith in gap_of-canonical n m le ps v)
    where
      by : (c : Bool) → any_at lev n ps ≡ c → IsRow lev n (row_of lev (gap_of lev n) n [] ps) → (Under lev n ps → IsGap lev m (gap_of lev n ps))
          → IsGap lev m (if c then (below (page n None (row_of lev (gap_of lev n) n [] ps))) else (gap_of lev n ps))
      by true e a b = (omega arith, row_of-node (gap_of lev n) n n [] ps e, a)
      by false e a b = b (none_at n ps e u)

  pub tree_of-pairs : (ps : List (K × D)) → Under lev 256 ps → pairs (tree_of lev ps) ≡ ps
  unfolding tree_of
  tree_of-pairs ps u = root-pairs (gap_of lev 256 ps) ∙ gap_of-pairs 256 ps u

  pub tree_of-canonical : (ps : List (K × D)) → Under lev 256 ps → IsCanonicalRoot lev (tree_of lev ps)
  unfolding tree_of
  tree_of-canonical ps u = root-canonical lev 256 (gap_of lev 256 ps) (gap_of-canonical 256 256 (omega arith) ps u)

module _ {K D : Type 0} (lev : K → ℕ) (low : (k : K) → lev k < 256) (cmp : K → K → Ordering) (respects : (a b : K) → Same cmp a b → lev a ≡ lev b) where
  all_under : (ps : List (K × D)) → Under lev 256 ps
  all_under [] = tt
  all_under (p ∷ ps) = (low p.0, all_under ps)

  -- a canonical root of a map is the tree of that map, apart from caches
  pub is_tree_of : (t : Tree K D) (m : List (K × D)) → IsCanonicalRoot lev t → SameMap cmp (λ d e. d ≡ e) (pairs t) m → SamePages cmp t (tree_of lev m)
  is_tree_of t m c s =
      unique_root lev cmp respects t (tree_of lev m) c (tree_of-canonical lev m (all_under m)) (subst (SameMap cmp (λ d e. d ≡ e) (pairs t)) (sym (tree_of-pairs lev m (all_under m))) s)

  -- and it is a tree of the map
  pub tree_of-is : IsTotalOrder cmp → (m : List (K × D)) → IsCanonicalRoot lev (tree_of lev m) × SameMap cmp (λ d e. d ≡ e) (pairs (tree_of lev m)) m
  tree_of-is o m = (tree_of-canonical lev m (all_under m), subst (λ ps. SameMap cmp (λ d e. d ≡ e) ps m) (sym (tree_of-pairs lev m (all_under m))) (same_map-own cmp o m))

module _ {K : Type 0} (lev : K → ℕ) (low : (k : K) → lev k < 256) (cmp : K → K → Ordering) (respects : (a b : K) → Same cmp a b → lev a ≡ lev b) (o : IsTotalOrder cmp) where
  -- what has the pages of the tree of a map is a canonical root of that map
  pub same-tree_of : (t : Tree K (List ℕ)) (m : List (K × List ℕ)) → SamePages cmp t (tree_of lev m) → IsCanonicalRoot lev t × SameMap cmp (λ d e. d ≡ e) (pairs t) m
  same-tree_of t m s = (
    same-root cmp lev respects (tree_of lev m) t (same-back cmp o t (tree_of lev m) s) (tree_of-canonical lev m (all_under lev low cmp respects m)),
    subst (SameMap cmp (λ d e. d ≡ e) (pairs t)) (tree_of-pairs lev m (all_under lev low cmp respects m)) (same-pairs cmp t (tree_of lev m) s),
  )

module _ {K : Type 0} (cmp : K → K → Ordering) (o : IsTotalOrder cmp) where
  -- the trees of two equal maps have equal maps
  pub same_pairs : (digest_of : K → List ℕ) (base : ℕ) (a b : List (K × List ℕ)) (t u : Tree K (List ℕ)) → SameMap cmp (λ d e. d ≡ e) a b
      → IsTreeOf cmp digest_of base t a → IsTreeOf cmp digest_of base u b
      → SameMap cmp (λ d e. d ≡ e) (pairs t) (pairs u)
  same_pairs digest_of base a b t u h f g = same_across cmp o a b (pairs t) (pairs u) (same_map-back cmp o (pairs t) a f.1) (same_map-back cmp o (pairs u) b g.1) h
