-- Two canonical pages of one map are the same, apart from the caches.
use Rattle.std.proofs.Common.{◌≡◌, ℕ, ◌+◌, ◌<◌, ◌≤◌, List, [], ◌∷◌, ◌++◌, sym, subst, arith}
use Rattle.merkle_tree_theory.specs.Tree.{Tree, page, Row, high, node, Held, nothing, below}
use Rattle.merkle_tree_theory.specs.Page.{pairs, row_pairs, held_pairs, level}
use Rattle.merkle_tree_theory.specs.Canonical.{HasNode, IsCanonical, IsRow, IsGap, IsCanonicalRoot, SamePages, SameRow, SameHeld}
use Rattle.key_order.specs.Map.{SameMap}
use Rattle.std.specs.declared.cmp.Ordering.{Ordering}
use Rattle.key_order.specs.Order.{Same}

module _ {K D : Type 0} where
  -- each key of the list is on a level below l
  abbrev pub Under : (K → ℕ) → ℕ → List (K × D) → Type 0
  Under lev l [] = Unit {0}
  Under lev l (p ∷ ps) = (lev p.0 < l) × Under lev l ps

  pub Under-append : (lev : K → ℕ) (l : ℕ) (xs ys : List (K × D)) → Under lev l xs → Under lev l ys → Under lev l (xs ++ ys)
  Under-append lev l [] ys p q = q
  Under-append lev l (x ∷ xs) ys p q = (p.0, Under-append lev l xs ys p.1 q)

  pub Under-more : (lev : K → ℕ) (l m : ℕ) → l ≤ m → (xs : List (K × D)) → Under lev l xs → Under lev m xs
  Under-more lev l m h [] p = tt
  Under-more lev l m h (x ∷ xs) p = (omega (arith, p.0), Under-more lev l m h xs p.1)

module _ {K D : Type 0} (lev : K → ℕ) where
  mutual
    pub Under-tree : (t : Tree K D) → IsCanonical lev t → Under lev (level t + 1) (pairs t)
    Under-tree (page l c r) p = Under-row l r p

    pub Under-row : (l : ℕ) (r : Row K D) → IsRow lev l r → Under lev (l + 1) (row_pairs r)
    Under-row l (high h) p = Under-more lev l (l + 1) (omega arith) (held_pairs h) (Under-gap l h p)
    Under-row l (node h k d r) p =
        Under-append lev (l + 1) (held_pairs h) ((k, d) ∷ row_pairs r) (Under-more lev l (l + 1) (omega arith) (held_pairs h) (Under-gap l h p.0))
        (omega (arith, p.1), Under-row l r p.2)

    pub Under-gap : (l : ℕ) (h : Held K D) → IsGap lev l h → Under lev l (held_pairs h)
    Under-gap l nothing p = tt
    Under-gap l (below t) p = Under-more lev (level t + 1) l (omega (arith, p.0)) (pairs t) (Under-tree t p.2)

module _ {K D : Type 0} (lev : K → ℕ) (cmp : K → K → Ordering) (respects : (a b : K) → Same cmp a b → lev a ≡ lev b) where
  -- what stands before a key of level l, where all before it is under l, is determined by the whole list
  pub split_first : (l : ℕ) (xs ys : List (K × D)) (p q : K × D) (u v : List (K × D)) → Under lev l xs → Under lev l ys → lev p.0 ≡ l → lev q.0 ≡ l →
      SameMap cmp (λ d e. d ≡ e) (xs ++ p ∷ u) (ys ++ q ∷ v) → SameMap cmp (λ d e. d ≡ e) xs ys × Same cmp p.0 q.0 × (p.1 ≡ q.1) × SameMap cmp (λ d e. d ≡ e) u v
  split_first l [] [] p q u v a b e f s = (tt, s.0, s.1, s.2)
  split_first l [] (y ∷ ys) p q u v a b e f s = let r = respects p.0 y.0 s.0 in absurd (omega (arith, b.0))
  split_first l (x ∷ xs) [] p q u v a b e f s = let r = respects x.0 q.0 s.0 in absurd (omega (arith, a.0))
  split_first l (x ∷ xs) (y ∷ ys) p q u v a b e f s =
      let w = split_first l xs ys p q u v a.1 b.1 e f s.2 in ((s.0, s.1, w.0), w.1, w.2, w.3)

  -- a key of level l is in no list under l, on either side
  pub no_first : {X : Type 0} (l : ℕ) (xs ys : List (K × D)) (q : K × D) (v : List (K × D)) → Under lev l xs → lev q.0 ≡ l → SameMap cmp (λ d e. d ≡ e) xs (ys ++ q ∷ v) → X
  no_first l [] [] q v a f s = absurd s
  no_first l [] (y ∷ ys) q v a f s = absurd s
  no_first l (x ∷ xs) [] q v a f s = let r = respects x.0 q.0 s.0 in absurd (omega (arith, a.0))
  no_first l (x ∷ xs) (y ∷ ys) q v a f s = no_first l xs ys q v a.1 f s.2

  pub no_second : {X : Type 0} (l : ℕ) (xs ys : List (K × D)) (q : K × D) (v : List (K × D)) → Under lev l xs → lev q.0 ≡ l → SameMap cmp (λ d e. d ≡ e) (ys ++ q ∷ v) xs → X
  no_second l [] [] q v a f s = absurd s
  no_second l [] (y ∷ ys) q v a f s = absurd s
  no_second l (x ∷ xs) [] q v a f s = let r = respects q.0 x.0 s.0 in absurd (omega (arith, a.0))
  no_second l (x ∷ xs) (y ∷ ys) q v a f s = no_second l xs ys q v a.1 f s.2

  -- a key of one list is on a level that bounds the other
  pub reach_first : (m : ℕ) (xs : List (K × D)) (q : K × D) (v zs : List (K × D)) → Under lev m zs → SameMap cmp (λ d e. d ≡ e) (xs ++ q ∷ v) zs → lev q.0 < m
  reach_first m [] q v [] u s = absurd s
  reach_first m [] q v (z ∷ zs) u s = let r = respects q.0 z.0 s.0 in omega (arith, u.0)
  reach_first m (x ∷ xs) q v [] u s = absurd s
  reach_first m (x ∷ xs) q v (z ∷ zs) u s = reach_first m xs q v zs u.1 s.2

  pub reach_second : (m : ℕ) (xs : List (K × D)) (q : K × D) (v zs : List (K × D)) → Under lev m zs → SameMap cmp (λ d e. d ≡ e) zs (xs ++ q ∷ v) → lev q.0 < m
  reach_second m [] q v [] u s = absurd s
  reach_second m [] q v (z ∷ zs) u s = let r = respects z.0 q.0 s.0 in omega (arith, u.0)
  reach_second m (x ∷ xs) q v [] u s = absurd s
  reach_second m (x ∷ xs) q v (z ∷ zs) u s = reach_second m xs q v zs u.1 s.2

  none_first : {X : Type 0} (t : Tree K D) → HasNode t → SameMap cmp (λ d e. d ≡ e) [] (pairs t) → X
  none_first (page m c (high h)) n s = absurd n
  none_first {X} (page m c (node h k d r)) n s = never (held_pairs h) s
    where
      never : (xs : List (K × D)) → SameMap cmp (λ d e. d ≡ e) [] (xs ++ (k, d) ∷ row_pairs r) → X
      never [] s = absurd s
      never (x ∷ xs) s = absurd s

  none_second : {X : Type 0} (t : Tree K D) → HasNode t → SameMap cmp (λ d e. d ≡ e) (pairs t) [] → X
  none_second (page m c (high h)) n s = absurd n
  none_second {X} (page m c (node h k d r)) n s = never (held_pairs h) s
    where
      never : (xs : List (K × D)) → SameMap cmp (λ d e. d ≡ e) (xs ++ (k, d) ∷ row_pairs r) [] → X
      never [] s = absurd s
      never (x ∷ xs) s = absurd s

  -- the levels of two such pages of one map are equal
  same_level : (t t' : Tree K D) → IsCanonical lev t → IsCanonical lev t' → HasNode t → HasNode t' → SameMap cmp (λ d e. d ≡ e) (pairs t) (pairs t') → level t ≡ level t'
  same_level (page l c (high h)) t' p p' n n' s = absurd n
  same_level (page l c (node h k d r)) (page l' c' (high h')) p p' n n' s = absurd n'
  same_level (page l c (node h k d r)) (page l' c' (node h' k' d' r')) p p' n n' s =
      let a = reach_first (l' + 1) (held_pairs h) (k, d) (row_pairs r) _ (Under-row lev l' (node h' k' d' r') p') s in
      let b = reach_second (l + 1) (held_pairs h') (k', d') (row_pairs r') _ (Under-row lev l (node h k d r) p) s in
      omega (arith, p.1, p'.1)

  mutual
    pub unique_tree : (t t' : Tree K D) → IsCanonical lev t → IsCanonical lev t' → HasNode t → HasNode t' → SameMap cmp (λ d e. d ≡ e) (pairs t) (pairs t') → SamePages cmp t t'
    unique_tree (page l c r) (page l' c' r') p p' n n' s =
        let e : l ≡ l' = same_level (page l c r) (page l' c' r') p p' n n' s in
        (e, tt, unique_row l r r' p (subst (λ m. IsRow lev m r') (sym e) p') s)

    pub unique_row : (l : ℕ) (r r' : Row K D) → IsRow lev l r → IsRow lev l r' → SameMap cmp (λ d e. d ≡ e) (row_pairs r) (row_pairs r') → SameRow cmp r r'
    unique_row l (high h) (high h') p p' s = unique_held l h h' p p' s
    unique_row l (high h) (node h' k' d' r') p p' s = no_first l (held_pairs h) (held_pairs h') (k', d') (row_pairs r') (Under-gap lev l h p) p'.1 s
    unique_row l (node h k d r) (high h') p p' s = no_second l (held_pairs h') (held_pairs h) (k, d) (row_pairs r) (Under-gap lev l h' p') p.1 s
    unique_row l (node h k d r) (node h' k' d' r') p p' s =
        let w = split_first l (held_pairs h) (held_pairs h') (k, d) (k', d') (row_pairs r) (row_pairs r') (Under-gap lev l h p.0) (Under-gap lev l h' p'.0) p.1 p'.1 s in
        (unique_held l h h' p.0 p'.0 w.0, w.1, w.2, unique_row l r r' p.2 p'.2 w.3)

    pub unique_held : (l : ℕ) (h h' : Held K D) → IsGap lev l h → IsGap lev l h' → SameMap cmp (λ d e. d ≡ e) (held_pairs h) (held_pairs h') → SameHeld cmp h h'
    unique_held l nothing nothing p p' s = tt
    unique_held l nothing (below t') p p' s = none_first t' p'.1 s
    unique_held l (below t) nothing p p' s = none_second t p.1 s
    unique_held l (below t) (below t') p p' s = unique_tree t t' p.2 p'.2 p.1 p'.1 s

  -- two roots of equal maps are the same, apart from the caches
  pub unique_root : (t t' : Tree K D) → IsCanonicalRoot lev t → IsCanonicalRoot lev t' → SameMap cmp (λ d e. d ≡ e) (pairs t) (pairs t') → SamePages cmp t t'
  unique_root (page l c (high nothing)) (page l' c' (high nothing)) p p' s = (omega arith, tt, tt)
  unique_root (page l c (high (below t))) t' p p' s = absurd p
  unique_root (page l c (high nothing)) (page l' c' (high (below t'))) p p' s = absurd p'
  unique_root (page l c (high nothing)) (page l' c' (node h' k' d' r')) p p' s = none_first (page l' c' (node h' k' d' r')) tt s
  unique_root (page l c (node h k d r)) (page l' c' (high nothing)) p p' s = none_second (page l c (node h k d r)) tt s
  unique_root (page l c (node h k d r)) (page l' c' (high (below t'))) p p' s = absurd p'
  unique_root (page l c (node h k d r)) (page l' c' (node h' k' d' r')) p p' s = unique_tree (page l c (node h k d r)) (page l' c' (node h' k' d' r')) p p' tt tt s
