-- The open pages of a tree's right edge.
use Rattle.std.proofs.Common.{◌≡◌, ℕ, zero, suc, ◌<◌, ◌≤◌, List, [], ◌∷◌, ◌++◌, length, get_or, Some, None, refl, ap, sym, subst, ◌∙◌, arith, append-nil, append_assoc}
use Rattle.std.specs.declared.cmp.Ordering.{Ordering}
use Rattle.key_order.specs.Order.{below as below_key}
use Rattle.key_order.specs.Map.{last_key}
use Rattle.merkle_tree_theory.specs.Tree.{Tree, page, Row, high, node, Held, nothing, below, Node, row}
use Rattle.merkle_tree_theory.specs.TreeOf.{root_of}
use Rattle.merkle_tree_theory.specs.Page.{level, pairs, row_pairs, held_pairs}
use Rattle.merkle_tree_theory.specs.Cache.{CachesHold, RowCachesHold, HeldCachesHold}
use Rattle.merkle_tree_theory.specs.CachedRanges.{last_key_of}
use Rattle.merkle_tree_theory.specs.Canonical.{HasNode, IsCanonical, IsRow, IsGap, IsCanonicalRoot}
use Rattle.merkle_tree_theory.specs.Chain.{high_of, with_high, row_of_page, page_with_row}
use Rattle.merkle_tree_theory.specs.Edge.{row_more, IsBare, RowIsBare, HeldIsBare, last_level, edge_pairs, is_above, IsOpenPage, IsEdge, ClosesPages, Appends}
use Rattle.merkle_tree_theory.specs.declared.page_format.PageFormat.{PageFormat}
use Rattle.merkle_tree_theory.proofs.RangeEnds.{last-append}
use Rattle.merkle_tree_theory.proofs.Roots.{root-pairs, root-canonical}

-- rows
module _ {K D : Type 0} where
  pub row_more-row : (e : Node K D) (es : List (Node K D)) (h : Held K D) → row_more e (row es h) ≡ row (es ++ e ∷ []) h
  row_more-row e [] h = refl
  row_more-row e (x ∷ xs) h = ap (node x.lt x.key x.digest) (row_more-row e xs h)

  high-more : (e : Node K D) (r : Row K D) → high_of (row_more e r) ≡ high_of r
  high-more e (high h) = refl
  high-more e (node h k d r) = high-more e r

  high-pairs : (h : Held K D) (r : Row K D) → high_of r ≡ nothing → row_pairs (with_high h r) ≡ row_pairs r ++ held_pairs h
  high-pairs h (high g) e = ap (λ x. held_pairs x ++ held_pairs h) (sym e)
  high-pairs h (node g k d r) e = ap (λ z. held_pairs g ++ (k, d) ∷ z) (high-pairs h r e) ∙ sym (append_assoc (held_pairs g) ((k, d) ∷ row_pairs r) (held_pairs h))

  more-pairs : (e : Node K D) (r : Row K D) → high_of r ≡ nothing → row_pairs (row_more e r) ≡ row_pairs r ++ (held_pairs e.lt ++ (e.key, e.digest) ∷ [])
  more-pairs e (high g) p = subst (λ x. held_pairs e.lt ++ (e.key, e.digest) ∷ held_pairs x ≡ held_pairs x ++ (held_pairs e.lt ++ (e.key, e.digest) ∷ [])) (sym p) refl
  more-pairs e (node g k d r) p =
      ap (λ z. held_pairs g ++ (k, d) ∷ z) (more-pairs e r p) ∙ sym (append_assoc (held_pairs g) ((k, d) ∷ row_pairs r) (held_pairs e.lt ++ (e.key, e.digest) ∷ []))

  high-bare : (h : Held K D) (r : Row K D) → RowIsBare r → HeldIsBare h → RowIsBare (with_high h r)
  high-bare h (high g) a b = b
  high-bare h (node g k d r) a b = (a.0, high-bare h r a.1 b)

  more-bare : (e : Node K D) (r : Row K D) → RowIsBare r → HeldIsBare e.lt → RowIsBare (row_more e r)
  more-bare e (high g) a b = (b, a)
  more-bare e (node g k d r) a b = (a.0, more-bare e r a.1 b)

  module _ (lev : K → ℕ) where
    high-row : (l : ℕ) (h : Held K D) (r : Row K D) → IsRow lev l r → IsGap lev l h → IsRow lev l (with_high h r)
    high-row l h (high g) a b = b
    high-row l h (node g k d r) a b = (a.0, a.1, high-row l h r a.2 b)

    more-row : (l : ℕ) (e : Node K D) (r : Row K D) → IsRow lev l r → IsGap lev l e.lt → lev e.key ≡ l → IsRow lev l (row_more e r)
    more-row l e (high g) a b s = (b, s, a)
    more-row l e (node g k d r) a b s = (a.0, a.1, more-row l e r a.2 b s)

-- pages
module _ {K D : Type 0} where
  page-pairs : (h : Held K D) (t : Tree K D) → high_of (row_of_page t) ≡ nothing → pairs (page_with_row 0 t (with_high h (row_of_page t))) ≡ pairs t ++ held_pairs h
  page-pairs h (page l c r) e = high-pairs h r e

  node-pairs : (e : Node K D) (t : Tree K D) → high_of (row_of_page t) ≡ nothing → pairs (page_with_row 0 t (row_more e (row_of_page t))) ≡ pairs t ++ (held_pairs e.lt ++ (e.key, e.digest) ∷ [])
  node-pairs e (page l c r) p = more-pairs e r p

  pub level-node : (e : Node K D) (t : Tree K D) → level (page_with_row 0 t (row_more e (row_of_page t))) ≡ level t
  level-node e (page l c r) = refl

  page-bare : (h : Held K D) (t : Tree K D) → IsBare t → HeldIsBare h → IsBare (page_with_row 0 t (with_high h (row_of_page t)))
  page-bare h (page l None r) a b = high-bare h r a b
  page-bare h (page l (Some c) r) a b = absurd a

  node-bare : (e : Node K D) (t : Tree K D) → IsBare t → HeldIsBare e.lt → IsBare (page_with_row 0 t (row_more e (row_of_page t)))
  node-bare e (page l None r) a b = more-bare e r a b
  node-bare e (page l (Some c) r) a b = absurd a

  module _ (lev : K → ℕ) where
    page-gap : (b : ℕ) (h : Held K D) (t : Tree K D) → level t < b → HasNode t → IsCanonical lev t → IsGap lev (level t) h → IsGap lev b (below (page_with_row 0 t (with_high h (row_of_page t))))
    page-gap b h (page l c (high g)) s w p q = absurd w
    page-gap b h (page l c (node g k d r)) s w p q = (s, tt, high-row lev l h (node g k d r) p q)

    node-open : (e : Node K D) (t : Tree K D) → IsOpenPage lev t → IsGap lev (level t) e.lt → HeldIsBare e.lt → lev e.key ≡ level t → IsOpenPage lev (page_with_row 0 t (row_more e (row_of_page t)))
    node-open e (page l c (high g)) o p q s = absurd o.0
    node-open e (page l c (node g k d r)) o p q s =
        (tt, more-row lev l e (node g k d r) o.1 p s, node-bare e (page l c (node g k d r)) o.2 q, high-more e (node g k d r) ∙ o.3)

-- lists of open pages
module _ {K D : Type 0} where
  pub last-level : (b : ℕ) (ts : List (Tree K D)) (t : Tree K D) → last_level b (ts ++ t ∷ []) ≡ level t
  last-level b [] t = refl
  last-level b (x ∷ xs) t = last-level (level x) xs t

  edge-pairs : (ts : List (Tree K D)) (t : Tree K D) → edge_pairs (ts ++ t ∷ []) ≡ edge_pairs ts ++ pairs t
  edge-pairs [] t = append-nil (pairs t)
  edge-pairs (x ∷ xs) t = ap (λ z. pairs x ++ z) (edge-pairs xs t) ∙ sym (append_assoc (pairs x) (edge_pairs xs) (pairs t))

  module _ (lev : K → ℕ) where
    edge-more : (b : ℕ) (ts : List (Tree K D)) (t : Tree K D) → IsEdge lev b ts → level t < last_level b ts → IsOpenPage lev t → IsEdge lev b (ts ++ t ∷ [])
    edge-more b [] t a s o = (s, o, tt)
    edge-more b (x ∷ xs) t a s o = (a.0, a.1, edge-more (level x) xs t a.2 s o)

    edge-last : (b : ℕ) (ts : List (Tree K D)) (t : Tree K D) → IsEdge lev b (ts ++ t ∷ []) → IsEdge lev b ts × (level t < last_level b ts) × IsOpenPage lev t
    edge-last b [] t a = (tt, a.0, a.1)
    edge-last b (x ∷ xs) t a = let r = edge-last (level x) xs t a.2 in ((a.0, a.1, r.0), r.1, r.2)

    edge-low : (b : ℕ) (ts : List (Tree K D)) → IsEdge lev b ts → last_level b ts ≤ b
    edge-low b [] a = omega arith
    edge-low b (t ∷ ts) a = omega (arith, edge-low (level t) ts a.2, a.0)

    -- the last open page is closed
    pub closes-more : (n : ℕ) (ts us vs : List (Tree K D)) (t u : Tree K D) (h : Held K D) → us ≡ vs ++ t ∷ [] → level t < n
        → u ≡ page_with_row 0 t (with_high h (row_of_page t)) → ClosesPages lev n ts us h → ClosesPages lev n ts vs (below u)
    closes-more n ts us vs t u h e s q a =
        let c = subst (λ x. ClosesPages lev n ts x h) e a in
        let f = edge-last 256 vs t c.0 in
        let o = f.2 in
        let g : IsGap lev (level t) h = subst (λ b. IsGap lev b h) (last-level 256 vs t) c.1.0 in
        let bare = page-bare h t o.2 c.1.1 in
        subst (λ x. ClosesPages lev n ts vs (below x)) (sym q) (
          f.0,
          (page-gap lev (last_level 256 vs) h t f.1 o.0 o.1 g, bare),
          (page-gap lev n h t s o.0 o.1 g, bare),
          ap (λ z. edge_pairs vs ++ z) (page-pairs h t o.3) ∙ sym (append_assoc (edge_pairs vs) (pairs t) (held_pairs h)) ∙ ap (λ z. z ++ held_pairs h) (sym (edge-pairs vs t)) ∙ c.3,
        )

    -- a pair on the level of the last open page
    pub append-at : (n : ℕ) (k : K) (d : D) (ts us vs ws : List (Tree K D)) (t u : Tree K D) (h : Held K D) → us ≡ vs ++ t ∷ [] → last_level 256 us ≡ n
        → lev k ≡ n → u ≡ page_with_row 0 t (row_more (record { lt = h; key = k; digest = d }) (row_of_page t))
        → ws ≡ vs ++ u ∷ [] → ClosesPages lev n ts us h → Appends lev k d ts ws
    append-at n k d ts us vs ws t u h e m s q w a =
        let c = subst (λ x. ClosesPages lev n ts x h) e a in
        let f = edge-last 256 vs t c.0 in
        let x : Node K D = record { lt = h; key = k; digest = d } in
        let same : n ≡ level t = sym m ∙ ap (last_level 256) e ∙ last-level 256 vs t in
        let g : IsGap lev (level t) h = subst (λ b. IsGap lev b h) same c.2.0 in
        subst (λ zs. Appends lev k d ts zs) (sym (w ∙ ap (λ y. vs ++ y ∷ []) q)) (
          edge-more 256 vs (page_with_row 0 t (row_more x (row_of_page t))) f.0 (subst (λ j. j < last_level 256 vs) (sym (level-node x t)) f.1) (node-open lev x t f.2 g c.2.1 (s ∙ same)),
          edge-pairs vs (page_with_row 0 t (row_more x (row_of_page t)))
              ∙ ap (λ z. edge_pairs vs ++ z) (node-pairs x t f.2.3)
              ∙ sym (append_assoc (edge_pairs vs) (pairs t) (held_pairs h ++ (k, d) ∷ []))
              ∙ ap (λ z. z ++ (held_pairs h ++ (k, d) ∷ [])) (sym (edge-pairs vs t))
              ∙ sym (append_assoc (edge_pairs (vs ++ t ∷ [])) (held_pairs h) ((k, d) ∷ []))
              ∙ ap (λ z. z ++ (k, d) ∷ []) c.3,
        )

    -- a pair on a lower level
    pub append-new : (n : ℕ) (k : K) (d : D) (ts us ws : List (Tree K D)) (u : Tree K D) (h : Held K D) → n < last_level 256 us → lev k ≡ n → u ≡ page n None (node h k d (high nothing))
        → ws ≡ us ++ u ∷ [] → ClosesPages lev n ts us h → Appends lev k d ts ws
    append-new n k d ts us ws u h m s q w a =
        subst (λ zs. Appends lev k d ts zs) (sym (w ∙ ap (λ y. us ++ y ∷ []) q)) (
          edge-more 256 us (page n None (node h k d (high nothing))) a.0 m (tt, (a.2.0, s, tt), (a.2.1, tt), refl),
          edge-pairs us (page n None (node h k d (high nothing))) ∙ sym (append_assoc (edge_pairs us) (held_pairs h) ((k, d) ∷ [])) ∙ ap (λ z. z ++ (k, d) ∷ []) a.3,
        )

    root-bare : (h : Held K D) → HeldIsBare h → IsBare (root_of h)
    root-bare nothing a = tt
    root-bare (below t) a = a

    -- all pages are closed
    pub closes-all : (ts us : List (Tree K D)) (h : Held K D) → 256 ≤ last_level 256 us → ClosesPages lev 256 ts us h → IsCanonicalRoot lev (root_of h)
        × IsBare (root_of h) × (pairs (root_of h) ≡ edge_pairs ts)
    closes-all ts [] h s a = (root-canonical lev 256 h a.2.0, root-bare h a.2.1, root-pairs h ∙ a.3)
    closes-all ts (u ∷ us) h s a = absurd (omega (arith, s, edge-low (level u) us a.0.2, a.0.0))

-- pages without digests hold no wrong one
module _ {K : Type 0} (f : PageFormat) (b : K → List ℕ) where
  mutual
    pub bare-hold : (t : Tree K (List ℕ)) → IsBare t → CachesHold f b t
    bare-hold (page l None r) a = row-bare-hold r a
    bare-hold (page l (Some c) r) a = absurd a

    row-bare-hold : (r : Row K (List ℕ)) → RowIsBare r → RowCachesHold f b r
    row-bare-hold (high h) a = held-bare-hold h a
    row-bare-hold (node h k d r) a = (held-bare-hold h a.0, row-bare-hold r a.1)

    held-bare-hold : (h : Held K (List ℕ)) → HeldIsBare h → HeldCachesHold f b h
    held-bare-hold nothing a = tt
    held-bare-hold (below t) a = bare-hold t a

pub last-is : {K D : Type 0} (b : ℕ) (ts : List (Tree K D)) (i : ℕ) (x : Tree K D) → suc i ≡ length ts → last_level b ts ≡ level (get_or ts i x)
last-is b [] i x e = absurd (omega (arith, e))
last-is b (t ∷ []) zero x e = refl
last-is b (t ∷ []) (suc i) x e = absurd (omega (arith, e))
last-is b (t ∷ u ∷ us) zero x e = absurd (omega (arith, e))
last-is b (t ∷ u ∷ us) (suc i) x e = last-is (level t) (u ∷ us) i x (omega (arith, e))

-- the last key
module _ {K D : Type 0} where
  abbrev HasLast : List (K × D) → Type 0
  HasLast ps = (q : K × D) × ((qs : List (K × D)) × (ps ≡ q ∷ qs))

  has-last : (t : Tree K D) → HasNode t → HasLast (pairs t)
  has-last (page l c (high h)) a = absurd a
  has-last (page l c (node h k d r)) a = behind (held_pairs h)
    where
      behind : (ps : List (K × D)) → HasLast (ps ++ (k, d) ∷ row_pairs r)
      behind [] = ((k, d), (row_pairs r, refl))
      behind (p ∷ ps) = (p, (ps ++ (k, d) ∷ row_pairs r, refl))

  above-last : (cmp : K → K → Ordering) (k : K) (ps : List (K × D)) (q : K × D) (qs : List (K × D)) → is_above cmp k (ps ++ q ∷ qs) ≡ below_key cmp (last_key q.0 qs) k
  above-last cmp k [] q qs = refl
  above-last cmp k (p ∷ ps) q qs = ap (λ j. below_key cmp j k) (last-append p.0 ps q qs)

  last-here : (lev : K → ℕ) (b : ℕ) (ts : List (Tree K D)) (i : ℕ) (x : Tree K D) → suc i ≡ length ts → IsEdge lev b ts → HasNode (get_or ts i x)
      × ((ps : List (K × D)) × (edge_pairs ts ≡ ps ++ pairs (get_or ts i x)))
  last-here lev b [] i x e a = absurd (omega (arith, e))
  last-here lev b (t ∷ []) zero x e a = (a.1.0, ([], append-nil (pairs t)))
  last-here lev b (t ∷ []) (suc i) x e a = absurd (omega (arith, e))
  last-here lev b (t ∷ u ∷ us) zero x e a = absurd (omega (arith, e))
  last-here lev b (t ∷ u ∷ us) (suc i) x e a =
      let n = last-here lev (level t) (u ∷ us) i x (omega (arith, e)) a.2 in
      (n.0, (pairs t ++ n.1.0, ap (λ z. pairs t ++ z) n.1.1 ∙ sym (append_assoc (pairs t) n.1.0 (pairs (get_or (u ∷ us) i x)))))

  -- a key is above all pages where it is above the last key of the last one
  pub above-edge : (lev : K → ℕ) (cmp : K → K → Ordering) (ts : List (Tree K D)) (i : ℕ) (x : Tree K D) (k j : K) → suc i ≡ length ts → IsEdge lev 256 ts → Some j ≡ last_key_of (pairs (get_or ts i x))
      → below_key cmp j k ≡ is_above cmp k (edge_pairs ts)
  above-edge lev cmp ts i x k j e a s =
      let n = last-here lev 256 ts i x e a in
      let q = has-last (get_or ts i x) n.0 in
      let same : Some j ≡ Some (last_key q.0.0 q.1.0) = s ∙ ap last_key_of q.1.1 in
      let last : j ≡ last_key q.0.0 q.1.0 = cc in
      ap (λ m. below_key cmp m k) last ∙ sym (ap (is_above cmp k) (n.1.1 ∙ ap (λ z. n.1.0 ++ z) q.1.1) ∙ above-last cmp k n.1.0 q.0 q.1.0)

  pub no-last : (lev : K → ℕ) (ts : List (Tree K D)) (i : ℕ) (x : Tree K D) → suc i ≡ length ts → IsEdge lev 256 ts → None ≡ last_key_of (pairs (get_or ts i x)) → ⊥
  no-last lev ts i x e a s =
      let n = last-here lev 256 ts i x e a in
      let q = has-last (get_or ts i x) n.0 in
      let same : None ≡ Some (last_key q.0.0 q.1.0) = s ∙ ap last_key_of q.1.1 in
      absurd (cc)
