-- What an upsert keeps: the form, the caches, and how few digests are dropped.
use Rattle.std.proofs.Common.{◌≡◌, ℕ, suc, ◌+◌, ◌<◌, ◌≤◌, List, Bool, true, false, if◌then◌else◌, Option, Some, None, refl, ap, sym, subst, arith}
use Rattle.std.specs.declared.cmp.Ordering.{Ordering}
use Rattle.std.specs.declared.cmp.Ordering.TheVariants.{Less, Equal, Greater}
use Rattle.std.specs.Ordering.{is_gt, match_ordering, nat_cmp, MatchOrdering}
use Rattle.std.specs.Cmp.{ranks}
use Rattle.merkle_tree_theory.specs.Tree.{Tree, page, Row, high, node, Held, nothing, below}
use Rattle.merkle_tree_theory.specs.Page.{level, cache}
use Rattle.merkle_tree_theory.specs.Cache.{uncached_pages, row_uncached_pages, held_uncached_pages, CachesHold, RowCachesHold, HeldCachesHold, EachHasCache, HasCache}
use Rattle.merkle_tree_theory.specs.Canonical.{HasNode, IsCanonical, IsRow, IsGap, IsCanonicalRoot}
use Rattle.merkle_tree_theory.specs.Upsert.{as_held, row_digest_beside, digest_beside, lower, upper, held_lower, held_upper, tree_lower, tree_upper, row_put, row_sink, held_set, tree_set, lifted}
use Rattle.merkle_tree_theory.specs.declared.page_format.PageFormat.{PageFormat}

-- a row without a node and a page above it gives nothing
as_held-nothing : {K D : Type 0} (l : ℕ) (c : Option (List ℕ)) (r : Row K D) → as_held l c r ≡ nothing → r ≡ high nothing
as_held-nothing l c (high h) e = ap high e
as_held-nothing l c (node h k d r) e = absurd (cc)

module _ {K D : Type 0} (lev : K → ℕ) where
  pub gap-more : (l m : ℕ) (h : Held K D) → l < m → IsGap lev l h → IsGap lev m h
  gap-more l m nothing s g = tt
  gap-more l m (below t) s g = (omega (arith, g.0), g.1, g.2)

  pub as_held-gap : (l m : ℕ) (c : Option (List ℕ)) (r : Row K D) → l < m → IsRow lev l r → IsGap lev m (as_held l c r)
  as_held-gap l m c (high h) s g = gap-more l m h s g
  as_held-gap l m c (node h k d r) s g = (s, tt, g)

  pub root_from : (t : Tree K D) → HasNode t → IsCanonical lev t → IsCanonicalRoot lev t
  root_from (page l c (high h)) w p = absurd w
  root_from (page l c (node h x e r)) w p = p

-- the form
module _ {K D : Type 0} (cmp : K → K → Ordering) (lev : K → ℕ) (at : K) where
  mutual
    pub split-row : (l : ℕ) (r : Row K D) → IsRow lev l r → IsRow lev l (lower cmp at r) × IsRow lev l (upper cmp at r)
    split-row l (high h) p = split-gap l h p
    split-row l (node h k d r) p = by (is_gt (cmp at k)) (split-row l r p.2) (split-gap l h p.0)
      where
        by : (b : Bool) → IsRow lev l (lower cmp at r) × IsRow lev l (upper cmp at r) → IsGap lev l (held_lower cmp at h) × IsGap lev l (held_upper cmp at h)
            → IsRow lev l (if b then (node h k d (lower cmp at r)) else (high (held_lower cmp at h))) × IsRow lev l (if b then (upper cmp at r) else (node (held_upper cmp at h) k d r))
        by true s u = ((p.0, p.1, s.0), s.1)
        by false s u = (u.0, (u.1, p.1, p.2))

    pub split-gap : (l : ℕ) (h : Held K D) → IsGap lev l h → IsGap lev l (held_lower cmp at h) × IsGap lev l (held_upper cmp at h)
    split-gap l nothing p = (tt, tt)
    split-gap l (below (page m c (high h))) p = absurd p.1
    split-gap l (below (page m c (node h k d r))) p =
        let s = split-row m (node h k d r) p.2 in (
          as_held-gap lev m l (row_digest_beside (upper cmp at (node h k d r)) c) (lower cmp at (node h k d r)) p.0 s.0,
          as_held-gap lev m l (row_digest_beside (lower cmp at (node h k d r)) c) (upper cmp at (node h k d r)) p.0 s.1,
        )

module _ {K D : Type 0} (cmp : K → K → Ordering) (lev : K → ℕ) (n : ℕ) (k : K) (d : D) (at : lev k ≡ n) where
  pub put-row : (r : Row K D) → IsRow lev n r → IsRow lev n (row_put cmp k d r)
  put-row (high h) p = let s = split-gap cmp lev k n h p in (s.0, at, s.1)
  put-row (node h x e r) p = by (cmp k x) (put-row r p.2)
    where
      by : (q : Ordering) → IsRow lev n (row_put cmp k d r)
          → IsRow lev n (match_ordering q (node (held_lower cmp k h) k d (node (held_upper cmp k h) x e r)) (node h x d r) (node h x e (row_put cmp k d r)))
      by Less f = let s = split-gap cmp lev k n h p.0 in (s.0, at, (s.1, p.1, p.2))
      by Equal f = (p.0, p.1, p.2)
      by Greater f = (p.0, p.1, f)

  mutual
    -- the page that a page becomes is in the same gap, where the key's level is
    pub set-gap : (m : ℕ) (h : Held K D) → n < m → IsGap lev m h → IsGap lev m (held_set cmp n k d h)
    set-gap m nothing s p = (s, tt, (tt, at, tt))
    set-gap m (below t) s p = set-tree m t s p.0 p.1 p.2

    pub set-tree : (m : ℕ) (t : Tree K D) → n < m → level t < m → HasNode t → IsCanonical lev t → IsGap lev m (below (tree_set cmp n k d t))
    set-tree m (page l c (high h)) s u w p = absurd w
    set-tree m (page l c (node h x e r)) s u w p =
        by (nat_cmp n l) (ranks n l) (λ q. (sink-node l (cmp k x), sink-rest l (node h x e r) q p)) (λ q. put-row (node h x e r) (subst (λ j. IsRow lev j (node h x e r)) (sym q) p))
      where
        sink-node : (l : ℕ) (q : Ordering) → HasNode (page l None (match_ordering q (node (held_set cmp n k d h) x e r) (node h x d r) (node h x e (row_sink cmp n k d r))))
        sink-node l Less = tt
        sink-node l Equal = tt
        sink-node l Greater = tt

        put-node : (q : Ordering) → HasNode (page l None (match_ordering q (node (held_lower cmp k h) k d (node (held_upper cmp k h) x e r)) (node h x d r) (node h x e (row_put cmp k d r))))
        put-node Less = tt
        put-node Equal = tt
        put-node Greater = tt

        by : (q : Ordering) → MatchOrdering q (n < l) (n ≡ l) (l < n)
            → (n < l → HasNode (page l None (row_sink cmp n k d (node h x e r))) × IsRow lev l (row_sink cmp n k d (node h x e r)))
            → (n ≡ l → IsRow lev n (row_put cmp k d (node h x e r)))
            → IsGap lev m (below (match_ordering q (page l None (row_sink cmp n k d (node h x e r))) (page l None (row_put cmp k d (node h x e r))) (lifted cmp n k d (page l c (node h x e r)))))
        by Less q f g = (u, (f q).0, (f q).1)
        by Equal q f g = (u, put-node (cmp k x), subst (λ j. IsRow lev j (row_put cmp k d (node h x e r))) q (g q))
        by Greater q f g =
            let t = split-row cmp lev k l (node h x e r) p in (
              s,
              tt,
              (
                as_held-gap lev l n (row_digest_beside (upper cmp k (node h x e r)) c) (lower cmp k (node h x e r)) q t.0,
                at,
                as_held-gap lev l n (row_digest_beside (lower cmp k (node h x e r)) c) (upper cmp k (node h x e r)) q t.1,
              ),
            )

    sink-rest : (l : ℕ) (r : Row K D) → n < l → IsRow lev l r → IsRow lev l (row_sink cmp n k d r)
    sink-rest l (high h) s p = set-gap l h s p
    sink-rest l (node h x e r) s p = by (cmp k x) (sink-rest l r s p.2) (set-gap l h s p.0)
      where
        by : (q : Ordering) → IsRow lev l (row_sink cmp n k d r) → IsGap lev l (held_set cmp n k d h)
            → IsRow lev l (match_ordering q (node (held_set cmp n k d h) x e r) (node h x d r) (node h x e (row_sink cmp n k d r)))
        by Less f g = (g, p.1, p.2)
        by Equal f g = (p.0, p.1, p.2)
        by Greater f g = (p.0, p.1, f)

  pub set-root : (t : Tree K D) → IsCanonicalRoot lev t → IsCanonicalRoot lev (tree_set cmp n k d t)
  set-root (page m c (high nothing)) p = (tt, at, tt)
  set-root (page m c (high (below t))) p = absurd p
  set-root (page m c (node h x e r)) p =
      let g = set-tree (suc (m + n)) (page m c (node h x e r)) (omega arith) (omega arith) tt p in root_from lev (tree_set cmp n k d (page m c (node h x e r))) g.1 g.2

-- what is wholly on one side stays as it is, with its digests
module _ {K D : Type 0} (cmp : K → K → Ordering) (at : K) where
  row_of_high : (g h : Held K D) → high g ≡ high h → g ≡ h
  row_of_high g h e = ap in_high e
    where
      in_high : Row K D → Held K D
      in_high (high h) = h
      in_high (node h k d r) = h

  mutual
    whole_lower : (r : Row K D) → upper cmp at r ≡ high nothing → lower cmp at r ≡ r
    whole_lower (high h) e = ap high (held_whole_lower h (row_of_high (held_upper cmp at h) nothing e))
    whole_lower (node h k d r) e = by (is_gt (cmp at k)) e (whole_lower r)
      where
        by : (c : Bool) → (if c then (upper cmp at r) else (node (held_upper cmp at h) k d r)) ≡ high nothing → (upper cmp at r ≡ high nothing → lower cmp at r ≡ r)
            → (if c then (node h k d (lower cmp at r)) else (high (held_lower cmp at h))) ≡ node h k d r
        by true e f = ap (node h k d) (f e)
        by false e f = absurd (cc)

    held_whole_lower : (h : Held K D) → held_upper cmp at h ≡ nothing → held_lower cmp at h ≡ h
    held_whole_lower nothing e = refl
    held_whole_lower (below (page l c (high h))) e =
        (λ j. below (page l (digest_beside (e j) c) (high (held_whole_lower h e j))))
    held_whole_lower (below (page l c (node h k d r))) e =
        let u = as_held-nothing l (row_digest_beside (lower cmp at (node h k d r)) c) (upper cmp at (node h k d r)) e in
        (λ j. as_held l (row_digest_beside (u j) c) (whole_lower (node h k d r) u j))

    whole_upper : (r : Row K D) → lower cmp at r ≡ high nothing → upper cmp at r ≡ r
    whole_upper (high h) e = ap high (held_whole_upper h (row_of_high (held_lower cmp at h) nothing e))
    whole_upper (node h k d r) e = by (is_gt (cmp at k)) e (held_whole_upper h)
      where
        by : (c : Bool) → (if c then (node h k d (lower cmp at r)) else (high (held_lower cmp at h))) ≡ high nothing → (held_lower cmp at h ≡ nothing → held_upper cmp at h ≡ h)
            → (if c then (upper cmp at r) else (node (held_upper cmp at h) k d r)) ≡ node h k d r
        by true e f = absurd (cc)
        by false e f = ap (λ g. node g k d r) (f (row_of_high (held_lower cmp at h) nothing e))

    held_whole_upper : (h : Held K D) → held_lower cmp at h ≡ nothing → held_upper cmp at h ≡ h
    held_whole_upper nothing e = refl
    held_whole_upper (below (page l c (high h))) e = absurd (cc)
    held_whole_upper (below (page l c (node h k d r))) e =
        let u = as_held-nothing l (row_digest_beside (upper cmp at (node h k d r)) c) (lower cmp at (node h k d r)) e in
        (λ j. as_held l (row_digest_beside (u j) c) (whole_upper (node h k d r) u j))

-- the caches
module _ {K : Type 0} (format : PageFormat) (b : K → List ℕ) where
  pub rows_hold : (l : ℕ) (c : Option (List ℕ)) (r : Row K (List ℕ)) → CachesHold format b (page l c r) → RowCachesHold format b r
  rows_hold l None r p = p
  rows_hold l (Some d) r p = p.2

  -- a part s of the row r of a page with a true digest, where o is the other part
  kept-hold : (l : ℕ) (c : Option (List ℕ)) (o r s : Row K (List ℕ)) → CachesHold format b (page l c r) → RowCachesHold format b s → (o ≡ high nothing → s ≡ r)
      → CachesHold format b (page l (row_digest_beside o c) s)
  kept-hold l c (high nothing) r s p q w = subst (λ t. CachesHold format b (page l c t)) (sym (w refl)) p
  kept-hold l c (high (below t)) r s p q w = q
  kept-hold l c (node h k d o) r s p q w = q

  as_held-hold : (l : ℕ) (c : Option (List ℕ)) (o r s : Row K (List ℕ)) → CachesHold format b (page l c r) → RowCachesHold format b s
      → (o ≡ high nothing → s ≡ r) → HeldCachesHold format b (as_held l (row_digest_beside o c) s)
  as_held-hold l c o r (high h) p q w = q
  as_held-hold l c o r (node h k d s) p q w = kept-hold l c o r (node h k d s) p q w

  module _ (cmp : K → K → Ordering) (at : K) where
    mutual
      pub split-hold : (r : Row K (List ℕ)) → RowCachesHold format b r → RowCachesHold format b (lower cmp at r) × RowCachesHold format b (upper cmp at r)
      split-hold (high h) p = held_split-hold h p
      split-hold (node h k d r) p = by (is_gt (cmp at k)) (split-hold r p.1) (held_split-hold h p.0)
        where
          by : (c : Bool) → RowCachesHold format b (lower cmp at r) × RowCachesHold format b (upper cmp at r) → HeldCachesHold format b (held_lower cmp at h)
              × HeldCachesHold format b (held_upper cmp at h)
              → RowCachesHold format b (if c then (node h k d (lower cmp at r)) else (high (held_lower cmp at h)))
              × RowCachesHold format b (if c then (upper cmp at r) else (node (held_upper cmp at h) k d r))
          by true s u = ((p.0, s.0), s.1)
          by false s u = (u.0, (u.1, p.1))

      pub held_split-hold : (h : Held K (List ℕ)) → HeldCachesHold format b h → HeldCachesHold format b (held_lower cmp at h) × HeldCachesHold format b (held_upper cmp at h)
      held_split-hold nothing p = (tt, tt)
      held_split-hold (below t) p = tree_split-hold t p

      pub tree_split-hold : (t : Tree K (List ℕ)) → CachesHold format b t → HeldCachesHold format b (tree_lower cmp at t) × HeldCachesHold format b (tree_upper cmp at t)
      tree_split-hold (page l c (high h)) p =
          let s = held_split-hold h (rows_hold l c (high h) p) in (kept-hold l c (high (held_upper cmp at h)) (high h) (high (held_lower cmp at h)) p s.0 (whole_lower cmp at (high h)), s.1)
      tree_split-hold (page l c (node h k d r)) p =
          let s = split-hold (node h k d r) (rows_hold l c (node h k d r) p) in (
            as_held-hold l c (upper cmp at (node h k d r)) (node h k d r) (lower cmp at (node h k d r)) p s.0 (whole_lower cmp at (node h k d r)),
            as_held-hold l c (lower cmp at (node h k d r)) (node h k d r) (upper cmp at (node h k d r)) p s.1 (whole_upper cmp at (node h k d r)),
          )

  module _ (cmp : K → K → Ordering) (n : ℕ) (k : K) (d : List ℕ) where
    put-hold : (r : Row K (List ℕ)) → RowCachesHold format b r → RowCachesHold format b (row_put cmp k d r)
    put-hold (high h) p = held_split-hold cmp k h p
    put-hold (node h x e r) p = by (cmp k x) (put-hold r p.1)
      where
        by : (q : Ordering) → RowCachesHold format b (row_put cmp k d r)
            → RowCachesHold format b (match_ordering q (node (held_lower cmp k h) k d (node (held_upper cmp k h) x e r)) (node h x d r) (node h x e (row_put cmp k d r)))
        by Less f = let s = held_split-hold cmp k h p.0 in (s.0, (s.1, p.1))
        by Equal f = (p.0, p.1)
        by Greater f = (p.0, f)

    mutual
      pub set-hold : (t : Tree K (List ℕ)) → CachesHold format b t → CachesHold format b (tree_set cmp n k d t)
      set-hold (page m c (high h)) p = put-hold (high h) (rows_hold m c (high h) p)
      set-hold (page m c (node h x e r)) p = by (nat_cmp n m) (sink-hold (node h x e r) rows) (put-hold (node h x e r) rows) (tree_split-hold cmp k (page m c (node h x e r)) p)
        where
          rows : RowCachesHold format b (node h x e r)
          rows = rows_hold m c (node h x e r) p

          by : (q : Ordering) → RowCachesHold format b (row_sink cmp n k d (node h x e r)) → RowCachesHold format b (row_put cmp k d (node h x e r))
              → HeldCachesHold format b (tree_lower cmp k (page m c (node h x e r))) × HeldCachesHold format b (tree_upper cmp k (page m c (node h x e r)))
              → CachesHold format b (match_ordering q (page m None (row_sink cmp n k d (node h x e r))) (page m None (row_put cmp k d (node h x e r))) (lifted cmp n k d (page m c (node h x e r))))
          by Less f g i = f
          by Equal f g i = g
          by Greater f g i = i

      sink-hold : (r : Row K (List ℕ)) → RowCachesHold format b r → RowCachesHold format b (row_sink cmp n k d r)
      sink-hold (high h) p = gap-hold h p
      sink-hold (node h x e r) p = by (cmp k x) (sink-hold r p.1) (gap-hold h p.0)
        where
          by : (q : Ordering) → RowCachesHold format b (row_sink cmp n k d r) → HeldCachesHold format b (held_set cmp n k d h)
              → RowCachesHold format b (match_ordering q (node (held_set cmp n k d h) x e r) (node h x d r) (node h x e (row_sink cmp n k d r)))
          by Less f g = (g, p.1)
          by Equal f g = (p.0, p.1)
          by Greater f g = (p.0, f)

      gap-hold : (h : Held K (List ℕ)) → HeldCachesHold format b h → HeldCachesHold format b (held_set cmp n k d h)
      gap-hold nothing p = (tt, tt)
      gap-hold (below t) p = set-hold t p

  -- below a page with a cached digest no digest is uncached_pages
  mutual
    pub none_missing : (t : Tree K (List ℕ)) (c : List ℕ) → cache t ≡ Some c → CachesHold format b t → uncached_pages t ≡ 0
    none_missing (page l None r) c e p = absurd (cc)
    none_missing (page l (Some d) r) c e p = omega (arith, row_none_missing r p.1 p.2)

    row_none_missing : (r : Row K (List ℕ)) → EachHasCache r → RowCachesHold format b r → row_uncached_pages r ≡ 0
    row_none_missing (high h) e p = held_none_missing h e p
    row_none_missing (node h k d r) e p = omega (arith, held_none_missing h e.0 p.0, row_none_missing r e.1 p.1)

    held_none_missing : (h : Held K (List ℕ)) → HasCache h → HeldCachesHold format b h → held_uncached_pages h ≡ 0
    held_none_missing nothing e p = refl
    held_none_missing (below (page l None r)) e p = absurd e
    held_none_missing (below (page l (Some d) r)) e p = omega (arith, row_none_missing r p.1 p.2)

-- a row lacks few digests more as what stands in a gap
module _ {K D : Type 0} where
  pub as_held-few : (l m a : ℕ) (c : Option (List ℕ)) (r : Row K D) → l < m → row_uncached_pages r ≤ a + l → held_uncached_pages (as_held l c r) ≤ a + m
  as_held-few l m a c (high h) s p = omega arith
  as_held-few l m a None (node h k d r) s p = omega arith
  as_held-few l m a (Some c) (node h k d r) s p = omega arith

-- how many digests are dropped
module _ {K D : Type 0} where
  as_held-one : (l : ℕ) (c : Option (List ℕ)) (r : Row K D) → held_uncached_pages (as_held l c r) ≤ row_uncached_pages r + 1
  as_held-one l c (high h) = omega arith
  as_held-one l None (node h k d r) = omega arith
  as_held-one l (Some c) (node h k d r) = omega arith

module _ {K D : Type 0} (cmp : K → K → Ordering) (lev : K → ℕ) (at : K) where
  mutual
    split-few : (l : ℕ) (r : Row K D) → IsRow lev l r → row_uncached_pages (lower cmp at r) + row_uncached_pages (upper cmp at r) ≤ row_uncached_pages r + (l + l)
    split-few l (high h) p = held_split-few l h p
    split-few l (node h k d r) p = by (is_gt (cmp at k)) (split-few l r p.2) (held_split-few l h p.0)
      where
        by : (b : Bool) → row_uncached_pages (lower cmp at r) + row_uncached_pages (upper cmp at r) ≤ row_uncached_pages r + (l + l)
            → held_uncached_pages (held_lower cmp at h) + held_uncached_pages (held_upper cmp at h) ≤ held_uncached_pages h + (l + l)
            → row_uncached_pages (if b then (node h k d (lower cmp at r)) else (high (held_lower cmp at h))) + row_uncached_pages
            (if b then (upper cmp at r) else (node (held_upper cmp at h) k d r)) ≤ held_uncached_pages h + row_uncached_pages r + (l + l)
        by true s u = omega arith
        by false s u = omega arith

    held_split-few : (l : ℕ) (h : Held K D) → IsGap lev l h → held_uncached_pages (held_lower cmp at h) + held_uncached_pages (held_upper cmp at h) ≤ held_uncached_pages h + (l + l)
    held_split-few l nothing p = omega arith
    held_split-few l (below (page m c (high h))) p = absurd p.1
    held_split-few l (below (page m c (node h k d r))) p =
        omega (
          arith,
          p.0,
          split-few m (node h k d r) p.2,
          as_held-one m (row_digest_beside (upper cmp at (node h k d r)) c) (lower cmp at (node h k d r)),
          as_held-one m (row_digest_beside (lower cmp at (node h k d r)) c) (upper cmp at (node h k d r)),
        )

module _ {K D : Type 0} (cmp : K → K → Ordering) (lev : K → ℕ) (n : ℕ) (k : K) (d : D) where
  put-few : (r : Row K D) → IsRow lev n r → row_uncached_pages (row_put cmp k d r) ≤ row_uncached_pages r + (n + n)
  put-few (high h) p = held_split-few cmp lev k n h p
  put-few (node h x e r) p = by (cmp k x) (put-few r p.2) (held_split-few cmp lev k n h p.0)
    where
      by : (q : Ordering) → row_uncached_pages (row_put cmp k d r) ≤ row_uncached_pages r + (n + n)
          → held_uncached_pages (held_lower cmp k h) + held_uncached_pages (held_upper cmp k h) ≤ held_uncached_pages h + (n + n)
          → row_uncached_pages (match_ordering q (node (held_lower cmp k h) k d (node (held_upper cmp k h) x e r)) (node h x d r)
          (node h x e (row_put cmp k d r))) ≤ held_uncached_pages h + row_uncached_pages r + (n + n)
      by Less f s = omega arith
      by Equal f s = omega arith
      by Greater f s = omega arith

  -- a page with a node that gets the key lacks few digests more, whatever level the page with the key is on
  tree-few : (m : ℕ) (c : Option (List ℕ)) (h : Held K D) (x : K) (e : D) (r : Row K D) → IsRow lev m (node h x e r)
      → (n < m → row_uncached_pages (row_sink cmp n k d (node h x e r)) ≤ row_uncached_pages (node h x e r) + (m + n))
      → uncached_pages (tree_set cmp n k d (page m c (node h x e r))) ≤ row_uncached_pages (node h x e r) + (level (tree_set cmp n k d (page m c (node h x e r))) + n + 1)
  tree-few m c h x e r p f =
      by (nat_cmp n m) (ranks n m) f (λ q. put-few (node h x e r) (subst (λ j. IsRow lev j (node h x e r)) (sym q) p)) (split-few cmp lev k m (node h x e r) p)
    where
      by : (q : Ordering) → MatchOrdering q (n < m) (n ≡ m) (m < n)
          → (n < m → row_uncached_pages (row_sink cmp n k d (node h x e r)) ≤ row_uncached_pages (node h x e r) + (m + n))
          → (n ≡ m → row_uncached_pages (row_put cmp k d (node h x e r)) ≤ row_uncached_pages (node h x e r) + (n + n))
          → row_uncached_pages (lower cmp k (node h x e r)) + row_uncached_pages (upper cmp k (node h x e r)) ≤ row_uncached_pages (node h x e r) + (m + m)
          → uncached_pages (match_ordering q (page m None (row_sink cmp n k d (node h x e r))) (page m None (row_put cmp k d (node h x e r))) (lifted cmp n k d (page m c (node h x e r))))
          ≤ row_uncached_pages (node h x e r) +
          (level (match_ordering q (page m None (row_sink cmp n k d (node h x e r))) (page m None (row_put cmp k d (node h x e r)))
          (lifted cmp n k d (page m c (node h x e r)))) + n + 1)
      by Less q f g s = omega (arith, f q)
      by Equal q f g s = omega (arith, g q)
      by Greater q f g s = omega (
        arith,
        as_held-one m (row_digest_beside (upper cmp k (node h x e r)) c) (lower cmp k (node h x e r)),
        as_held-one m (row_digest_beside (lower cmp k (node h x e r)) c) (upper cmp k (node h x e r)),
      )

  -- the level of that page
  tree-level : (l m : ℕ) (c : Option (List ℕ)) (h : Held K D) (x : K) (e : D) (r : Row K D) → n < m → l < m → level (tree_set cmp n k d (page l c (node h x e r))) < m
  tree-level l m c h x e r s t = by (nat_cmp n l)
    where
      by : (q : Ordering) → level (match_ordering q (page l None (row_sink cmp n k d (node h x e r))) (page l None (row_put cmp k d (node h x e r))) (lifted cmp n k d (page l c (node h x e r)))) < m
      by Less = t
      by Equal = t
      by Greater = s

  mutual
    sink-few : (m : ℕ) (r : Row K D) → n < m → IsRow lev m r → row_uncached_pages (row_sink cmp n k d r) ≤ row_uncached_pages r + (m + n)
    sink-few m (high h) s p = gap-few m h s p
    sink-few m (node h x e r) s p = by (cmp k x) (sink-few m r s p.2) (gap-few m h s p.0)
      where
        by : (q : Ordering) → row_uncached_pages (row_sink cmp n k d r) ≤ row_uncached_pages r + (m + n) → held_uncached_pages (held_set cmp n k d h) ≤ held_uncached_pages h + (m + n)
            → row_uncached_pages (match_ordering q (node (held_set cmp n k d h) x e r) (node h x d r) (node h x e (row_sink cmp n k d r))) ≤ held_uncached_pages h + row_uncached_pages r + (m + n)
        by Less f g = omega arith
        by Equal f g = omega arith
        by Greater f g = omega arith

    gap-few : (m : ℕ) (h : Held K D) → n < m → IsGap lev m h → held_uncached_pages (held_set cmp n k d h) ≤ held_uncached_pages h + (m + n)
    gap-few m nothing s p = omega arith
    gap-few m (below (page l c (high h))) s p = absurd p.1
    gap-few m (below (page l c (node h x e r))) s p =
        omega (arith, tree-few l c h x e r p.2 (λ t. sink-few l (node h x e r) t p.2), tree-level l m c h x e r s p.0)

  -- the pages that lack a digest after an upsert that didn't before
  pub set-few_root : (t : Tree K D) → IsCanonicalRoot lev t → uncached_pages (tree_set cmp n k d t) ≤ uncached_pages t + (level (tree_set cmp n k d t) + n + 1)
  set-few_root (page m c (high nothing)) p = omega arith
  set-few_root (page m c (high (below t))) p = absurd p
  set-few_root (page m c (node h x e r)) p = omega (arith, tree-few m c h x e r p (λ t. sink-few m (node h x e r) t p))
