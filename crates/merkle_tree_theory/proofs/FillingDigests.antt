-- Filling in the digests.
use Rattle.std.proofs.Common.{◌≡◌, ℕ, zero, suc, ◌<◌, List, [], ◌∷◌, ◌++◌, length, map, take, drop, get_or, Option, Some, None, refl, ap, sym, subst, ◌∙◌, ◌+◌, sum_by, arith, append_assoc}
use Rattle.std.specs.List.{flat_map}
use Rattle.std.proofs.lemmas.List.Concat.{flat_map-cons}
use Rattle.std.proofs.lemmas.List.Sums.{sum_by-cons}
use Rattle.merkle_digest.specs.SipHash.{siphash128, zero_key}
use Rattle.merkle_tree_theory.specs.Tree.{Tree, page, Row, high, node, Held, nothing, below, Node, row}
use Rattle.merkle_tree_theory.specs.Page.{pairs, row_pairs, held_pairs, row_nodes, level, cache}
use Rattle.merkle_tree_theory.specs.Canonical.{HasNode, IsCanonical, IsRow, IsGap, IsCanonicalRoot}
use Rattle.merkle_tree_theory.specs.Stream.{page_digest, stream_of, row_stream, held_stream, head_bytes, below_bytes, key_bytes}
use Rattle.merkle_tree_theory.specs.Cache.{CachesHold, RowCachesHold, HeldCachesHold, EachHasCache, HasCache, uncached_pages, row_uncached_pages, held_uncached_pages, tree_with_digests, row_with_digests, held_with_digests}
use Rattle.merkle_tree_theory.specs.declared.page_format.PageFormat.{PageFormat}

module _ {K : Type 0} (format : PageFormat) (bytes_of : K → List ℕ) where
  mutual
    -- below a page with a cached digest nothing is uncached_pages
    pub row_filled-same : (r : Row K (List ℕ)) → EachHasCache r → RowCachesHold format bytes_of r → row_with_digests format bytes_of r ≡ r
    row_filled-same (high h) e c = ap high (held_filled-same h e c)
    row_filled-same (node h k d r) e c = λ i. node (held_filled-same h e.0 c.0 i) k d (row_filled-same r e.1 c.1 i)

    pub held_filled-same : (h : Held K (List ℕ)) → HasCache h → HeldCachesHold format bytes_of h → held_with_digests format bytes_of h ≡ h
    held_filled-same nothing e c = refl
    held_filled-same (below (page l None r)) e c = absurd e
    held_filled-same (below (page l (Some d) r)) e c = λ i. below (page l (Some (sym c.0 i)) (row_filled-same r c.1 c.2 i))

  abbrev pub node_filled : Node K (List ℕ) → Node K (List ℕ)
  node_filled e = record { lt = held_with_digests format bytes_of e.lt; key = e.key; digest = e.digest }

  abbrev pub node_stream : Node K (List ℕ) → List ℕ
  node_stream e = held_stream format bytes_of e.lt ++ key_bytes format (bytes_of e.key) ++ e.digest

  pub row_filled-row : (es : List (Node K (List ℕ))) (h : Held K (List ℕ)) → row_with_digests format bytes_of (row es h) ≡ row (map node_filled es) (held_with_digests format bytes_of h)
  row_filled-row [] h = refl
  row_filled-row (e ∷ es) h = ap (node (held_with_digests format bytes_of e.lt) e.key e.digest) (row_filled-row es h)

  pub row_stream-row : (es : List (Node K (List ℕ))) (h : Held K (List ℕ)) → row_stream format bytes_of (row es h) ≡ flat_map node_stream es ++ held_stream format bytes_of h
  row_stream-row [] h = refl
  row_stream-row (e ∷ es) h =
      ap (λ xs. node_stream e ++ xs) (row_stream-row es h) ∙ sym (append_assoc (node_stream e) (flat_map node_stream es) (held_stream format bytes_of h))
      ∙ ap (λ xs. xs ++ held_stream format bytes_of h) (sym (flat_map-cons node_stream e es))

  pub caches_at : (es : List (Node K (List ℕ))) (h : Held K (List ℕ)) → RowCachesHold format bytes_of (row es h) → (i : ℕ) (d : Node K (List ℕ))
      → i < length es → HeldCachesHold format bytes_of (get_or es i d).lt
  caches_at [] h c i d r = absurd (omega arith)
  caches_at (e ∷ es) h c zero d r = c.0
  caches_at (e ∷ es) h c (suc i) d r = caches_at es h c.1 i d (omega arith)

  pub caches_high : (es : List (Node K (List ℕ))) (h : Held K (List ℕ)) → RowCachesHold format bytes_of (row es h) → HeldCachesHold format bytes_of h
  caches_high [] h c = c
  caches_high (e ∷ es) h c = caches_high es h c.1

-- an element that a loop has not yet written
pub not_yet : {X : Type 0} (f : X → X) (xs : List X) (i : ℕ) (d : X) → i < length xs → get_or (map f (take i xs) ++ drop i xs) i d ≡ get_or xs i d
not_yet f [] i d h = absurd (omega arith)
not_yet f (x ∷ xs) zero d h = refl
not_yet f (x ∷ xs) (suc i) d h = not_yet f xs i d (omega arith)

module _ {K : Type 0} (format : PageFormat) (bytes_of : K → List ℕ) where
  -- what is known of a page without a digest, by its view
  pub row_of_caches : (l : ℕ) (o : Option (List ℕ)) (r : Row K (List ℕ)) (t : Tree K (List ℕ)) → page l o r ≡ t → CachesHold format bytes_of t → RowCachesHold format bytes_of r
  row_of_caches l None r t e c = let P : Tree K (List ℕ) → Type 0 = CachesHold format bytes_of in subst P (sym e) c
  row_of_caches l (Some d) r t e c = let P : Tree K (List ℕ) → Type 0 = CachesHold format bytes_of in (subst P (sym e) c).2

  -- a page with a digest is tree_with_digests, and that is its digest
  pub filled_of_caches : (l : ℕ) (d : List ℕ) (r : Row K (List ℕ)) (t : Tree K (List ℕ)) → page l (Some d) r ≡ t → CachesHold format bytes_of t
      → (t ≡ tree_with_digests format bytes_of t) × (d ≡ page_digest format bytes_of t)
  filled_of_caches l d r t e c =
      let P : Tree K (List ℕ) → Type 0 = CachesHold format bytes_of in
      let h = subst P (sym e) c in
      let same : page l (Some d) r ≡ tree_with_digests format bytes_of (page l (Some d) r) = λ i. page l (Some (h.0 i)) (sym (row_filled-same format bytes_of r h.1 h.2) i) in
      (sym e ∙ same ∙ ap (tree_with_digests format bytes_of) e, h.0 ∙ ap (page_digest format bytes_of) e)

-- the element that a loop reads is the old one
pub reads_old : {X : Type 0} (f : X → X) (xs ys : List X) (i : ℕ) (x : X) → i < length xs → ys ≡ map f (take i xs) ++ drop i xs → x ≡ get_or ys i x → x ≡ get_or xs i x
reads_old f xs ys i x h e r = r ∙ ap (λ zs. get_or zs i x) e ∙ not_yet f xs i x h

module _ {K : Type 0} where
  mutual
    pub pairs-filled : (format : PageFormat) (b : K → List ℕ) (t : Tree K (List ℕ)) → pairs (tree_with_digests format b t) ≡ pairs t
    pairs-filled format b (page l c r) = row_pairs-filled format b r

    pub row_pairs-filled : (format : PageFormat) (b : K → List ℕ) (r : Row K (List ℕ)) → row_pairs (row_with_digests format b r) ≡ row_pairs r
    row_pairs-filled format b (high h) = held_pairs-filled format b h
    row_pairs-filled format b (node h k d r) = λ i. held_pairs-filled format b h i ++ (k, d) ∷ row_pairs-filled format b r i

    pub held_pairs-filled : (format : PageFormat) (b : K → List ℕ) (h : Held K (List ℕ)) → held_pairs (held_with_digests format b h) ≡ held_pairs h
    held_pairs-filled format b nothing = refl
    held_pairs-filled format b (below t) = pairs-filled format b t

  count-filled : (format : PageFormat) (b : K → List ℕ) (r : Row K (List ℕ)) → length (row_nodes (row_with_digests format b r)) ≡ length (row_nodes r)
  count-filled format b (high h) = refl
  count-filled format b (node h k d r) = ap (λ n. suc n) (count-filled format b r)

  mutual
    stream-filled : (format : PageFormat) (b : K → List ℕ) (t : Tree K (List ℕ)) → stream_of format b (tree_with_digests format b t) ≡ stream_of format b t
    stream-filled format b (page l c r) = λ i. head_bytes format l (count-filled format b r i) ++ row_stream-filled format b r i

    pub row_stream-filled : (format : PageFormat) (b : K → List ℕ) (r : Row K (List ℕ)) → row_stream format b (row_with_digests format b r) ≡ row_stream format b r
    row_stream-filled format b (high h) = held_stream-filled format b h
    row_stream-filled format b (node h k d r) = λ i. ((held_stream-filled format b h i ++ key_bytes format (b k)) ++ d) ++ row_stream-filled format b r i

    pub held_stream-filled : (format : PageFormat) (b : K → List ℕ) (h : Held K (List ℕ)) → held_stream format b (held_with_digests format b h) ≡ held_stream format b h
    held_stream-filled format b nothing = refl
    held_stream-filled format b (below t) = ap (λ stream. below_bytes format (siphash128 zero_key stream)) (stream-filled format b t)

  HasNode-filled : (format : PageFormat) (b : K → List ℕ) (t : Tree K (List ℕ)) → HasNode t → HasNode (tree_with_digests format b t)
  HasNode-filled format b (page l c (high h)) p = p
  HasNode-filled format b (page l c (node h k d r)) p = tt

  level-filled : (format : PageFormat) (b : K → List ℕ) (t : Tree K (List ℕ)) → level (tree_with_digests format b t) ≡ level t
  level-filled format b (page l c r) = refl

  module _ (lev : K → ℕ) where
    mutual
      pub IsCanonical-filled : (format : PageFormat) (b : K → List ℕ) (t : Tree K (List ℕ)) → IsCanonical lev t → IsCanonical lev (tree_with_digests format b t)
      IsCanonical-filled format b (page l c r) p = IsRow-filled format b l r p

      pub IsRow-filled : (format : PageFormat) (b : K → List ℕ) (l : ℕ) (r : Row K (List ℕ)) → IsRow lev l r → IsRow lev l (row_with_digests format b r)
      IsRow-filled format b l (high h) p = IsGap-filled format b l h p
      IsRow-filled format b l (node h k d r) p = (IsGap-filled format b l h p.0, p.1, IsRow-filled format b l r p.2)

      pub IsGap-filled : (format : PageFormat) (b : K → List ℕ) (l : ℕ) (h : Held K (List ℕ)) → IsGap lev l h → IsGap lev l (held_with_digests format b h)
      IsGap-filled format b l nothing p = tt
      IsGap-filled format b l (below t) p = (subst (λ n. n < l) (sym (level-filled format b t)) p.0, HasNode-filled format b t p.1, IsCanonical-filled format b t p.2)

    pub IsCanonicalRoot-filled : (format : PageFormat) (b : K → List ℕ) (t : Tree K (List ℕ)) → IsCanonicalRoot lev t → IsCanonicalRoot lev (tree_with_digests format b t)
    IsCanonicalRoot-filled format b (page l c (high nothing)) p = p
    IsCanonicalRoot-filled format b (page l c (high (below t))) p = p
    IsCanonicalRoot-filled format b (page l c (node h k d r)) p = IsRow-filled format b l (node h k d r) p

  pub HasCache-filled : (format : PageFormat) (b : K → List ℕ) (h : Held K (List ℕ)) → HasCache (held_with_digests format b h)
  HasCache-filled format b nothing = tt
  HasCache-filled format b (below (page l c r)) = tt

  pub EachHasCache-filled : (format : PageFormat) (b : K → List ℕ) (r : Row K (List ℕ)) → EachHasCache (row_with_digests format b r)
  EachHasCache-filled format b (high h) = HasCache-filled format b h
  EachHasCache-filled format b (node h k d r) = (HasCache-filled format b h, EachHasCache-filled format b r)

  mutual
    pub CachesHold-filled : (format : PageFormat) (b : K → List ℕ) (t : Tree K (List ℕ)) → CachesHold format b (tree_with_digests format b t)
    CachesHold-filled format b (page l c r) = (ap (siphash128 zero_key) (sym (stream-filled format b (page l c r))), EachHasCache-filled format b r, RowCachesHold-filled format b r)

    pub RowCachesHold-filled : (format : PageFormat) (b : K → List ℕ) (r : Row K (List ℕ)) → RowCachesHold format b (row_with_digests format b r)
    RowCachesHold-filled format b (high h) = HeldCachesHold-filled format b h
    RowCachesHold-filled format b (node h k d r) = (HeldCachesHold-filled format b h, RowCachesHold-filled format b r)

    pub HeldCachesHold-filled : (format : PageFormat) (b : K → List ℕ) (h : Held K (List ℕ)) → HeldCachesHold format b (held_with_digests format b h)
    HeldCachesHold-filled format b nothing = tt
    HeldCachesHold-filled format b (below t) = CachesHold-filled format b t

  pub cache-filled : (format : PageFormat) (b : K → List ℕ) (t : Tree K (List ℕ)) → cache (tree_with_digests format b t) ≡ Some (page_digest format b t)
  cache-filled format b (page l c r) = refl

module _ {K D : Type 0} where
  abbrev pub node_missing : Node K D → ℕ
  node_missing e = held_uncached_pages e.lt

  pub row_missing-row : (es : List (Node K D)) (h : Held K D) → row_uncached_pages (row es h) ≡ sum_by node_missing es + held_uncached_pages h
  row_missing-row [] h = omega arith
  row_missing-row (e ∷ es) h = omega (arith, row_missing-row es h, sum_by-cons node_missing e es)

module _ {K : Type 0} (format : PageFormat) (b : K → List ℕ) where
  mutual
    -- where every digest is in place, no page lacks one
    pub missing-filled : (t : Tree K (List ℕ)) → uncached_pages (tree_with_digests format b t) ≡ 0
    missing-filled (page l c r) = omega (arith, row_missing-filled r)

    row_missing-filled : (r : Row K (List ℕ)) → row_uncached_pages (row_with_digests format b r) ≡ 0
    row_missing-filled (high h) = held_missing-filled h
    row_missing-filled (node h k d r) = omega (arith, held_missing-filled h, row_missing-filled r)

    held_missing-filled : (h : Held K (List ℕ)) → held_uncached_pages (held_with_digests format b h) ≡ 0
    held_missing-filled nothing = refl
    held_missing-filled (below t) = missing-filled t
