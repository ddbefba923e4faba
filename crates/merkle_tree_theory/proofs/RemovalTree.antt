-- What a removal does to the map, the form and the caches, and how few digests are dropped.
use Rattle.std.proofs.Common.{◌≡◌, ◌≢◌, ℕ, suc, ◌+◌, ◌<◌, ◌≤◌, List, ◌∷◌, ◌++◌, Bool, true, false, ◌||◌, Some, None, refl, ap, sym, ◌∙◌, arith}
use Rattle.std.specs.declared.cmp.Ordering.{Ordering}
use Rattle.std.specs.declared.cmp.Ordering.TheVariants.{Less, Equal, Greater}
use Rattle.std.specs.Ordering.{is_eq, match_ordering}
use Rattle.std.specs.Cmp.{IsTotalOrder}
use Rattle.key_order.specs.Map.{IsMap, has_key, del, entry}
use Rattle.key_order.proofs.Dels.{NoEqual, del-append, del-here, del-past, del-none, entry-here, entry-past, entry-behind, entry-before}
use Rattle.key_order.proofs.ListParts.{map-first, map-rest}
use Rattle.merkle_tree_theory.specs.Tree.{Tree, page, Row, high, node, Held, nothing, below}
use Rattle.merkle_tree_theory.specs.TreeOf.{root_of}
use Rattle.merkle_tree_theory.specs.Page.{level, pairs, row_pairs, held_pairs}
use Rattle.merkle_tree_theory.specs.Cache.{uncached_pages, row_uncached_pages, held_uncached_pages, CachesHold, RowCachesHold, HeldCachesHold}
use Rattle.merkle_tree_theory.specs.Canonical.{IsCanonical, IsRow, IsGap, IsCanonicalRoot}
use Rattle.merkle_tree_theory.specs.Upsert.{as_held}
use Rattle.merkle_tree_theory.specs.Remove.{row_append, row_del, held_del, tree_del, root_del, row_entry, held_entry, tree_entry, HasFreeGap, RowHasFreeGap, HeldHasFreeGap}
use Rattle.merkle_tree_theory.proofs.MapAtKey.{has_key-append, none-before, none-after}
use Rattle.merkle_tree_theory.proofs.UpsertForm.{rows_hold, as_held-gap, as_held-few, root_from}
use Rattle.merkle_tree_theory.proofs.UpsertMap.{as_held-pairs}
use Rattle.merkle_tree_theory.proofs.GapUnions.{append-pairs, append-row, append-hold, append-few}
use Rattle.merkle_tree_theory.proofs.Roots.{root-pairs}
use Rattle.merkle_tree_theory.specs.declared.page_format.PageFormat.{PageFormat}

module _ {K D : Type 0} (cmp : K → K → Ordering) (o : IsTotalOrder cmp) (k : K) where
  -- the map
  mutual
    pub row_del-pairs : (r : Row K D) → IsMap cmp (row_pairs r) → row_pairs (row_del cmp k r) ≡ del cmp (row_pairs r) k
    row_del-pairs (high h) a = held_del-pairs h a
    row_del-pairs (node h x e r) a =
        by (cmp k x) refl (none-before cmp o k (held_pairs h) x e (row_pairs r) a) (none-after cmp o k (held_pairs h) x e (row_pairs r) a)
        (row_del-pairs r (map-rest cmp (held_pairs h) ((x, e) ∷ row_pairs r) a).1) (held_del-pairs h (map-first cmp (held_pairs h) ((x, e) ∷ row_pairs r) a))
      where
        by : (q : Ordering) → cmp k x ≡ q → (cmp k x ≢ Less → NoEqual cmp k (held_pairs h)) → (cmp k x ≢ Greater → NoEqual cmp k (row_pairs r))
            → row_pairs (row_del cmp k r) ≡ del cmp (row_pairs r) k → held_pairs (held_del cmp k h) ≡ del cmp (held_pairs h) k
            → row_pairs (match_ordering q (node (held_del cmp k h) x e r) (row_append (high h) r) (node h x e (row_del cmp k r))) ≡ del cmp (held_pairs h ++ (x, e) ∷ row_pairs r) k
        by Less q b c f g =
            let ys = (x, e) ∷ row_pairs r in
            ap (λ xs. xs ++ ys) g ∙ ap (λ zs. del cmp (held_pairs h) k ++ zs) (sym (del-none cmp k ys ((λ z. let y = sym q ∙ z in cc), c (λ z. let y = sym q ∙ z in cc))))
            ∙ sym (del-append cmp k (held_pairs h) ys)
        by Equal q b c f g =
            append-pairs (high h) r
            ∙ (λ i. sym (del-none cmp k (held_pairs h) (b (λ z. let y = sym q ∙ z in cc))) i ++ sym (del-none cmp k (row_pairs r) (c (λ z. let y = sym q ∙ z in cc))) i)
            ∙ ap (λ zs. del cmp (held_pairs h) k ++ zs) (sym (del-here cmp k (x, e) (row_pairs r) q)) ∙ sym (del-append cmp k (held_pairs h) ((x, e) ∷ row_pairs r))
        by Greater q b c f g =
            (λ i. sym (del-none cmp k (held_pairs h) (b (λ z. let y = sym q ∙ z in cc))) i ++ (x, e) ∷ f i)
            ∙ ap (λ zs. del cmp (held_pairs h) k ++ zs) (sym (del-past cmp k (x, e) (row_pairs r) (λ z. let y = sym q ∙ z in cc))) ∙ sym (del-append cmp k (held_pairs h) ((x, e) ∷ row_pairs r))

    pub held_del-pairs : (h : Held K D) → IsMap cmp (held_pairs h) → held_pairs (held_del cmp k h) ≡ del cmp (held_pairs h) k
    held_del-pairs nothing a = refl
    held_del-pairs (below t) a = tree_del-pairs t a

    pub tree_del-pairs : (t : Tree K D) → IsMap cmp (pairs t) → held_pairs (tree_del cmp k t) ≡ del cmp (pairs t) k
    tree_del-pairs (page l c r) a = as_held-pairs l None (row_del cmp k r) ∙ row_del-pairs r a

  pub root_del-pairs : (t : Tree K D) → IsMap cmp (pairs t) → pairs (root_del cmp k t) ≡ del cmp (pairs t) k
  root_del-pairs t a = root-pairs (tree_del cmp k t) ∙ tree_del-pairs t a

  -- what is found on the key's path is what the map has
  mutual
    pub row_entry-is : (r : Row K D) → IsMap cmp (row_pairs r) → row_entry cmp k r ≡ entry cmp (row_pairs r) k
    row_entry-is (high h) a = held_entry-is h a
    row_entry-is (node h x e r) a =
        by (cmp k x) refl (none-before cmp o k (held_pairs h) x e (row_pairs r) a) (none-after cmp o k (held_pairs h) x e (row_pairs r) a)
        (row_entry-is r (map-rest cmp (held_pairs h) ((x, e) ∷ row_pairs r) a).1) (held_entry-is h (map-first cmp (held_pairs h) ((x, e) ∷ row_pairs r) a))
      where
        by : (q : Ordering) → cmp k x ≡ q → (cmp k x ≢ Less → NoEqual cmp k (held_pairs h)) → (cmp k x ≢ Greater → NoEqual cmp k (row_pairs r))
            → row_entry cmp k r ≡ entry cmp (row_pairs r) k → held_entry cmp k h ≡ entry cmp (held_pairs h) k
            → match_ordering q (held_entry cmp k h) (Some (x, e)) (row_entry cmp k r) ≡ entry cmp (held_pairs h ++ (x, e) ∷ row_pairs r) k
        by Less q b c f g =
            g ∙ sym (entry-before cmp k (held_pairs h) ((x, e) ∷ row_pairs r) ((λ z. let y = sym q ∙ z in cc), c (λ z. let y = sym q ∙ z in cc)))
        by Equal q b c f g =
            sym (entry-behind cmp k (held_pairs h) ((x, e) ∷ row_pairs r) (b (λ z. let y = sym q ∙ z in cc)) ∙ entry-here cmp k (x, e) (row_pairs r) q)
        by Greater q b c f g =
            f ∙ sym (entry-behind cmp k (held_pairs h) ((x, e) ∷ row_pairs r) (b (λ z. let y = sym q ∙ z in cc)) ∙ entry-past cmp k (x, e) (row_pairs r) (λ z. let y = sym q ∙ z in cc))

    pub held_entry-is : (h : Held K D) → IsMap cmp (held_pairs h) → held_entry cmp k h ≡ entry cmp (held_pairs h) k
    held_entry-is nothing a = refl
    held_entry-is (below t) a = tree_entry-is t a

    pub tree_entry-is : (t : Tree K D) → IsMap cmp (pairs t) → tree_entry cmp k t ≡ entry cmp (pairs t) k
    tree_entry-is (page l c r) a = row_entry-is r a

-- the form
module _ {K D : Type 0} (cmp : K → K → Ordering) (lev : K → ℕ) (k : K) where
  mutual
    pub row_del-row : (l : ℕ) (r : Row K D) → IsRow lev l r → IsRow lev l (row_del cmp k r)
    row_del-row l (high h) p = held_del-gap l h p
    row_del-row l (node h x e r) p = by (cmp k x) (row_del-row l r p.2) (held_del-gap l h p.0)
      where
        by : (q : Ordering) → IsRow lev l (row_del cmp k r) → IsGap lev l (held_del cmp k h)
            → IsRow lev l (match_ordering q (node (held_del cmp k h) x e r) (row_append (high h) r) (node h x e (row_del cmp k r)))
        by Less f g = (g, p.1, p.2)
        by Equal f g = append-row lev l (high h) r p.0 p.2
        by Greater f g = (p.0, p.1, f)

    pub held_del-gap : (b : ℕ) (h : Held K D) → IsGap lev b h → IsGap lev b (held_del cmp k h)
    held_del-gap b nothing p = tt
    held_del-gap b (below t) p = tree_del-gap b t p.0 p.2

    tree_del-gap : (b : ℕ) (t : Tree K D) → level t < b → IsCanonical lev t → IsGap lev b (tree_del cmp k t)
    tree_del-gap b (page l c r) s p = as_held-gap lev l b None (row_del cmp k r) s (row_del-row l r p)

  root_of-root : (b : ℕ) (h : Held K D) → IsGap lev b h → IsCanonicalRoot lev (root_of h)
  root_of-root b nothing p = refl
  root_of-root b (below t) p = root_from lev t p.1 p.2

  pub root_del-root : (t : Tree K D) → IsCanonicalRoot lev t → IsCanonicalRoot lev (root_del cmp k t)
  root_del-root (page l c (high nothing)) p = refl
  root_del-root (page l c (high (below t))) p = absurd p
  root_del-root (page l c (node h x e r)) p = root_of-root (suc l) (tree_del cmp k (page l c (node h x e r))) (tree_del-gap (suc l) (page l c (node h x e r)) (omega arith) p)

-- the caches
module _ {K : Type 0} (cmp : K → K → Ordering) (k : K) (format : PageFormat) (b : K → List ℕ) where
  as_held-hold : (l : ℕ) (r : Row K (List ℕ)) → RowCachesHold format b r → HeldCachesHold format b (as_held l None r)
  as_held-hold l (high h) p = p
  as_held-hold l (node h x d r) p = p

  mutual
    pub row_del-hold : (r : Row K (List ℕ)) → RowCachesHold format b r → RowCachesHold format b (row_del cmp k r)
    row_del-hold (high h) p = held_del-hold h p
    row_del-hold (node h x e r) p = by (cmp k x) (row_del-hold r p.1) (held_del-hold h p.0)
      where
        by : (q : Ordering) → RowCachesHold format b (row_del cmp k r) → HeldCachesHold format b (held_del cmp k h)
            → RowCachesHold format b (match_ordering q (node (held_del cmp k h) x e r) (row_append (high h) r) (node h x e (row_del cmp k r)))
        by Less f g = (g, p.1)
        by Equal f g = append-hold format b (high h) r p.0 p.1
        by Greater f g = (p.0, f)

    held_del-hold : (h : Held K (List ℕ)) → HeldCachesHold format b h → HeldCachesHold format b (held_del cmp k h)
    held_del-hold nothing p = tt
    held_del-hold (below t) p = tree_del-hold t p

    tree_del-hold : (t : Tree K (List ℕ)) → CachesHold format b t → HeldCachesHold format b (tree_del cmp k t)
    tree_del-hold (page l c r) p = as_held-hold l (row_del cmp k r) (row_del-hold r (rows_hold format b l c r p))

  root_of-hold : (h : Held K (List ℕ)) → HeldCachesHold format b h → CachesHold format b (root_of h)
  root_of-hold nothing p = tt
  root_of-hold (below t) p = p

  pub root_del-hold : (t : Tree K (List ℕ)) → CachesHold format b t → CachesHold format b (root_del cmp k t)
  root_del-hold t p = root_of-hold (tree_del cmp k t) (tree_del-hold t p)

-- how many digests are dropped
module _ {K D : Type 0} (cmp : K → K → Ordering) (lev : K → ℕ) (k : K) where
  mutual
    pub row_del-few : (l : ℕ) (r : Row K D) → IsRow lev l r → row_uncached_pages (row_del cmp k r) ≤ row_uncached_pages r + l
    row_del-few l (high h) p = held_del-few l h p
    row_del-few l (node h x e r) p = by (cmp k x) (row_del-few l r p.2) (held_del-few l h p.0)
      where
        by : (q : Ordering) → row_uncached_pages (row_del cmp k r) ≤ row_uncached_pages r + l → held_uncached_pages (held_del cmp k h) ≤ held_uncached_pages h + l
            → row_uncached_pages (match_ordering q (node (held_del cmp k h) x e r) (row_append (high h) r) (node h x e (row_del cmp k r))) ≤ row_uncached_pages (node h x e r) + l
        by Less f g = omega (arith, g)
        by Equal f g = append-few lev l (high h) r p.0 p.2
        by Greater f g = omega (arith, f)

    held_del-few : (b : ℕ) (h : Held K D) → IsGap lev b h → held_uncached_pages (held_del cmp k h) ≤ held_uncached_pages h + b
    held_del-few b nothing p = omega arith
    held_del-few b (below t) p = tree_del-few b t p.0 p.2

    tree_del-few : (b : ℕ) (t : Tree K D) → level t < b → IsCanonical lev t → held_uncached_pages (tree_del cmp k t) ≤ uncached_pages t + b
    tree_del-few b (page l c r) s p = omega (arith, as_held-few l b (row_uncached_pages r) None (row_del cmp k r) s (row_del-few l r p))

  root_of-few : (a b : ℕ) (h : Held K D) → held_uncached_pages h ≤ a + (b + 1) → uncached_pages (root_of h) ≤ a + (b + 1)
  root_of-few a b nothing s = omega arith
  root_of-few a b (below t) s = s

  pub root_del-few : (t : Tree K D) → IsCanonicalRoot lev t → uncached_pages (root_del cmp k t) ≤ uncached_pages t + (level t + 1)
  root_del-few (page l c (high nothing)) p = omega arith
  root_del-few (page l c (high (below t))) p = absurd p
  root_del-few (page l c (node h x e r)) p =
      root_of-few (uncached_pages (page l c (node h x e r))) l (tree_del cmp k (page l c (node h x e r))) (tree_del-few (l + 1) (page l c (node h x e r)) (omega arith) p)

-- where the map has no such key, nothing is claimed of the gaps beside it
or_false : (a b : Bool) → a || b ≡ false → (a ≡ false) × (b ≡ false)
or_false true b e = absurd (cc)
or_false false b e = (refl, e)

module _ {K D : Type 0} (cmp : K → K → Ordering) (k : K) where
  mutual
    pub free-none : (t : Tree K D) → has_key cmp (pairs t) k ≡ false → HasFreeGap cmp k t
    free-none (page l c r) e = row_free-none r e

    row_free-none : (r : Row K D) → has_key cmp (row_pairs r) k ≡ false → RowHasFreeGap cmp k r
    row_free-none (high h) e = held_free-none h e
    row_free-none (node h x d r) e =
        let f = or_false (has_key cmp (held_pairs h) k) (has_key cmp ((x, d) ∷ row_pairs r) k) (sym (has_key-append cmp k (held_pairs h) ((x, d) ∷ row_pairs r)) ∙ e) in
        let g = or_false (is_eq (cmp k x)) (has_key cmp (row_pairs r) k) f.1 in
        (held_free-none h f.0, (λ q. let y = sym g.0 ∙ ap is_eq q in absurd (cc)), row_free-none r g.1)

    held_free-none : (h : Held K D) → has_key cmp (held_pairs h) k ≡ false → HeldHasFreeGap cmp k h
    held_free-none nothing e = tt
    held_free-none (below t) e = free-none t e
