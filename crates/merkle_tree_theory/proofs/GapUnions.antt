-- What stands in two neighbouring gaps, put together: its pairs, its form, its caches, and how few digests are dropped.
use Rattle.std.proofs.Common.{◌≡◌, ℕ, ◌+◌, ◌<◌, ◌≤◌, List, ◌∷◌, ◌++◌, None, refl, ap, sym, subst, ◌∙◌, append_assoc, append-nil, arith}
use Rattle.std.specs.declared.cmp.Ordering.{Ordering}
use Rattle.std.specs.declared.cmp.Ordering.TheVariants.{Less, Equal, Greater}
use Rattle.std.specs.Ordering.{match_ordering, nat_cmp, MatchOrdering}
use Rattle.std.specs.Cmp.{ranks}
use Rattle.merkle_tree_theory.specs.Tree.{Tree, page, Row, high, node, Held, nothing, below}
use Rattle.merkle_tree_theory.specs.Page.{pairs, row_pairs, held_pairs}
use Rattle.merkle_tree_theory.specs.Cache.{uncached_pages, row_uncached_pages, held_uncached_pages, CachesHold, RowCachesHold, HeldCachesHold}
use Rattle.merkle_tree_theory.specs.Canonical.{HasNode, IsRow, IsGap}
use Rattle.merkle_tree_theory.specs.Remove.{under, tree_under, row_under, held_join, tree_join, row_append}
use Rattle.merkle_tree_theory.proofs.UpsertForm.{rows_hold}
use Rattle.merkle_tree_theory.specs.declared.page_format.PageFormat.{PageFormat}

-- no pair is lost
module _ {K D : Type 0} where
  module _ (t : Tree K D) (l : ℕ) (on : Row K D → Row K D) (front : List (K × D)) (is : pairs t ≡ front) (e : (s : Row K D) → row_pairs (on s) ≡ front ++ row_pairs s) where
    mutual
      under-pairs : (h : Held K D) → held_pairs (under t l on h) ≡ front ++ held_pairs h
      under-pairs nothing = is ∙ sym (append-nil front)
      under-pairs (below u) = tree_under-pairs u

      tree_under-pairs : (u : Tree K D) → pairs (tree_under t l on u) ≡ front ++ pairs u
      tree_under-pairs (page m c s) = by (nat_cmp l m) (row_under-pairs s)
        where
          by : (q : Ordering) → row_pairs (row_under t l on s) ≡ front ++ row_pairs s
              → pairs (match_ordering q (page m None (row_under t l on s)) (page l None (on s)) (page l None (on (high (below (page m c s)))))) ≡ front ++ row_pairs s
          by Less f = f
          by Equal f = e s
          by Greater f = e (high (below (page m c s)))

      row_under-pairs : (s : Row K D) → row_pairs (row_under t l on s) ≡ front ++ row_pairs s
      row_under-pairs (high h) = under-pairs h
      row_under-pairs (node h k d s) = ap (λ xs. xs ++ (k, d) ∷ row_pairs s) (under-pairs h) ∙ append_assoc front (held_pairs h) ((k, d) ∷ row_pairs s)

  mutual
    pub join-pairs : (g h : Held K D) → held_pairs (held_join g h) ≡ held_pairs g ++ held_pairs h
    join-pairs nothing h = refl
    join-pairs (below t) h = tree_join-pairs t h

    tree_join-pairs : (t : Tree K D) (h : Held K D) → held_pairs (tree_join t h) ≡ pairs t ++ held_pairs h
    tree_join-pairs (page l c r) h = under-pairs (page l c r) l (row_append r) (row_pairs r) refl (append-pairs r) h

    pub append-pairs : (r s : Row K D) → row_pairs (row_append r s) ≡ row_pairs r ++ row_pairs s
    append-pairs (high g) (high h) = join-pairs g h
    append-pairs (high g) (node h k d s) = ap (λ xs. xs ++ (k, d) ∷ row_pairs s) (join-pairs g h) ∙ append_assoc (held_pairs g) (held_pairs h) ((k, d) ∷ row_pairs s)
    append-pairs (node h k d r) s = ap (λ xs. held_pairs h ++ (k, d) ∷ xs) (append-pairs r s) ∙ sym (append_assoc (held_pairs h) ((k, d) ∷ row_pairs r) (row_pairs s))

-- the form
module _ {K D : Type 0} (lev : K → ℕ) where
  module _ (t : Tree K D) (l : ℕ) (on : Row K D → Row K D) (g : (b : ℕ) → l < b → IsGap lev b (below t))
      (n : (s : Row K D) → HasNode (page l None (on s))) (f : (s : Row K D) → IsRow lev l s → IsRow lev l (on s)) where
    under-gap : (b : ℕ) (h : Held K D) → l < b → IsGap lev b h → IsGap lev b (under t l on h)
    under-gap b nothing s p = g b s
    under-gap b (below (page m c (high h))) s p = absurd p.1
    under-gap b (below (page m c (node h k d r))) s p = by (nat_cmp l m) (ranks l m) (λ q. under-gap m h q p.2.0)
      where
        by : (q : Ordering) → MatchOrdering q (l < m) (l ≡ m) (m < l) → (l < m → IsGap lev m (under t l on h))
            → IsGap lev b (below (match_ordering q (page m None (node (under t l on h) k d r)) (page l None (on (node h k d r))) (page l None (on (high (below (page m c (node h k d r))))))))
        by Less q i = (p.0, tt, (i q, p.2.1, p.2.2))
        by Equal q i = (s, n (node h k d r), f (node h k d r) (subst (λ j. IsRow lev j (node h k d r)) (sym q) p.2))
        by Greater q i = (s, n (high (below (page m c (node h k d r)))), f (high (below (page m c (node h k d r)))) (q, tt, p.2))

  mutual
    pub join-gap : (b : ℕ) (g h : Held K D) → IsGap lev b g → IsGap lev b h → IsGap lev b (held_join g h)
    join-gap b nothing h p q = q
    join-gap b (below t) h p q = tree_join-gap b t h p q

    tree_join-gap : (b : ℕ) (t : Tree K D) (h : Held K D) → IsGap lev b (below t) → IsGap lev b h → IsGap lev b (tree_join t h)
    tree_join-gap b (page l c (high g)) h p q = absurd p.1
    tree_join-gap b (page l c (node g k d r)) h p q =
        under-gap (page l c (node g k d r)) l (row_append (node g k d r)) (λ j s. (s, tt, p.2)) (λ s. tt) (λ s i. (p.2.0, p.2.1, append-row l r s p.2.2 i)) b h p.0 q

    pub append-row : (l : ℕ) (r s : Row K D) → IsRow lev l r → IsRow lev l s → IsRow lev l (row_append r s)
    append-row l (high g) (high h) p q = join-gap l g h p q
    append-row l (high g) (node h k d s) p q = (join-gap l g h p q.0, q.1, q.2)
    append-row l (node h k d r) s p q = (p.0, p.1, append-row l r s p.2 q)

-- the caches
module _ {K : Type 0} (format : PageFormat) (b : K → List ℕ) where
  module _ (t : Tree K (List ℕ)) (l : ℕ) (on : Row K (List ℕ) → Row K (List ℕ)) (p : CachesHold format b t) (f : (s : Row K (List ℕ)) → RowCachesHold format b s → RowCachesHold format b (on s)) where
    mutual
      under-hold : (h : Held K (List ℕ)) → HeldCachesHold format b h → HeldCachesHold format b (under t l on h)
      under-hold nothing q = p
      under-hold (below u) q = tree_under-hold u q

      tree_under-hold : (u : Tree K (List ℕ)) → CachesHold format b u → CachesHold format b (tree_under t l on u)
      tree_under-hold (page m c s) q = by (nat_cmp l m) (row_under-hold s (rows_hold format b m c s q))
        where
          by : (o : Ordering) → RowCachesHold format b (row_under t l on s)
              → CachesHold format b (match_ordering o (page m None (row_under t l on s)) (page l None (on s)) (page l None (on (high (below (page m c s))))))
          by Less g = g
          by Equal g = f s (rows_hold format b m c s q)
          by Greater g = f (high (below (page m c s))) q

      row_under-hold : (s : Row K (List ℕ)) → RowCachesHold format b s → RowCachesHold format b (row_under t l on s)
      row_under-hold (high h) q = under-hold h q
      row_under-hold (node h k d s) q = (under-hold h q.0, q.1)

  mutual
    pub join-hold : (g h : Held K (List ℕ)) → HeldCachesHold format b g → HeldCachesHold format b h → HeldCachesHold format b (held_join g h)
    join-hold nothing h p q = q
    join-hold (below t) h p q = tree_join-hold t h p q

    tree_join-hold : (t : Tree K (List ℕ)) (h : Held K (List ℕ)) → CachesHold format b t → HeldCachesHold format b h → HeldCachesHold format b (tree_join t h)
    tree_join-hold (page l c r) h p q = under-hold (page l c r) l (row_append r) p (λ s i. append-hold r s (rows_hold format b l c r p) i) h q

    pub append-hold : (r s : Row K (List ℕ)) → RowCachesHold format b r → RowCachesHold format b s → RowCachesHold format b (row_append r s)
    append-hold (high g) (high h) p q = join-hold g h p q
    append-hold (high g) (node h k d s) p q = (join-hold g h p q.0, q.1)
    append-hold (node h k d r) s p q = (p.0, append-hold r s p.1 q)

-- how many digests are dropped
module _ {K D : Type 0} (lev : K → ℕ) where
  module _ (t : Tree K D) (l a : ℕ) (on : Row K D → Row K D) (z : a ≤ uncached_pages t) (f : (s : Row K D) → IsRow lev l s → row_uncached_pages (on s) ≤ a + row_uncached_pages s + l) where
    under-few : (b : ℕ) (h : Held K D) → l < b → IsGap lev b h → held_uncached_pages (under t l on h) ≤ uncached_pages t + held_uncached_pages h + b
    under-few b nothing s p = omega arith
    under-few b (below (page m c (high h))) s p = absurd p.1
    under-few b (below (page m c (node h k d r))) s p = by (nat_cmp l m) (ranks l m) (λ q. under-few m h q p.2.0)
      where
        by : (q : Ordering) → MatchOrdering q (l < m) (l ≡ m) (m < l) → (l < m → held_uncached_pages (under t l on h) ≤ uncached_pages t + held_uncached_pages h + m)
            → uncached_pages (match_ordering q (page m None (node (under t l on h) k d r)) (page l None (on (node h k d r))) (page l None (on (high (below (page m c (node h k d r)))))))
            ≤ uncached_pages t + uncached_pages (page m c (node h k d r)) + b
        by Less q i = omega (arith, i q, p.0)
        by Equal q i = omega (arith, z, f (node h k d r) (subst (λ j. IsRow lev j (node h k d r)) (sym q) p.2), s)
        by Greater q i = omega (arith, z, f (high (below (page m c (node h k d r)))) (q, tt, p.2), s)

  mutual
    pub join-few : (b : ℕ) (g h : Held K D) → IsGap lev b g → IsGap lev b h → held_uncached_pages (held_join g h) ≤ held_uncached_pages g + held_uncached_pages h + b
    join-few b nothing h p q = omega arith
    join-few b (below t) h p q = tree_join-few b t h p q

    tree_join-few : (b : ℕ) (t : Tree K D) (h : Held K D) → IsGap lev b (below t) → IsGap lev b h → held_uncached_pages (tree_join t h) ≤ uncached_pages t + held_uncached_pages h + b
    tree_join-few b (page l c (high g)) h p q = absurd p.1
    tree_join-few b (page l c (node g k d r)) h p q =
        under-few (page l c (node g k d r)) l (row_uncached_pages (node g k d r)) (row_append (node g k d r)) (omega arith) (λ s i. omega (arith, append-few l r s p.2.2 i)) b h p.0 q

    pub append-few : (l : ℕ) (r s : Row K D) → IsRow lev l r → IsRow lev l s → row_uncached_pages (row_append r s) ≤ row_uncached_pages r + row_uncached_pages s + l
    append-few l (high g) (high h) p q = join-few l g h p q
    append-few l (high g) (node h k d s) p q = omega (arith, join-few l g h p q.0)
    append-few l (node h k d r) s p q = omega (arith, append-few l r s p.2 q)
