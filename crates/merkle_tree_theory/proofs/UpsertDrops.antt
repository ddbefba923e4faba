-- After an upsert no page over the key has a digest, and the path leads to a key that is there.
use Rattle.std.proofs.Common.{◌≡◌, ◌≢◌, ℕ, ◌+◌, ◌<◌, ◌∷◌, Bool, true, false, ◌||◌, Some, None, refl, sym, subst, ◌∙◌, arith}
use Rattle.std.specs.declared.cmp.Ordering.{Ordering}
use Rattle.std.specs.declared.cmp.Ordering.TheVariants.{Less, Equal, Greater}
use Rattle.std.specs.Ordering.{match_ordering, nat_cmp, MatchOrdering, is_eq}
use Rattle.std.specs.Cmp.{IsTotalOrder, ranks}
use Rattle.merkle_tree_theory.specs.Tree.{Tree, page, Row, high, node, Held, nothing, below}
use Rattle.merkle_tree_theory.specs.Page.{pairs, row_pairs, held_pairs}
use Rattle.merkle_tree_theory.specs.Canonical.{HasNode, IsCanonical, IsRow, IsGap, IsCanonicalRoot}
use Rattle.key_order.specs.Map.{IsMap, has_key}
use Rattle.merkle_tree_theory.specs.Cache.{KeyUncached, RowKeyUncached, HeldKeyUncached}
use Rattle.merkle_tree_theory.specs.Upsert.{held_lower, held_upper, tree_lower, tree_upper, row_put, row_sink, held_set, tree_set, lifted, tree_finds, row_finds, held_finds}
use Rattle.merkle_tree_theory.proofs.Unique.{Under-more, Under-row, Under-gap}
use Rattle.key_order.proofs.Dels.{NoEqual}
use Rattle.key_order.proofs.ListParts.{map-first, map-rest}
use Rattle.merkle_tree_theory.proofs.MapAtKey.{none-before, none-after, no_equal-first, no_equal-rest, no_equal-above, no_equal-below, no_equal-under, has_key-none, has_key-append}
use Rattle.merkle_tree_theory.proofs.UpsertMap.{held_split-sides, tree_split-sides}

or_first : (a b c : Bool) → a || (b || c) ≡ true → b ≡ false → c ≡ false → a ≡ true
or_first true b c e f g = refl
or_first false true c e f g = absurd (cc)
or_first false false c e f g = sym g ∙ e

or_rest : (a b c : Bool) → a || (b || c) ≡ true → a ≡ false → b ≡ false → c ≡ true
or_rest true b c e f g = absurd (cc)
or_rest false true c e f g = absurd (cc)
or_rest false false c e f g = e

module _ {K D : Type 0} (cmp : K → K → Ordering) (k : K) where
  mutual
    -- where the key is not, no digest is over it
    none-tree : (t : Tree K D) → NoEqual cmp k (pairs t) → KeyUncached cmp k t
    none-tree (page l None r) ne = none-row r ne
    none-tree (page l (Some c) r) ne = has_key-none cmp k (row_pairs r) ne

    none-row : (r : Row K D) → NoEqual cmp k (row_pairs r) → RowKeyUncached cmp k r
    none-row (high h) ne = none-held h ne
    none-row (node h x e r) ne = (none-held h (no_equal-first cmp k (held_pairs h) ((x, e) ∷ row_pairs r) ne), none-row r (no_equal-rest cmp k (held_pairs h) ((x, e) ∷ row_pairs r) ne).1)

    none-held : (h : Held K D) → NoEqual cmp k (held_pairs h) → HeldKeyUncached cmp k h
    none-held nothing ne = tt
    none-held (below t) ne = none-tree t ne

module _ {K D : Type 0} (cmp : K → K → Ordering) (o : IsTotalOrder cmp) (lev : K → ℕ) (respects : (a b : K) → cmp a b ≡ Equal → lev a ≡ lev b) (n : ℕ) (k : K) (d : D) (at : lev k ≡ n) where
  -- the three kinds of gaps beside the key
  gap_ne : (h : Held K D) → IsGap lev n h → NoEqual cmp k (held_pairs h)
  gap_ne h p = no_equal-under cmp lev respects k n at (held_pairs h) (Under-gap lev n h p)

  sides : (h : Held K D) → IsMap cmp (held_pairs h) → NoEqual cmp k (held_pairs h) → HeldKeyUncached cmp k (held_lower cmp k h) × HeldKeyUncached cmp k (held_upper cmp k h)
  sides h a ne =
      let s = held_split-sides cmp o k h a ne in (
        none-held cmp k (held_lower cmp k h) (no_equal-below cmp o k (held_pairs (held_lower cmp k h)) s.0),
        none-held cmp k (held_upper cmp k h) (no_equal-above cmp k (held_pairs (held_upper cmp k h)) s.1),
      )

  tree_sides : (t : Tree K D) → IsMap cmp (pairs t) → NoEqual cmp k (pairs t) → HeldKeyUncached cmp k (tree_lower cmp k t) × HeldKeyUncached cmp k (tree_upper cmp k t)
  tree_sides t a ne =
      let s = tree_split-sides cmp o k t a ne in (
        none-held cmp k (tree_lower cmp k t) (no_equal-below cmp o k (held_pairs (tree_lower cmp k t)) s.0),
        none-held cmp k (tree_upper cmp k t) (no_equal-above cmp k (held_pairs (tree_upper cmp k t)) s.1),
      )

  put-dropped : (r : Row K D) → IsRow lev n r → IsMap cmp (row_pairs r) → RowKeyUncached cmp k (row_put cmp k d r)
  put-dropped (high h) p a = sides h a (gap_ne h p)
  put-dropped (node h x e r) p a =
      by (cmp k x) (none-before cmp o k (held_pairs h) x e (row_pairs r) a) (none-after cmp o k (held_pairs h) x e (row_pairs r) a)
      (put-dropped r p.2 (map-rest cmp (held_pairs h) ((x, e) ∷ row_pairs r) a).1)
    where
      by : (q : Ordering) → (q ≢ Less → NoEqual cmp k (held_pairs h)) → (q ≢ Greater → NoEqual cmp k (row_pairs r)) → RowKeyUncached cmp k (row_put cmp k d r)
          → RowKeyUncached cmp k (match_ordering q (node (held_lower cmp k h) k d (node (held_upper cmp k h) x e r)) (node h x d r) (node h x e (row_put cmp k d r)))
      by Less b c f =
          let s = sides h (map-first cmp (held_pairs h) ((x, e) ∷ row_pairs r) a) (gap_ne h p.0) in
          (s.0, (s.1, none-row cmp k r (c (λ q. absurd (cc)))))
      by Equal b c f = (none-held cmp k h (b (λ q. absurd (cc))), none-row cmp k r (c (λ q. absurd (cc))))
      by Greater b c f = (none-held cmp k h (b (λ q. absurd (cc))), f)

  mutual
    pub set-dropped : (t : Tree K D) → HasNode t → IsCanonical lev t → IsMap cmp (pairs t) → KeyUncached cmp k (tree_set cmp n k d t)
    set-dropped (page m c (high h)) w p a = absurd w
    set-dropped (page m c (node h x e r)) w p a =
        by (nat_cmp n m) (ranks n m) (sink-dropped m (node h x e r) p a) (λ q. put-dropped (node h x e r) (subst (λ j. IsRow lev j (node h x e r)) (sym q) p) a)
        (λ q. tree_sides (page m c (node h x e r)) a
        (no_equal-under cmp lev respects k n at (row_pairs (node h x e r))
        (Under-more lev (m + 1) n (omega arith) (row_pairs (node h x e r)) (Under-row lev m (node h x e r) p))))
      where
        by : (q : Ordering) → MatchOrdering q (n < m) (n ≡ m) (m < n)
            → RowKeyUncached cmp k (row_sink cmp n k d (node h x e r)) → (n ≡ m → RowKeyUncached cmp k (row_put cmp k d (node h x e r)))
            → (m < n → HeldKeyUncached cmp k (tree_lower cmp k (page m c (node h x e r))) × HeldKeyUncached cmp k (tree_upper cmp k (page m c (node h x e r))))
            → KeyUncached cmp k (match_ordering q (page m None (row_sink cmp n k d (node h x e r))) (page m None (row_put cmp k d (node h x e r))) (lifted cmp n k d (page m c (node h x e r))))
        by Less q f g i = f
        by Equal q f g i = g q
        by Greater q f g i = i q

    sink-dropped : (m : ℕ) (r : Row K D) → IsRow lev m r → IsMap cmp (row_pairs r) → RowKeyUncached cmp k (row_sink cmp n k d r)
    sink-dropped m (high h) p a = gap-dropped m h p a
    sink-dropped m (node h x e r) p a =
        by (cmp k x) (none-before cmp o k (held_pairs h) x e (row_pairs r) a) (none-after cmp o k (held_pairs h) x e (row_pairs r) a)
        (sink-dropped m r p.2 (map-rest cmp (held_pairs h) ((x, e) ∷ row_pairs r) a).1)
        (gap-dropped m h p.0 (map-first cmp (held_pairs h) ((x, e) ∷ row_pairs r) a))
      where
        by : (q : Ordering) → (q ≢ Less → NoEqual cmp k (held_pairs h)) → (q ≢ Greater → NoEqual cmp k (row_pairs r))
            → RowKeyUncached cmp k (row_sink cmp n k d r) → HeldKeyUncached cmp k (held_set cmp n k d h)
            → RowKeyUncached cmp k (match_ordering q (node (held_set cmp n k d h) x e r) (node h x d r) (node h x e (row_sink cmp n k d r)))
        by Less b c f g = (g, none-row cmp k r (c (λ q. absurd (cc))))
        by Equal b c f g = (none-held cmp k h (b (λ q. absurd (cc))), none-row cmp k r (c (λ q. absurd (cc))))
        by Greater b c f g = (none-held cmp k h (b (λ q. absurd (cc))), f)

    gap-dropped : (m : ℕ) (h : Held K D) → IsGap lev m h → IsMap cmp (held_pairs h) → HeldKeyUncached cmp k (held_set cmp n k d h)
    gap-dropped m nothing p a = (tt, tt)
    gap-dropped m (below t) p a = set-dropped t p.1 p.2 a

  pub set-dropped_root : (t : Tree K D) → IsCanonicalRoot lev t → IsMap cmp (pairs t) → KeyUncached cmp k (tree_set cmp n k d t)
  set-dropped_root (page m c (high nothing)) p a = (tt, tt)
  set-dropped_root (page m c (high (below t))) p a = absurd p
  set-dropped_root (page m c (node h x e r)) p a = set-dropped (page m c (node h x e r)) tt p a

  put-finds : (r : Row K D) → IsRow lev n r → IsMap cmp (row_pairs r) → has_key cmp (row_pairs r) k ≡ true → row_finds cmp n k d false r ≡ true
  put-finds (high h) p a e = sym (has_key-none cmp k (held_pairs h) (gap_ne h p)) ∙ e
  put-finds (node h x v r) p a e =
      by (cmp k x) refl (none-before cmp o k (held_pairs h) x v (row_pairs r) a) (none-after cmp o k (held_pairs h) x v (row_pairs r) a)
      (sym (has_key-append cmp k (held_pairs h) ((x, v) ∷ row_pairs r)) ∙ e) (put-finds r p.2 (map-rest cmp (held_pairs h) ((x, v) ∷ row_pairs r) a).1)
    where
      by : (q : Ordering) → cmp k x ≡ q → (q ≢ Less → NoEqual cmp k (held_pairs h)) → (q ≢ Greater → NoEqual cmp k (row_pairs r))
          → has_key cmp (held_pairs h) k || (is_eq q || has_key cmp (row_pairs r) k) ≡ true → (has_key cmp (row_pairs r) k ≡ true → row_finds cmp n k d false r ≡ true)
          → match_ordering q false true (row_finds cmp n k d false r) ≡ true
      by Less q b c e f =
          sym (has_key-none cmp k (held_pairs h) (gap_ne h p.0))
          ∙ or_first (has_key cmp (held_pairs h) k) false (has_key cmp (row_pairs r) k) e refl (has_key-none cmp k (row_pairs r) (c (λ w. absurd (cc))))
      by Equal q b c e f = refl
      by Greater q b c e f = f (or_rest (has_key cmp (held_pairs h) k) false (has_key cmp (row_pairs r) k) e (has_key-none cmp k (held_pairs h) (b (λ w. absurd (cc)))) refl)

  mutual
    pub set-finds : (t : Tree K D) → HasNode t → IsCanonical lev t → IsMap cmp (pairs t) → has_key cmp (pairs t) k ≡ true → tree_finds cmp n k d t ≡ true
    set-finds (page m c (high h)) w p a e = absurd w
    set-finds (page m c (node h x v r)) w p a e =
        by (nat_cmp n m) (ranks n m) (sink-finds m (node h x v r) p a e) (λ q. put-finds (node h x v r) (subst (λ j. IsRow lev j (node h x v r)) (sym q) p) a e)
        (λ q. sym (has_key-none cmp k (row_pairs (node h x v r))
        (no_equal-under cmp lev respects k n at (row_pairs (node h x v r))
        (Under-more lev (m + 1) n (omega arith) (row_pairs (node h x v r)) (Under-row lev m (node h x v r) p)))) ∙ e)
      where
        by : (q : Ordering) → MatchOrdering q (n < m) (n ≡ m) (m < n) → row_finds cmp n k d true (node h x v r) ≡ true
            → (n ≡ m → row_finds cmp n k d false (node h x v r) ≡ true) → (m < n → false ≡ true)
            → match_ordering q (row_finds cmp n k d true (node h x v r)) (row_finds cmp n k d false (node h x v r)) false ≡ true
        by Less q f g i = f
        by Equal q f g i = g q
        by Greater q f g i = i q

    sink-finds : (m : ℕ) (r : Row K D) → IsRow lev m r → IsMap cmp (row_pairs r) → has_key cmp (row_pairs r) k ≡ true → row_finds cmp n k d true r ≡ true
    sink-finds m (high h) p a e = gap-finds m h p a e
    sink-finds m (node h x v r) p a e =
        by (cmp k x) (none-before cmp o k (held_pairs h) x v (row_pairs r) a) (none-after cmp o k (held_pairs h) x v (row_pairs r) a)
        (sym (has_key-append cmp k (held_pairs h) ((x, v) ∷ row_pairs r)) ∙ e) (sink-finds m r p.2 (map-rest cmp (held_pairs h) ((x, v) ∷ row_pairs r) a).1)
        (gap-finds m h p.0 (map-first cmp (held_pairs h) ((x, v) ∷ row_pairs r) a))
      where
        by : (q : Ordering) → (q ≢ Less → NoEqual cmp k (held_pairs h)) → (q ≢ Greater → NoEqual cmp k (row_pairs r))
            → has_key cmp (held_pairs h) k || (is_eq q || has_key cmp (row_pairs r) k) ≡ true → (has_key cmp (row_pairs r) k ≡ true → row_finds cmp n k d true r ≡ true)
            → (has_key cmp (held_pairs h) k ≡ true → held_finds cmp n k d h ≡ true)
            → match_ordering q (held_finds cmp n k d h) true (row_finds cmp n k d true r) ≡ true
        by Less b c e f g = g (or_first (has_key cmp (held_pairs h) k) false (has_key cmp (row_pairs r) k) e refl (has_key-none cmp k (row_pairs r) (c (λ w. absurd (cc)))))
        by Equal b c e f g = refl
        by Greater b c e f g = f (or_rest (has_key cmp (held_pairs h) k) false (has_key cmp (row_pairs r) k) e (has_key-none cmp k (held_pairs h) (b (λ w. absurd (cc)))) refl)

    gap-finds : (m : ℕ) (h : Held K D) → IsGap lev m h → IsMap cmp (held_pairs h) → has_key cmp (held_pairs h) k ≡ true → held_finds cmp n k d h ≡ true
    gap-finds m nothing p a e = e
    gap-finds m (below t) p a e = set-finds t p.1 p.2 a e

  pub set-finds_root : (t : Tree K D) → IsCanonicalRoot lev t → IsMap cmp (pairs t) → has_key cmp (pairs t) k ≡ true → tree_finds cmp n k d t ≡ true
  set-finds_root (page m c (high nothing)) p a e = e
  set-finds_root (page m c (high (below t))) p a e = absurd p
  set-finds_root (page m c (node h x v r)) p a e = set-finds (page m c (node h x v r)) tt p a e
