-- What an upsert does to the map.
use Rattle.std.proofs.Common.{◌≡◌, ℕ, ◌+◌, ◌<◌, List, [], ◌∷◌, ◌++◌, Bool, true, false, if◌then◌else◌, Option, None, refl, ap, sym, subst, ◌∙◌, append_assoc, append-nil, arith}
use Rattle.std.specs.declared.cmp.Ordering.{Ordering}
use Rattle.std.specs.declared.cmp.Ordering.TheVariants.{Less, Equal, Greater}
use Rattle.std.specs.Ordering.{is_gt, match_ordering, nat_cmp, MatchOrdering}
use Rattle.std.specs.Cmp.{IsTotalOrder, ranks}
use Rattle.merkle_tree_theory.specs.Tree.{Tree, page, Row, high, node, Held, nothing, below}
use Rattle.merkle_tree_theory.specs.Page.{pairs, row_pairs, held_pairs}
use Rattle.merkle_tree_theory.specs.Canonical.{HasNode, IsCanonical, IsRow, IsGap, IsCanonicalRoot}
use Rattle.key_order.specs.Map.{IsMap, set}
use Rattle.merkle_tree_theory.specs.Upsert.{as_held, row_digest_beside, lower, upper, held_lower, held_upper, tree_lower, tree_upper, row_put, row_sink, held_set, tree_set, lifted}
use Rattle.merkle_tree_theory.proofs.Unique.{Under, Under-more, Under-row, Under-gap}
use Rattle.key_order.proofs.Dels.{NoEqual}
use Rattle.key_order.proofs.Orders.{same_down, low_is_up, turned}
use Rattle.key_order.proofs.ListParts.{map-before, map-first, map-rest}
use Rattle.merkle_tree_theory.proofs.MapAtKey.{AllAbove, AllBelow, above-append, below-append, no_equal-first, no_equal-rest, no_equal-under, set-stop, set-front, set-pass, below-more, above-more, less-below, less-upto, greater-upto, not_above}

module _ {K D : Type 0} where
  pub as_held-pairs : (l : ℕ) (c : Option (List ℕ)) (r : Row K D) → held_pairs (as_held l c r) ≡ row_pairs r
  as_held-pairs l c (high h) = refl
  as_held-pairs l c (node h k d r) = refl

module _ {K D : Type 0} (cmp : K → K → Ordering) (at : K) where
  -- no pair is lost
  mutual
    pub split-pairs : (r : Row K D) → row_pairs (lower cmp at r) ++ row_pairs (upper cmp at r) ≡ row_pairs r
    split-pairs (high h) = held_split-pairs h
    split-pairs (node h k d r) = by (is_gt (cmp at k)) (split-pairs r) (held_split-pairs h)
      where
        by : (b : Bool) → row_pairs (lower cmp at r) ++ row_pairs (upper cmp at r) ≡ row_pairs r → held_pairs (held_lower cmp at h) ++ held_pairs (held_upper cmp at h) ≡ held_pairs h
            → row_pairs (if b then (node h k d (lower cmp at r)) else (high (held_lower cmp at h))) ++ row_pairs
            (if b then (upper cmp at r) else (node (held_upper cmp at h) k d r)) ≡ held_pairs h ++ (k, d) ∷ row_pairs r
        by true p q = append_assoc (held_pairs h) ((k, d) ∷ row_pairs (lower cmp at r)) (row_pairs (upper cmp at r)) ∙ ap (λ xs. held_pairs h ++ (k, d) ∷ xs) p
        by false p q = sym (append_assoc (held_pairs (held_lower cmp at h)) (held_pairs (held_upper cmp at h)) ((k, d) ∷ row_pairs r)) ∙ ap (λ xs. xs ++ (k, d) ∷ row_pairs r) q

    pub held_split-pairs : (h : Held K D) → held_pairs (held_lower cmp at h) ++ held_pairs (held_upper cmp at h) ≡ held_pairs h
    held_split-pairs nothing = refl
    held_split-pairs (below t) = tree_split-pairs t

    pub tree_split-pairs : (t : Tree K D) → held_pairs (tree_lower cmp at t) ++ held_pairs (tree_upper cmp at t) ≡ pairs t
    tree_split-pairs (page l c (high h)) = held_split-pairs h
    tree_split-pairs (page l c (node h k d r)) =
        (λ i. as_held-pairs l (row_digest_beside (upper cmp at (node h k d r)) c) (lower cmp at (node h k d r)) i
        ++ as_held-pairs l (row_digest_beside (lower cmp at (node h k d r)) c) (upper cmp at (node h k d r)) i)
        ∙ split-pairs (node h k d r)

module _ {K D : Type 0} (cmp : K → K → Ordering) (o : IsTotalOrder cmp) (at : K) where
  -- the two parts of what has no key equal to this one stand below and above it
  mutual
    pub split-sides : (r : Row K D) → IsMap cmp (row_pairs r) → NoEqual cmp at (row_pairs r) → AllBelow cmp at (row_pairs (lower cmp at r)) × AllAbove cmp at (row_pairs (upper cmp at r))
    split-sides (high h) a ne = held_split-sides h a ne
    split-sides (node h k d r) a ne =
        by (is_gt (cmp at k)) refl
        (split-sides r rest.1 (no_equal-rest cmp at (held_pairs h) ((k, d) ∷ row_pairs r) ne).1)
        (held_split-sides h (map-first cmp (held_pairs h) ((k, d) ∷ row_pairs r) a) (no_equal-first cmp at (held_pairs h) ((k, d) ∷ row_pairs r) ne))
      where
        rest : IsMap cmp ((k, d) ∷ row_pairs r)
        rest = map-rest cmp (held_pairs h) ((k, d) ∷ row_pairs r) a

        by : (b : Bool) → is_gt (cmp at k) ≡ b → AllBelow cmp at (row_pairs (lower cmp at r)) × AllAbove cmp at (row_pairs (upper cmp at r))
            → AllBelow cmp at (held_pairs (held_lower cmp at h)) × AllAbove cmp at (held_pairs (held_upper cmp at h))
            → AllBelow cmp at (row_pairs (if b then (node h k d (lower cmp at r)) else (high (held_lower cmp at h))))
            × AllAbove cmp at (row_pairs (if b then (upper cmp at r) else (node (held_upper cmp at h) k d r)))
        by true e s u =
            let g = turned cmp o at k ∙ e in (
              below-append cmp at (held_pairs h) ((k, d) ∷ row_pairs (lower cmp at r))
                  (below-more cmp o at k (held_pairs h) (low_is_up cmp o k at g) (map-before cmp (held_pairs h) (k, d) (row_pairs r) a)) (g, s.0),
              s.1,
            )
        by false e s u =
            let l = not_above (cmp at k) (no_equal-rest cmp at (held_pairs h) ((k, d) ∷ row_pairs r) ne).0 e in
            (u.0, above-append cmp at (held_pairs (held_upper cmp at h)) ((k, d) ∷ row_pairs r) u.1 (l, above-more cmp o at k (row_pairs r) (low_is_up cmp o at k l) rest.0))

    pub held_split-sides : (h : Held K D) → IsMap cmp (held_pairs h) → NoEqual cmp at (held_pairs h) → AllBelow cmp at (held_pairs (held_lower cmp at h))
        × AllAbove cmp at (held_pairs (held_upper cmp at h))
    held_split-sides nothing a ne = (tt, tt)
    held_split-sides (below t) a ne = tree_split-sides t a ne

    pub tree_split-sides : (t : Tree K D) → IsMap cmp (pairs t) → NoEqual cmp at (pairs t) → AllBelow cmp at (held_pairs (tree_lower cmp at t)) × AllAbove cmp at (held_pairs (tree_upper cmp at t))
    tree_split-sides (page l c (high h)) a ne = held_split-sides h a ne
    tree_split-sides (page l c (node h k d r)) a ne =
        let s = split-sides (node h k d r) a ne in (
          subst (AllBelow cmp at) (sym (as_held-pairs l (row_digest_beside (upper cmp at (node h k d r)) c) (lower cmp at (node h k d r)))) s.0,
          subst (AllAbove cmp at) (sym (as_held-pairs l (row_digest_beside (lower cmp at (node h k d r)) c) (upper cmp at (node h k d r)))) s.1,
        )

module _ {K D : Type 0} (cmp : K → K → Ordering) (o : IsTotalOrder cmp) (lev : K → ℕ) (respects : (a b : K) → cmp a b ≡ Equal → lev a ≡ lev b) (n : ℕ) (k : K) (d : D) (at : lev k ≡ n) where
  -- a part below the key, it, and a part above it, in front of what is above it
  joined : (xs ys zs ps : List (K × D)) → xs ++ ys ≡ ps → AllBelow cmp k xs → AllAbove cmp k ys → AllAbove cmp k zs → xs ++ (k, d) ∷ (ys ++ zs) ≡ set cmp (ps ++ zs) k d
  joined xs ys zs ps e a b c =
      sym (ap (λ ws. set cmp ws k d) (ap (λ ws. ws ++ zs) (sym e) ∙ append_assoc xs ys zs) ∙ set-pass cmp o k d xs (ys ++ zs) a
      ∙ ap (λ ws. xs ++ ws) (set-stop cmp k d (ys ++ zs) (above-append cmp k ys zs b c)))

  pub put-pairs : (r : Row K D) → IsRow lev n r → IsMap cmp (row_pairs r) → row_pairs (row_put cmp k d r) ≡ set cmp (row_pairs r) k d
  put-pairs (high h) p a =
      let s = held_split-sides cmp o k h a (no_equal-under cmp lev respects k n at (held_pairs h) (Under-gap lev n h p)) in
      ap (λ ws. held_pairs (held_lower cmp k h) ++ (k, d) ∷ ws) (sym (append-nil (held_pairs (held_upper cmp k h))))
      ∙ joined (held_pairs (held_lower cmp k h)) (held_pairs (held_upper cmp k h)) [] (held_pairs h) (held_split-pairs cmp k h) s.0 s.1 tt ∙ ap (λ ws. set cmp ws k d) (append-nil (held_pairs h))
  put-pairs (node h x e r) p a = by (cmp k x) refl (put-pairs r p.2 rest.1)
    where
      rest : IsMap cmp ((x, e) ∷ row_pairs r)
      rest = map-rest cmp (held_pairs h) ((x, e) ∷ row_pairs r) a

      behind : AllBelow cmp x (held_pairs h)
      behind = map-before cmp (held_pairs h) (x, e) (row_pairs r) a

      by : (q : Ordering) → cmp k x ≡ q → row_pairs (row_put cmp k d r) ≡ set cmp (row_pairs r) k d
          → row_pairs (match_ordering q (node (held_lower cmp k h) k d (node (held_upper cmp k h) x e r)) (node h x d r)
          (node h x e (row_put cmp k d r))) ≡ set cmp (held_pairs h ++ (x, e) ∷ row_pairs r) k d
      by Less q f =
          let s = held_split-sides cmp o k h (map-first cmp (held_pairs h) ((x, e) ∷ row_pairs r) a) (no_equal-under cmp lev respects k n at (held_pairs h) (Under-gap lev n h p.0)) in
          joined (held_pairs (held_lower cmp k h)) (held_pairs (held_upper cmp k h)) ((x, e) ∷ row_pairs r) (held_pairs h) (held_split-pairs cmp k h) s.0 s.1
          (less-below cmp k x q, above-more cmp o k x (row_pairs r) (less-upto cmp k x q) rest.0)
      by Equal q f =
          sym (set-pass cmp o k d (held_pairs h) ((x, e) ∷ row_pairs r) (below-more cmp o k x (held_pairs h) (same_down cmp o k x q) behind)
          ∙ ap (λ w. held_pairs h ++ match_ordering w ((k, d) ∷ (x, e) ∷ row_pairs r) ((x, d) ∷ row_pairs r) ((x, e) ∷ set cmp (row_pairs r) k d)) q)
      by Greater q f =
          ap (λ ws. held_pairs h ++ (x, e) ∷ ws) f
          ∙ sym (set-pass cmp o k d (held_pairs h) ((x, e) ∷ row_pairs r) (below-more cmp o k x (held_pairs h) (greater-upto cmp o k x q) behind)
          ∙ ap (λ w. held_pairs h ++ match_ordering w ((k, d) ∷ (x, e) ∷ row_pairs r) ((x, d) ∷ row_pairs r) ((x, e) ∷ set cmp (row_pairs r) k d)) q)

  pub lifted-pairs : (m : ℕ) (t : Tree K D) → m < n → Under lev (m + 1) (pairs t) → IsMap cmp (pairs t) → pairs (lifted cmp n k d t) ≡ set cmp (pairs t) k d
  lifted-pairs m t r u a =
      let s = tree_split-sides cmp o k t a (no_equal-under cmp lev respects k n at (pairs t) (Under-more lev (m + 1) n (omega arith) (pairs t) u)) in
      ap (λ ws. held_pairs (tree_lower cmp k t) ++ (k, d) ∷ ws) (sym (append-nil (held_pairs (tree_upper cmp k t))))
      ∙ joined (held_pairs (tree_lower cmp k t)) (held_pairs (tree_upper cmp k t)) [] (pairs t) (tree_split-pairs cmp k t) s.0 s.1 tt ∙ ap (λ ws. set cmp ws k d) (append-nil (pairs t))

  mutual
    pub set-pairs : (t : Tree K D) → HasNode t → IsCanonical lev t → IsMap cmp (pairs t) → pairs (tree_set cmp n k d t) ≡ set cmp (pairs t) k d
    set-pairs (page m c (high h)) w p a = absurd w
    set-pairs (page m c (node h x e r)) w p a =
        by (nat_cmp n m) (ranks n m) (sink-pairs m (node h x e r) p a) (λ q. put-pairs (node h x e r) (subst (λ l. IsRow lev l (node h x e r)) (sym q) p) a)
        (λ q. lifted-pairs m (page m c (node h x e r)) q (Under-row lev m (node h x e r) p) a)
      where
        by : (q : Ordering) → MatchOrdering q (n < m) (n ≡ m) (m < n)
            → row_pairs (row_sink cmp n k d (node h x e r)) ≡ set cmp (row_pairs (node h x e r)) k d
            → (n ≡ m → row_pairs (row_put cmp k d (node h x e r)) ≡ set cmp (row_pairs (node h x e r)) k d)
            → (m < n → pairs (lifted cmp n k d (page m c (node h x e r))) ≡ set cmp (row_pairs (node h x e r)) k d)
            → pairs (match_ordering q (page m None (row_sink cmp n k d (node h x e r))) (page m None (row_put cmp k d (node h x e r)))
            (lifted cmp n k d (page m c (node h x e r)))) ≡ set cmp (row_pairs (node h x e r)) k d
        by Less q f g i = f
        by Equal q f g i = g q
        by Greater q f g i = i q

    pub sink-pairs : (m : ℕ) (r : Row K D) → IsRow lev m r → IsMap cmp (row_pairs r) → row_pairs (row_sink cmp n k d r) ≡ set cmp (row_pairs r) k d
    sink-pairs m (high h) p a = gap-pairs m h p a
    sink-pairs m (node h x e r) p a = by (cmp k x) refl (sink-pairs m r p.2 rest.1) (gap-pairs m h p.0 (map-first cmp (held_pairs h) ((x, e) ∷ row_pairs r) a))
      where
        rest : IsMap cmp ((x, e) ∷ row_pairs r)
        rest = map-rest cmp (held_pairs h) ((x, e) ∷ row_pairs r) a

        behind : AllBelow cmp x (held_pairs h)
        behind = map-before cmp (held_pairs h) (x, e) (row_pairs r) a

        by : (q : Ordering) → cmp k x ≡ q → row_pairs (row_sink cmp n k d r) ≡ set cmp (row_pairs r) k d → held_pairs (held_set cmp n k d h) ≡ set cmp (held_pairs h) k d
            → row_pairs (match_ordering q (node (held_set cmp n k d h) x e r) (node h x d r) (node h x e (row_sink cmp n k d r))) ≡ set cmp (held_pairs h ++ (x, e) ∷ row_pairs r) k d
        by Less q f g = ap (λ ws. ws ++ (x, e) ∷ row_pairs r) g
            ∙ sym (set-front cmp k d (held_pairs h) ((x, e) ∷ row_pairs r) (less-below cmp k x q, above-more cmp o k x (row_pairs r) (less-upto cmp k x q) rest.0))
        by Equal q f g =
            sym (set-pass cmp o k d (held_pairs h) ((x, e) ∷ row_pairs r) (below-more cmp o k x (held_pairs h) (same_down cmp o k x q) behind)
            ∙ ap (λ w. held_pairs h ++ match_ordering w ((k, d) ∷ (x, e) ∷ row_pairs r) ((x, d) ∷ row_pairs r) ((x, e) ∷ set cmp (row_pairs r) k d)) q)
        by Greater q f g =
            ap (λ ws. held_pairs h ++ (x, e) ∷ ws) f
            ∙ sym (set-pass cmp o k d (held_pairs h) ((x, e) ∷ row_pairs r) (below-more cmp o k x (held_pairs h) (greater-upto cmp o k x q) behind)
            ∙ ap (λ w. held_pairs h ++ match_ordering w ((k, d) ∷ (x, e) ∷ row_pairs r) ((x, d) ∷ row_pairs r) ((x, e) ∷ set cmp (row_pairs r) k d)) q)

    pub gap-pairs : (m : ℕ) (h : Held K D) → IsGap lev m h → IsMap cmp (held_pairs h) → held_pairs (held_set cmp n k d h) ≡ set cmp (held_pairs h) k d
    gap-pairs m nothing p a = refl
    gap-pairs m (below t) p a = set-pairs t p.1 p.2 a

  pub set-pairs_root : (t : Tree K D) → IsCanonicalRoot lev t → IsMap cmp (pairs t) → pairs (tree_set cmp n k d t) ≡ set cmp (pairs t) k d
  set-pairs_root (page m c (high nothing)) p a = refl
  set-pairs_root (page m c (high (below t))) p a = absurd p
  set-pairs_root (page m c (node h x e r)) p a = set-pairs (page m c (node h x e r)) tt p a
