-- In format 2, without collisions, equal digests of pages tell that the maps of their subtrees are equal.
use Rattle.std.proofs.Common.{◌≡◌, ℕ, ◌<◌, ◌^◌, List, [], ◌∷◌, length, inl, inr, refl, ap, sym, subst, ◌∙◌}
use Rattle.std.specs.List.{AllByRecursion}
use Rattle.std.specs.declared.cmp.Ordering.{Ordering}
use Rattle.std.specs.Cmp.{IsTotalOrder}
use Rattle.key_order.specs.Order.{Same}
use Rattle.key_order.specs.Map.{SameMap}
use Rattle.key_order.proofs.SameMaps.{same_across, same-append}
use Rattle.key_order.proofs.ListParts.{each-before, each-behind}
use Rattle.merkle_tree_theory.specs.Tree.{Tree, page, Row, high, node, Held, nothing, below}
use Rattle.merkle_tree_theory.specs.Page.{pairs, row_pairs, held_pairs, nodes_of}
use Rattle.merkle_tree_theory.specs.Canonical.{IsTreeOf}
use Rattle.merkle_tree_theory.specs.Ranges.{IsPageOf, IsPageIn, IsPageInRow, IsPageInHeld}
use Rattle.merkle_tree_theory.specs.declared.page_format.PageFormat.TheVariants.{V2}
use Rattle.merkle_tree_theory.specs.Stream.{page_digest, stream_of}
use Rattle.merkle_tree_theory.proofs.EqualStreams.{SameBelow, SameParts}
use Rattle.merkle_tree_theory.specs.Faithful.{IsSmall, NoCollision, HasFaithfulPages}
use Rattle.merkle_tree_theory.proofs.StreamParts.{RowMeasured, page_tells}
use Rattle.merkle_tree_theory.proofs.PagesIn.{itself, page_in, pairs_down, inside}

module _ {K : Type 0} (cmp : K → K → Ordering) (bytes_of : K → List ℕ) (n : ℕ) where
  abbrev Measured : K × List ℕ → Type 0
  Measured p = (length (bytes_of p.0) < 2 ^ 64) × (length p.1 ≡ n)

  row_measured : (r : Row K (List ℕ)) → AllByRecursion Measured (row_pairs r) → RowMeasured bytes_of n r
  row_measured (high h) a = tt
  row_measured (node h k d r) a = let b = each-behind Measured (held_pairs h) ((k, d) ∷ row_pairs r) a in (b.0.0, b.0.1, row_measured r b.1)

  module _ (tell : (x y : K) → bytes_of x ≡ bytes_of y → Same cmp x y) (A B : Tree K (List ℕ) → Type 0)
      (small_a : (s : Tree K (List ℕ)) → A s → length (nodes_of s) < 2 ^ 64) (small_b : (s : Tree K (List ℕ)) → B s → length (nodes_of s) < 2 ^ 64)
      (no_collision : (s t : Tree K (List ℕ)) → A s → B t → page_digest V2 bytes_of s ≡ page_digest V2 bytes_of t → stream_of V2 bytes_of s ≡ stream_of V2 bytes_of t) where
    mutual
      -- where every page of one tree is in A, and of the other in B
      pub tree_same : (s t : Tree K (List ℕ)) → ((x : Tree K (List ℕ)) → IsPageIn x s → A x) → ((x : Tree K (List ℕ)) → IsPageIn x t → B x)
          → AllByRecursion Measured (pairs s) → AllByRecursion Measured (pairs t) → page_digest V2 bytes_of s ≡ page_digest V2 bytes_of t → SameMap cmp (λ d e. d ≡ e) (pairs s) (pairs t)
      tree_same (page l c r) (page l' c' r') in_a in_b m m' e =
          let a = in_a (page l c r) (inl refl) in
          let b = in_b (page l' c' r') (inl refl) in
          let w = page_tells bytes_of n l l' r r' c c' (small_a (page l c r) a) (small_b (page l' c' r') b) (row_measured r m) (row_measured r' m') (no_collision (page l c r) (page l' c' r') a b e) in
          row_same r r' (λ x p. in_a x (inr p)) (λ x p. in_b x (inr p)) m m' w.2

      row_same : (r r' : Row K (List ℕ)) → ((x : Tree K (List ℕ)) → IsPageInRow x r → A x) → ((x : Tree K (List ℕ)) → IsPageInRow x r' → B x)
          → AllByRecursion Measured (row_pairs r) → AllByRecursion Measured (row_pairs r') → SameParts V2 bytes_of r r' → SameMap cmp (λ d e. d ≡ e) (row_pairs r) (row_pairs r')
      row_same (high h) (high h') in_a in_b m m' w = held_same h h' in_a in_b m m' w
      row_same (high h) (node h' k' d' r') in_a in_b m m' w = absurd w
      row_same (node h k d r) (high h') in_a in_b m m' w = absurd w
      row_same (node h k d r) (node h' k' d' r') in_a in_b m m' w =
          same-append cmp (held_pairs h) ((k, d) ∷ row_pairs r) (held_pairs h') ((k', d') ∷ row_pairs r')
          (held_same h h' (λ x p. in_a x (inl p)) (λ x p. in_b x (inl p)) (each-before Measured (held_pairs h) ((k, d) ∷ row_pairs r) m)
          (each-before Measured (held_pairs h') ((k', d') ∷ row_pairs r') m') w.0) (
            tell k k' w.1,
            w.2,
            row_same r r' (λ x p. in_a x (inr p)) (λ x p. in_b x (inr p)) (each-behind Measured (held_pairs h) ((k, d) ∷ row_pairs r) m).1
                (each-behind Measured (held_pairs h') ((k', d') ∷ row_pairs r') m').1 w.3,
          )

      held_same : (h h' : Held K (List ℕ)) → ((x : Tree K (List ℕ)) → IsPageInHeld x h → A x) → ((x : Tree K (List ℕ)) → IsPageInHeld x h' → B x)
          → AllByRecursion Measured (held_pairs h) → AllByRecursion Measured (held_pairs h') → SameBelow V2 bytes_of h h' → SameMap cmp (λ d e. d ≡ e) (held_pairs h) (held_pairs h')
      held_same nothing nothing in_a in_b m m' w = tt
      held_same nothing (below t') in_a in_b m m' w = absurd w
      held_same (below t) nothing in_a in_b m m' w = absurd w
      held_same (below t) (below t') in_a in_b m m' w = tree_same t t' in_a in_b m m' w

  module _ (digest_of : K → List ℕ) (base : ℕ) (respects : (x y : K) → Same cmp x y → bytes_of x ≡ bytes_of y) where
    -- the pairs of a tree of a small map
    tree_measured : (ps m : List (K × List ℕ)) → SameMap cmp (λ d e. d ≡ e) ps m → AllByRecursion (λ p. length (bytes_of p.0) < 2 ^ 64) m
        → AllByRecursion (λ p. length p.1 ≡ n) m → AllByRecursion Measured ps
    tree_measured [] m s a b = tt
    tree_measured (p ∷ ps) [] s a b = absurd s
    tree_measured (p ∷ ps) (q ∷ qs) s a b = (
      (subst (λ xs. length xs < 2 ^ 64) (sym (respects p.0 q.0 s.0)) a.0, ap length s.1 ∙ b.0),
      tree_measured ps qs s.2 a.1 b.1,
    )

    -- the page part of faithful digests
    pub faithful_pages : ((x y : K) → bytes_of x ≡ bytes_of y → Same cmp x y) → (a b : List (K × List ℕ)) → IsSmall cmp digest_of base bytes_of n a → IsSmall cmp digest_of base bytes_of n b
        → NoCollision cmp digest_of base V2 bytes_of a b
        → HasFaithfulPages cmp (IsPageOf cmp digest_of base) (IsPageOf cmp digest_of base) (page_digest V2 bytes_of) (page_digest V2 bytes_of) pairs a b
    faithful_pages tell a b f g no_collision s t (u, is_u, in_u) (v, is_v, in_v) e =
        tree_same tell (λ x. IsPageOf cmp digest_of base x a) (λ x. IsPageOf cmp digest_of base x b) f.pages g.pages no_collision s t
        (λ x p. (u, is_u, page_in x s u p in_u)) (λ x p. (v, is_v, page_in x t v p in_v))
        (inside (pairs_down Measured) s u (tree_measured (pairs u) a is_u.1 f.keys f.digests) in_u) (inside (pairs_down Measured) t v (tree_measured (pairs v) b is_v.1 g.keys g.digests) in_v) e

module _ {K : Type 0} (cmp : K → K → Ordering) (o : IsTotalOrder cmp) where
  -- equal digests of root pages tell that the maps are equal
  pub roots_tell : (bytes_of : K → List ℕ) (digest_of : K → List ℕ) (base : ℕ) (a b : List (K × List ℕ))
      → HasFaithfulPages cmp (IsPageOf cmp digest_of base) (IsPageOf cmp digest_of base) (page_digest V2 bytes_of) (page_digest V2 bytes_of) pairs a b
      → (t u : Tree K (List ℕ)) → IsTreeOf cmp digest_of base t a → IsTreeOf cmp digest_of base u b → page_digest V2 bytes_of t ≡ page_digest V2 bytes_of u → SameMap cmp (λ d e. d ≡ e) a b
  roots_tell bytes_of digest_of base a b faithful t u f g e = same_across cmp o (pairs t) (pairs u) a b f.1 g.1 (faithful t u (t, f, itself t) (u, g, itself u) e)
