-- Pages that are the same, apart from the caches, are canonical alike, and have the same digest.
use Rattle.std.proofs.Common.{◌≡◌, ℕ, suc, ◌<◌, List, ◌++◌, length, refl, ap, sym, subst, ◌∙◌}
use Rattle.merkle_digest.specs.SipHash.{siphash128, zero_key}
use Rattle.std.specs.Cmp.{IsTotalOrder, tied_back}
use Rattle.std.specs.declared.cmp.Ordering.{Ordering}
use Rattle.key_order.specs.Order.{Same}
use Rattle.merkle_tree_theory.specs.Tree.{Tree, page, Row, high, node, Held, nothing, below}
use Rattle.merkle_tree_theory.specs.Page.{level, row_nodes}
use Rattle.merkle_tree_theory.specs.Canonical.{HasNode, IsCanonical, IsRow, IsGap, IsCanonicalRoot, SamePages, SameRow, SameHeld}
use Rattle.merkle_tree_theory.specs.Stream.{page_digest, stream_of, row_stream, held_stream, head_bytes, below_bytes, key_bytes}
use Rattle.merkle_tree_theory.specs.declared.page_format.PageFormat.{PageFormat}

module _ {K D : Type 0} (cmp : K → K → Ordering) where
  -- rows that are the same have as many nodes
  pub same_count : (r r' : Row K D) → SameRow cmp r r' → length (row_nodes r) ≡ length (row_nodes r')
  same_count (high h) (high h') s = refl
  same_count (high h) (node h' k' d' r') s = absurd s
  same_count (node h k d r) (high h') s = absurd s
  same_count (node h k d r) (node h' k' d' r') s = ap (λ n. suc n) (same_count r r' s.3)

module _ {K D : Type 0} (cmp : K → K → Ordering) (lev : K → ℕ) (respects : (a b : K) → Same cmp a b → lev a ≡ lev b) where
  same-node : (t u : Tree K D) → SamePages cmp t u → HasNode t → HasNode u
  same-node (page l c (high h)) u a w = absurd w
  same-node (page l c (node h k d r)) (page l' c' (high h')) a w = absurd a.2
  same-node (page l c (node h k d r)) (page l' c' (node h' k' d' r')) a w = tt

  same-level : (t u : Tree K D) → SamePages cmp t u → level t ≡ level u
  same-level (page l c r) (page l' c' r') a = a.0

  mutual
    same-canonical : (t u : Tree K D) → SamePages cmp t u → IsCanonical lev t → IsCanonical lev u
    same-canonical (page l c r) (page l' c' r') a p = subst (λ m. IsRow lev m r') a.0 (row_same-canonical l r r' a.2 p)

    row_same-canonical : (l : ℕ) (r s : Row K D) → SameRow cmp r s → IsRow lev l r → IsRow lev l s
    row_same-canonical l (high h) (high h') a p = held_same-canonical l h h' a p
    row_same-canonical l (high h) (node h' k' d' r') a p = absurd a
    row_same-canonical l (node h k d r) (high h') a p = absurd a
    row_same-canonical l (node h k d r) (node h' k' d' r') a p = (held_same-canonical l h h' a.0 p.0, sym (respects k k' a.1) ∙ p.1, row_same-canonical l r r' a.3 p.2)

    held_same-canonical : (l : ℕ) (h g : Held K D) → SameHeld cmp h g → IsGap lev l h → IsGap lev l g
    held_same-canonical l nothing nothing a p = tt
    held_same-canonical l nothing (below t') a p = absurd a
    held_same-canonical l (below t) nothing a p = absurd a
    held_same-canonical l (below t) (below t') a p = (subst (λ n. n < l) (same-level t t' a) p.0, same-node t t' a p.1, same-canonical t t' a p.2)

  -- what is the same as a canonical root is a canonical root
  pub same-root : (t u : Tree K D) → SamePages cmp t u → IsCanonicalRoot lev t → IsCanonicalRoot lev u
  same-root (page l c (high nothing)) (page l' c' (high nothing)) a p = sym a.0 ∙ p
  same-root (page l c (high nothing)) (page l' c' (high (below t'))) a p = absurd a.2
  same-root (page l c (high nothing)) (page l' c' (node h' k' d' r')) a p = absurd a.2
  same-root (page l c (high (below t))) u a p = absurd p
  same-root (page l c (node h k d r)) (page l' c' (high h')) a p = absurd a.2
  same-root (page l c (node h k d r)) (page l' c' (node h' k' d' r')) a p = same-canonical (page l c (node h k d r)) (page l' c' (node h' k' d' r')) a p

module _ {K D : Type 0} (cmp : K → K → Ordering) (o : IsTotalOrder cmp) where
  mutual
    -- sameness of pages can be turned
    pub same-back : (t u : Tree K D) → SamePages cmp t u → SamePages cmp u t
    same-back (page l c r) (page l' c' r') a = (sym a.0, tt, row_same-back r r' a.2)

    row_same-back : (r s : Row K D) → SameRow cmp r s → SameRow cmp s r
    row_same-back (high h) (high h') a = held_same-back h h' a
    row_same-back (high h) (node h' k' d' r') a = absurd a
    row_same-back (node h k d r) (high h') a = absurd a
    row_same-back (node h k d r) (node h' k' d' r') a = (held_same-back h h' a.0, tied_back o k k' a.1, sym a.2, row_same-back r r' a.3)

    held_same-back : (h g : Held K D) → SameHeld cmp h g → SameHeld cmp g h
    held_same-back nothing nothing a = tt
    held_same-back nothing (below t') a = absurd a
    held_same-back (below t) nothing a = absurd a
    held_same-back (below t) (below t') a = same-back t t' a

module _ {K : Type 0} (cmp : K → K → Ordering) (format : PageFormat) (b : K → List ℕ) (respects : (x y : K) → Same cmp x y → b x ≡ b y) where
  mutual
    same_stream : (t t' : Tree K (List ℕ)) → SamePages cmp t t' → stream_of format b t ≡ stream_of format b t'
    same_stream (page l c r) (page l' c' r') s = λ i. head_bytes format (s.0 i) (same_count cmp r r' s.2 i) ++ same_row r r' s.2 i

    same_row : (r r' : Row K (List ℕ)) → SameRow cmp r r' → row_stream format b r ≡ row_stream format b r'
    same_row (high h) (high h') s = same_held h h' s
    same_row (high h) (node h' k' d' r') s = absurd s
    same_row (node h k d r) (high h') s = absurd s
    same_row (node h k d r) (node h' k' d' r') s = λ i. ((same_held h h' s.0 i ++ key_bytes format (respects k k' s.1 i)) ++ s.2 i) ++ same_row r r' s.3 i

    same_held : (h h' : Held K (List ℕ)) → SameHeld cmp h h' → held_stream format b h ≡ held_stream format b h'
    same_held nothing nothing s = refl
    same_held nothing (below t') s = absurd s
    same_held (below t) nothing s = absurd s
    same_held (below t) (below t') s = ap (λ stream. below_bytes format (siphash128 zero_key stream)) (same_stream t t' s)

  pub same_digest : (t t' : Tree K (List ℕ)) → SamePages cmp t t' → page_digest format b t ≡ page_digest format b t'
  same_digest t t' s = ap (siphash128 zero_key) (same_stream t t' s)
