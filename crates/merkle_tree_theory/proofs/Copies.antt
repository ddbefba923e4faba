-- Copies of pages.
use Rattle.std.proofs.Common.{◌≡◌, ℕ, List, [], ◌∷◌, Option, Some, None, ap, sym, ◌∙◌}
use Rattle.std.specs.Prelude.{⊤}
use Rattle.std.specs.List.{AllZip}
use Rattle.std.specs.declared.cmp.Ordering.{Ordering}
use Rattle.key_order.specs.Order.{Same}
use Rattle.merkle_tree_theory.specs.Tree.{Tree, page, Row, high, node, Held, nothing, below, Node, row}
use Rattle.merkle_tree_theory.specs.Page.{cache}
use Rattle.merkle_tree_theory.specs.Alike.{AreAlike, RowsAreAlike, HeldAreAlike}
use Rattle.merkle_tree_theory.specs.Canonical.{SamePages}
use Rattle.merkle_tree_theory.specs.Cache.{CachesHold, RowCachesHold, HeldCachesHold, HasCache, EachHasCache}
use Rattle.merkle_tree_theory.specs.Copy.{IsCopy, RowIsCopy, HeldIsCopy, NodeIsCopy}
use Rattle.merkle_tree_theory.specs.declared.page_format.PageFormat.{PageFormat}
use Rattle.merkle_tree_theory.proofs.Same.{same_digest}

module _ {K D : Type 0} (R : K → K → Type 0) (S : D → D → Type 0) where
  -- copies of the nodes and of the high page make a copy of the row
  pub copy-row : (xs ys : List (Node K D)) (g h : Held K D) → AllZip (NodeIsCopy R S) xs ys → HeldIsCopy R S g h → RowIsCopy R S (row xs g) (row ys h)
  copy-row [] [] g h a b = b
  copy-row [] (y ∷ ys) g h a b = absurd a
  copy-row (x ∷ xs) [] g h a b = absurd a
  copy-row (x ∷ xs) (y ∷ ys) g h a b = (a.0.0, a.0.1, a.0.2, copy-row xs ys g h a.1 b)

module _ {K D : Type 0} (C C' : Option (List ℕ) → Option (List ℕ) → Type 0) (e : (x y : Option (List ℕ)) → C x y → C' x y) (R R' : K → K → Type 0) (f : (x y : K) → R x y → R' x y)
    (S S' : D → D → Type 0) (g : (x y : D) → S x y → S' x y) where
  mutual
    -- pages that are alike under stronger relations
    pub alike-weaker : (t u : Tree K D) → AreAlike C R S t u → AreAlike C' R' S' t u
    alike-weaker (page l c r) (page l' c' r') a = (a.0, e c c' a.1, row_alike-weaker r r' a.2)

    row_alike-weaker : (r s : Row K D) → RowsAreAlike C R S r s → RowsAreAlike C' R' S' r s
    row_alike-weaker (high h) (high h') a = held_alike-weaker h h' a
    row_alike-weaker (high h) (node h' k' d' r') a = absurd a
    row_alike-weaker (node h k d r) (high h') a = absurd a
    row_alike-weaker (node h k d r) (node h' k' d' r') a = (held_alike-weaker h h' a.0, f k k' a.1, g d d' a.2, row_alike-weaker r r' a.3)

    held_alike-weaker : (h h' : Held K D) → HeldAreAlike C R S h h' → HeldAreAlike C' R' S' h h'
    held_alike-weaker nothing nothing a = tt
    held_alike-weaker nothing (below t') a = absurd a
    held_alike-weaker (below t) nothing a = absurd a
    held_alike-weaker (below t) (below t') a = alike-weaker t t' a

-- a copy under stronger relations
pub copy-weaker : {K D : Type 0} (R R' : K → K → Type 0) → ((x y : K) → R x y → R' x y) → (S S' : D → D → Type 0) → ((x y : D) → S x y → S' x y) → (t u : Tree K D) → IsCopy R S t u → IsCopy R' S' t u
copy-weaker R R' f S S' g = alike-weaker (λ c d. c ≡ d) (λ c d. c ≡ d) (λ c d e. e) R R' f S S' g

-- a copy has the same pages
pub copy-same : {K D : Type 0} (cmp : K → K → Ordering) (t u : Tree K D) → IsCopy (Same cmp) (λ d e. d ≡ e) t u → SamePages cmp t u
copy-same cmp = alike-weaker (λ c d. c ≡ d) (λ c d. ⊤) (λ c d e. tt) (Same cmp) (Same cmp) (λ x y e. e) (λ d e. d ≡ e) (λ d e. d ≡ e) (λ x y e. e)

pub copy-cache : {K D : Type 0} (R : K → K → Type 0) (S : D → D → Type 0) (t u : Tree K D) → IsCopy R S t u → cache t ≡ cache u
copy-cache R S (page l c r) (page l' c' r') a = a.1

module _ {K : Type 0} (cmp : K → K → Ordering) (format : PageFormat) (bytes_of : K → List ℕ) (respects : (a b : K) → Same cmp a b → bytes_of a ≡ bytes_of b) where
  copy-has : (h g : Held K (List ℕ)) → HeldIsCopy (Same cmp) (λ d e. d ≡ e) h g → HasCache h → HasCache g
  copy-has nothing nothing a p = tt
  copy-has nothing (below t') a p = absurd a
  copy-has (below t) nothing a p = absurd a
  copy-has (below (page l None r)) (below t') a p = absurd p
  copy-has (below (page l (Some d) r)) (below (page l' None r')) a p = absurd (cc)
  copy-has (below (page l (Some d) r)) (below (page l' (Some d') r')) a p = tt

  copy-each : (r s : Row K (List ℕ)) → RowIsCopy (Same cmp) (λ d e. d ≡ e) r s → EachHasCache r → EachHasCache s
  copy-each (high h) (high h') a p = copy-has h h' a p
  copy-each (high h) (node h' k' d' r') a p = absurd a
  copy-each (node h k d r) (high h') a p = absurd a
  copy-each (node h k d r) (node h' k' d' r') a p = (copy-has h h' a.0 p.0, copy-each r r' a.3 p.1)

  some_is : {X : Type 0} (a b : X) → Some a ≡ Some b → a ≡ b
  some_is {X} a b e = ap (pick a) e
    where
      pick : X → Option X → X
      pick a None = a
      pick a (Some x) = x

  mutual
    -- the caches of a copy hold
    pub copy-caches : (t u : Tree K (List ℕ)) → IsCopy (Same cmp) (λ d e. d ≡ e) t u → CachesHold format bytes_of t → CachesHold format bytes_of u
    copy-caches (page l None r) (page l' None r') a p = row_copy-caches r r' a.2 p
    copy-caches (page l None r) (page l' (Some d') r') a p = absurd (cc)
    copy-caches (page l (Some d) r) (page l' None r') a p = absurd (cc)
    copy-caches (page l (Some d) r) (page l' (Some d') r') a p = (
      sym (some_is d d' a.1) ∙ p.0 ∙ same_digest cmp format bytes_of respects (page l (Some d) r) (page l' (Some d') r')
          (copy-same cmp (page l (Some d) r) (page l' (Some d') r') a),
      copy-each r r' a.2 p.1,
      row_copy-caches r r' a.2 p.2,
    )

    row_copy-caches : (r s : Row K (List ℕ)) → RowIsCopy (Same cmp) (λ d e. d ≡ e) r s → RowCachesHold format bytes_of r → RowCachesHold format bytes_of s
    row_copy-caches (high h) (high h') a p = held_copy-caches h h' a p
    row_copy-caches (high h) (node h' k' d' r') a p = absurd a
    row_copy-caches (node h k d r) (high h') a p = absurd a
    row_copy-caches (node h k d r) (node h' k' d' r') a p = (held_copy-caches h h' a.0 p.0, row_copy-caches r r' a.3 p.1)

    held_copy-caches : (h g : Held K (List ℕ)) → HeldIsCopy (Same cmp) (λ d e. d ≡ e) h g → HeldCachesHold format bytes_of h → HeldCachesHold format bytes_of g
    held_copy-caches nothing nothing a p = tt
    held_copy-caches nothing (below t') a p = absurd a
    held_copy-caches (below t) nothing a p = absurd a
    held_copy-caches (below t) (below t') a p = copy-caches t t' a p
