-- The canonical form: the nodes of a page are the keys of its level, and each gap between them is such a page of lower level.
use Rattle.std.specs.Prelude.{◌≡◌, ℕ, ◌<◌, List, ⊤}
use Rattle.std.specs.declared.cmp.Ordering.{Ordering}
use Rattle.key_order.specs.Order.{Same}
use Rattle.key_order.specs.Map.{SameMap}
use Rattle.merkle_digest.specs.Level.{level_of}
use Rattle.merkle_tree_theory.specs.Tree.{Tree, page, Row, high, node, Held, nothing, below}
use Rattle.merkle_tree_theory.specs.Page.{level, pairs}
use Rattle.merkle_tree_theory.specs.Alike.{AreAlike, RowsAreAlike, HeldAreAlike}

module _ {K D : Type 0} where
  -- the page has a node of its own
  abbrev pub HasNode : Tree K D → Type 0
  HasNode (page l c (high h)) = ⊥
  HasNode (page l c (node h k d r)) = ⊤

-- the digests of two keys put them on one level
abbrev pub AreOnOneLevel : {K : Type 0} → (K → List ℕ) → ℕ → K → K → Type 0
AreOnOneLevel digest_of base a b = level_of (digest_of a) base ≡ level_of (digest_of b) base

module _ {K D : Type 0} (lev : K → ℕ) where
  abbrev mutual
    -- the keys of the page's nodes have its level, and each page below has a node and a lower level, and is canonical itself
    pub IsCanonical : Tree K D → Type 0
    IsCanonical (page l c r) = IsRow l r

    pub IsRow : ℕ → Row K D → Type 0
    IsRow l (high h) = IsGap l h
    IsRow l (node h k d r) = IsGap l h × (lev k ≡ l) × IsRow l r

    pub IsGap : ℕ → Held K D → Type 0
    IsGap l nothing = ⊤
    IsGap l (below t) = (level t < l) × HasNode t × IsCanonical t

  -- the root page is canonical, or it is the page of level 0 without nodes
  abbrev pub IsCanonicalRoot : Tree K D → Type 0
  IsCanonicalRoot (page l c (high nothing)) = l ≡ 0
  IsCanonicalRoot (page l c (high (below t))) = ⊥
  IsCanonicalRoot (page l c (node h k d r)) = IsRow l (node h k d r)

module _ {K D : Type 0} (cmp : K → K → Ordering) where
  -- the pages are the same apart from caches, up to equal keys
  abbrev pub SamePages : Tree K D → Tree K D → Type 0
  SamePages = AreAlike (λ c d. ⊤) (Same cmp) (λ d e. d ≡ e)

  abbrev pub SameRow : Row K D → Row K D → Type 0
  SameRow = RowsAreAlike (λ c d. ⊤) (Same cmp) (λ d e. d ≡ e)

  abbrev pub SameHeld : Held K D → Held K D → Type 0
  SameHeld = HeldAreAlike (λ c d. ⊤) (Same cmp) (λ d e. d ≡ e)

  -- the page t is the tree of the map m, where digest_of gives the digests of keys: the pages are canonical, and their map is m
  abbrev pub IsTreeOf : (K → List ℕ) → ℕ → Tree K D → List (K × D) → Type 0
  IsTreeOf digest_of base t m = IsCanonicalRoot (λ k. level_of (digest_of k) base) t × SameMap cmp (λ d e. d ≡ e) (pairs t) m

-- pages that are equal apart from caches are related
abbrev pub EqualPages : {K : Type 0} → (K → K → Ordering) → (Tree K (List ℕ) → Tree K (List ℕ) → Type 0) → Type 0
EqualPages {K} cmp R = (t u : Tree K (List ℕ)) → SamePages cmp t u → R t u
