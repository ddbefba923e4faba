-- The open pages of a tree's right edge, the topmost first. No open page has a high page yet: it gets the next one.
use Rattle.std.specs.Prelude.{◌≡◌, ℕ, ◌<◌, Bool, true, List, [], ◌∷◌, ◌++◌, Some, None, ⊤}
use Rattle.std.specs.declared.cmp.Ordering.{Ordering}
use Rattle.key_order.specs.Order.{below as below_key}
use Rattle.key_order.specs.Map.{last_key}
use Rattle.merkle_tree_theory.specs.Tree.{Tree, page, Row, high, node, Held, nothing, below, Node}
use Rattle.merkle_tree_theory.specs.Page.{level, pairs, held_pairs}
use Rattle.merkle_tree_theory.specs.Canonical.{HasNode, IsCanonical, IsGap, IsCanonicalRoot}
use Rattle.merkle_tree_theory.specs.Chain.{high_of, row_of_page}

module _ {K D : Type 0} where
  -- the row with one node more, after the others
  abbrev pub row_more : Node K D → Row K D → Row K D
  row_more e (high h) = node e.lt e.key e.digest (high h)
  row_more e (node h k d r) = node h k d (row_more e r)

  abbrev mutual
    -- no page has a cached digest
    pub IsBare : Tree K D → Type 0
    IsBare (page l None r) = RowIsBare r
    IsBare (page l (Some c) r) = ⊥

    pub RowIsBare : Row K D → Type 0
    RowIsBare (high h) = HeldIsBare h
    RowIsBare (node h k d r) = HeldIsBare h × RowIsBare r

    pub HeldIsBare : Held K D → Type 0
    HeldIsBare nothing = ⊤
    HeldIsBare (below t) = IsBare t

  -- the level of the last page, where there is one, else b
  abbrev pub last_level : ℕ → List (Tree K D) → ℕ
  last_level b [] = b
  last_level b (t ∷ ts) = last_level (level t) ts

  -- the pairs of all pages, in order
  abbrev pub edge_pairs : List (Tree K D) → List (K × D)
  edge_pairs [] = []
  edge_pairs (t ∷ ts) = pairs t ++ edge_pairs ts

module _ {K X : Type 0} (cmp : K → K → Ordering) where
  -- whether the key is above the last of the pairs, where there is one
  abbrev pub is_above : K → List (K × X) → Bool
  is_above k [] = true
  is_above k (p ∷ ps) = below_key cmp (last_key p.0 ps) k

module _ {K D : Type 0} (lev : K → ℕ) where
  -- a canonical page with a node, without digests and a high page
  abbrev pub IsOpenPage : Tree K D → Type 0
  IsOpenPage t = HasNode t × IsCanonical lev t × IsBare t × (high_of (row_of_page t) ≡ nothing)

  -- open pages whose levels fall strictly, from below b on
  abbrev pub IsEdge : ℕ → List (Tree K D) → Type 0
  IsEdge b [] = ⊤
  IsEdge b (t ∷ ts) = (level t < b) × IsOpenPage t × IsEdge (level t) ts

  -- a canonical page of a level below b, where there is one, without digests
  abbrev pub IsClosed : ℕ → Held K D → Type 0
  IsClosed b h = IsGap lev b h × HeldIsBare h

  -- of the open pages ts those whose level is below n were closed: us are left, and h holds the others
  abbrev pub ClosesPages : ℕ → List (Tree K D) → List (Tree K D) → Held K D → Type 0
  ClosesPages n ts us h = IsEdge 256 us × IsClosed (last_level 256 us) h × IsClosed n h × (edge_pairs us ++ held_pairs h ≡ edge_pairs ts)

  -- the open pages us are those of ts with the pair after all others
  abbrev pub Appends : K → D → List (Tree K D) → List (Tree K D) → Type 0
  Appends k d ts us = IsEdge 256 us × (edge_pairs us ≡ edge_pairs ts ++ (k, d) ∷ [])

  -- the root page t holds the pairs of the open pages
  abbrev pub IsRootOf : List (Tree K D) → Tree K D → Type 0
  IsRootOf ts t = IsCanonicalRoot lev t × IsBare t × (pairs t ≡ edge_pairs ts)
