-- What an upsert does to a page.
use Rattle.std.specs.Prelude.{ℕ, suc, List, [], ◌∷◌, Bool, true, false, if◌then◌else◌, Option, None}
use Rattle.std.specs.declared.cmp.Ordering.{Ordering}
use Rattle.std.specs.declared.cmp.Ordering.TheVariants.{Equal}
use Rattle.std.specs.Ordering.{is_gt, match_ordering, nat_cmp}
use Rattle.merkle_tree_theory.specs.Tree.{Tree, page, Row, high, node, Held, nothing, below, Node}

module _ {K D : Type 0} where
  -- a row as what stands in a gap: a page of the level with this digest, but without a node it gives way to its high page
  abbrev pub as_held : ℕ → Option (List ℕ) → Row K D → Held K D
  as_held l c (high h) = h
  as_held l c (node h k d r) = below (page l c (node h k d r))

  -- the digest that one part of a page keeps: the page's own, where there is nothing in the other part
  abbrev pub digest_beside : Held K D → Option (List ℕ) → Option (List ℕ)
  digest_beside nothing c = c
  digest_beside (below t) c = None

  abbrev pub row_digest_beside : Row K D → Option (List ℕ) → Option (List ℕ)
  row_digest_beside (high h) c = digest_beside h c
  row_digest_beside (node h k d r) c = None

module _ {K D : Type 0} (cmp : K → K → Ordering) (at : K) where
  -- the place of the first node whose key is at least the key, or the number of nodes
  abbrev pub place : List (Node K D) → ℕ
  place [] = 0
  place (e ∷ es) = if (is_gt (cmp at e.key)) then (suc (place es)) else 0

  abbrev mutual
    -- what is below the key
    pub lower : Row K D → Row K D
    lower (high h) = high (held_lower h)
    lower (node h k d r) = if (is_gt (cmp at k)) then (node h k d (lower r)) else (high (held_lower h))

    pub held_lower : Held K D → Held K D
    held_lower nothing = nothing
    held_lower (below t) = tree_lower t

    pub tree_lower : Tree K D → Held K D
    tree_lower (page l c (high h)) = below (page l (digest_beside (held_upper h) c) (high (held_lower h)))
    tree_lower (page l c (node h k d r)) = as_held l (row_digest_beside (upper (node h k d r)) c) (lower (node h k d r))

    -- the rest
    pub upper : Row K D → Row K D
    upper (high h) = high (held_upper h)
    upper (node h k d r) = if (is_gt (cmp at k)) then (upper r) else (node (held_upper h) k d r)

    pub held_upper : Held K D → Held K D
    held_upper nothing = nothing
    held_upper (below t) = tree_upper t

    pub tree_upper : Tree K D → Held K D
    tree_upper (page l c r) = as_held l (row_digest_beside (lower r) c) (upper r)

module _ {K D : Type 0} (cmp : K → K → Ordering) (k : K) (d : D) where
  -- the key put among the nodes of a row, and what stands in its gap parted at it
  abbrev pub row_put : Row K D → Row K D
  row_put (high h) = node (held_lower cmp k h) k d (high (held_upper cmp k h))
  row_put (node h x e r) = match_ordering (cmp k x) (node (held_lower cmp k h) k d (node (held_upper cmp k h) x e r)) (node h x d r) (node h x e (row_put r))

-- how a level compares with that of a page; a page without nodes is of every level
abbrev pub level_order : {K D : Type 0} → ℕ → Tree K D → Ordering
level_order n (page m c (high h)) = Equal
level_order n (page m c (node h k d r)) = nat_cmp n m

module _ {K D : Type 0} (cmp : K → K → Ordering) (n : ℕ) (k : K) (d : D) where
  -- a page with the key over a page, which is parted at it
  abbrev pub lifted : Tree K D → Tree K D
  lifted t = page n None (node (tree_lower cmp k t) k d (high (tree_upper cmp k t)))

  abbrev mutual
    -- the key put into a subtree: among the nodes of a page without nodes or of its level, over a lower page, into a gap of a higher one
    pub tree_set : Tree K D → Tree K D
    tree_set (page m c (high h)) = page n None (row_put cmp k d (high h))
    tree_set (page m c (node h x e r)) =
        match_ordering (nat_cmp n m) (page m None (row_sink (node h x e r))) (page m None (row_put cmp k d (node h x e r))) (lifted (page m c (node h x e r)))

    -- the key put into its gap of a row
    pub row_sink : Row K D → Row K D
    row_sink (high h) = high (held_set h)
    row_sink (node h x e r) = match_ordering (cmp k x) (node (held_set h) x e r) (node h x d r) (node h x e (row_sink r))

    pub held_set : Held K D → Held K D
    held_set nothing = below (page n None (node nothing k d (high nothing)))
    held_set (below t) = below (tree_set t)

  abbrev mutual
    -- whether the key's path leads to a node with it
    pub tree_finds : Tree K D → Bool
    tree_finds (page m c (high h)) = false
    tree_finds (page m c (node h x e r)) = match_ordering (nat_cmp n m) (row_finds true (node h x e r)) (row_finds false (node h x e r)) false

    pub row_finds : Bool → Row K D → Bool
    row_finds b (high h) = if b then (held_finds h) else false
    row_finds b (node h x e r) = match_ordering (cmp k x) (if b then (held_finds h) else false) true (row_finds b r)

    pub held_finds : Held K D → Bool
    held_finds nothing = false
    held_finds (below t) = tree_finds t
