-- A tree as contracts see it. A page is its level, its cached digest where it has one, and its row: its nodes in order, and at
-- the end its high page. Pointers and room are not seen.
use Rattle.std.specs.Prelude.{ℕ, suc, ◌+◌, List, [], ◌∷◌, Option, Some, None}
use Rattle.std.specs.declared.boxed.Box.{Box}
use Rattle.std.specs.declared.alloc.Global.{Global}

mutual
  pub data Tree (K D : Type 0) : Type 0 where
    page : ℕ → Option (List ℕ) → Row K D → Tree K D

  -- the nodes of a page in order, each with the page below it, its key and its value digest, and at the end the high page
  pub data Row (K D : Type 0) : Type 0 where
    high : Held K D → Row K D
    node : Held K D → K → D → Row K D → Row K D

  -- a page, where there is one
  pub data Held (K D : Type 0) : Type 0 where
    nothing : Held K D
    below : Tree K D → Held K D

-- a node: the page of the keys between the node before it and itself, its key, and the digest of its value
pub record Node (K D : Type 0) : Type 0 where
  pub lt : Held K D
  pub key : K
  pub digest : D

module _ {K D : Type 0} where
  -- the page that a pointer holds
  abbrev pub held_of : Option (Box (Tree K D) Global) → Held K D
  held_of None = nothing
  held_of (Some b) = below b.value

  -- the row of a list of nodes and a high page
  abbrev pub row : List (Node K D) → Held K D → Row K D
  row [] h = high h
  row (e ∷ es) h = node e.lt e.key e.digest (row es h)

  abbrev mutual
    -- how many pages and nodes there are
    pub tree_size : Tree K D → ℕ
    tree_size (page l c r) = suc (row_size r)

    pub row_size : Row K D → ℕ
    row_size (high h) = held_size h
    row_size (node h k d r) = suc (held_size h + row_size r)

    pub held_size : Held K D → ℕ
    held_size nothing = 0
    held_size (below t) = tree_size t

  abbrev pub node_size : Node K D → ℕ
  node_size e = suc (held_size e.lt)
