-- What is read off a page.
use Rattle.std.specs.Prelude.{ℕ, ◌<◌, List, [], ◌∷◌, ◌++◌, Option, ⊤}
use Rattle.merkle_tree_theory.specs.Tree.{Tree, page, Row, high, node, Held, nothing, below, Node}

module _ {K D : Type 0} where
  -- the level of the page
  abbrev pub level : Tree K D → ℕ
  level (page l c r) = l

  -- the cached digest of the page
  abbrev pub cache : Tree K D → Option (List ℕ)
  cache (page l c r) = c

  -- the key and the value digest of a node
  abbrev pub pair_of : Node K D → K × D
  pair_of n = (n.key, n.digest)

  abbrev pub row_nodes : Row K D → List (Node K D)
  row_nodes (high h) = []
  row_nodes (node h k d r) = record { lt = h; key = k; digest = d } ∷ row_nodes r

  -- the nodes of the page itself
  abbrev pub nodes_of : Tree K D → List (Node K D)
  nodes_of (page l c r) = row_nodes r

  abbrev mutual
    -- the map of the page and those below it: the keys in order, each with its value digest
    pub pairs : Tree K D → List (K × D)
    pairs (page l c r) = row_pairs r

    pub row_pairs : Row K D → List (K × D)
    row_pairs (high h) = held_pairs h
    row_pairs (node h k d r) = held_pairs h ++ (k, d) ∷ row_pairs r

    pub held_pairs : Held K D → List (K × D)
    held_pairs nothing = []
    held_pairs (below t) = pairs t

  abbrev mutual
    -- all nodes of the page and those below it, in the order of their keys
    pub nodes_in_order : Tree K D → List (Node K D)
    nodes_in_order (page l c r) = row_in_order r

    pub row_in_order : Row K D → List (Node K D)
    row_in_order (high h) = held_in_order h
    row_in_order (node h k d r) = held_in_order h ++ record { lt = h; key = k; digest = d } ∷ row_in_order r

    pub held_in_order : Held K D → List (Node K D)
    held_in_order nothing = []
    held_in_order (below t) = nodes_in_order t

  abbrev mutual
    -- the page and those below it, each before those below it
    pub pages_in_order : Tree K D → List (Tree K D)
    pages_in_order (page l c r) = page l c r ∷ row_pages r

    pub row_pages : Row K D → List (Tree K D)
    row_pages (high h) = held_pages h
    row_pages (node h k d r) = held_pages h ++ row_pages r

    pub held_pages : Held K D → List (Tree K D)
    held_pages nothing = []
    held_pages (below t) = pages_in_order t

  -- the pages below a page
  abbrev pub pages_below : Tree K D → List (Tree K D)
  pages_below (page l c r) = row_pages r

  abbrev mutual
    -- the level of each page below is strictly lower
    pub LevelsFall : Tree K D → Type 0
    LevelsFall (page l c r) = RowFalls l r

    pub RowFalls : ℕ → Row K D → Type 0
    RowFalls l (high h) = HeldFalls l h
    RowFalls l (node h k d r) = HeldFalls l h × RowFalls l r

    pub HeldFalls : ℕ → Held K D → Type 0
    HeldFalls l nothing = ⊤
    HeldFalls l (below t) = (level t < l) × LevelsFall t
