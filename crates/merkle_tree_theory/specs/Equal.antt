-- Equality of pages and nodes, the pages below and the cached digests included.
use Rattle.std.specs.Prelude.{ℕ, Bool, true, false, ◌&&◌, ◌==◌, Option, List}
use Rattle.merkle_tree_theory.specs.Tree.{Tree, page, Row, high, node, Held, nothing, below, Node}

-- C, E and F are the equality of cached digests, of keys and of value digests
module _ {K D : Type 0} (C : Option (List ℕ) → Option (List ℕ) → Bool) (E : K → K → Bool) (F : D → D → Bool) where
  abbrev mutual
    pub tree_eq : Tree K D → Tree K D → Bool
    tree_eq (page l c r) (page l' c' r') = l == l' && C c c' && row_eq r r'

    pub row_eq : Row K D → Row K D → Bool
    row_eq (high h) (high h') = held_eq h h'
    row_eq (high h) (node h' k' d' r') = false
    row_eq (node h k d r) (high h') = false
    row_eq (node h k d r) (node h' k' d' r') = held_eq h h' && E k k' && F d d' && row_eq r r'

    pub held_eq : Held K D → Held K D → Bool
    held_eq nothing nothing = true
    held_eq nothing (below t') = false
    held_eq (below t) nothing = false
    held_eq (below t) (below t') = tree_eq t t'

  abbrev pub node_eq : Node K D → Node K D → Bool
  node_eq a b = held_eq a.lt b.lt && E a.key b.key && F a.digest b.digest
