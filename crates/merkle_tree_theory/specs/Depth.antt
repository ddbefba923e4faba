-- How many pages stand below one another.
use Rattle.std.specs.Prelude.{ℕ, suc, max}
use Rattle.merkle_tree_theory.specs.Tree.{Tree, page, Row, high, node, Held, nothing, below}

module _ {K D : Type 0} where
  abbrev mutual
    -- the pages of the longest way down, the page itself among them
    pub depth : Tree K D → ℕ
    depth (page l c r) = suc (row_depth r)

    pub row_depth : Row K D → ℕ
    row_depth (high h) = held_depth h
    row_depth (node h k d r) = max (held_depth h) (row_depth r)

    pub held_depth : Held K D → ℕ
    held_depth nothing = 0
    held_depth (below t) = depth t
