-- Pages no larger than what a program can hold.
use Rattle.std.specs.Prelude.{◌≡◌, ℕ, ◌<◌, ◌^◌, List, length, ⊤}
use Rattle.merkle_tree_theory.specs.Tree.{Tree, page, Row, high, node, Held, nothing, below}
use Rattle.merkle_tree_theory.specs.Page.{row_nodes}

module _ {K : Type 0} (bytes_of : K → List ℕ) (n : ℕ) where
  abbrev mutual
    -- the page and each page below it has fewer than 2 ^ 64 nodes, whose keys have fewer than 2 ^ 64 bytes and whose value digests have n bytes
    pub IsHeldInMemory : Tree K (List ℕ) → Type 0
    IsHeldInMemory (page l c r) = (length (row_nodes r) < 2 ^ 64) × RowIsHeld r

    pub RowIsHeld : Row K (List ℕ) → Type 0
    RowIsHeld (high h) = BelowIsHeld h
    RowIsHeld (node h k d r) = BelowIsHeld h × (length (bytes_of k) < 2 ^ 64) × (length d ≡ n) × RowIsHeld r

    pub BelowIsHeld : Held K (List ℕ) → Type 0
    BelowIsHeld nothing = ⊤
    BelowIsHeld (below t) = IsHeldInMemory t
