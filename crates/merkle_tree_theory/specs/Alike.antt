-- Pages of one shape, where C relates their cached digests, R their keys and S their value digests.
use Rattle.std.specs.Prelude.{◌≡◌, ℕ, List, Option, ⊤}
use Rattle.merkle_tree_theory.specs.Tree.{Tree, page, Row, high, node, Held, nothing, below}

module _ {K D : Type 0} (C : Option (List ℕ) → Option (List ℕ) → Type 0) (R : K → K → Type 0) (S : D → D → Type 0) where
  abbrev mutual
    -- equal levels, and related cached digests, keys and value digests, in the page and those below it
    pub AreAlike : Tree K D → Tree K D → Type 0
    AreAlike (page l c r) (page l' c' r') = (l ≡ l') × C c c' × RowsAreAlike r r'

    pub RowsAreAlike : Row K D → Row K D → Type 0
    RowsAreAlike (high h) (high h') = HeldAreAlike h h'
    RowsAreAlike (high h) (node h' k' d' r') = ⊥
    RowsAreAlike (node h k d r) (high h') = ⊥
    RowsAreAlike (node h k d r) (node h' k' d' r') = HeldAreAlike h h' × R k k' × S d d' × RowsAreAlike r r'

    pub HeldAreAlike : Held K D → Held K D → Type 0
    HeldAreAlike nothing nothing = ⊤
    HeldAreAlike nothing (below t') = ⊥
    HeldAreAlike (below t) nothing = ⊥
    HeldAreAlike (below t) (below t') = AreAlike t t'
