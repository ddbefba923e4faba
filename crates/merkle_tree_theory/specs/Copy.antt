-- Copies of pages and nodes, where R relates a key to its copy, and S a value digest.
use Rattle.std.specs.Prelude.{◌≡◌}
use Rattle.merkle_tree_theory.specs.Tree.{Tree, Row, Held, Node}
use Rattle.merkle_tree_theory.specs.Alike.{AreAlike, RowsAreAlike, HeldAreAlike}

module _ {K D : Type 0} (R : K → K → Type 0) (S : D → D → Type 0) where
  -- the same levels and cached digests, and related keys and value digests, in the page and those below it
  abbrev pub IsCopy : Tree K D → Tree K D → Type 0
  IsCopy = AreAlike (λ c d. c ≡ d) R S

  abbrev pub RowIsCopy : Row K D → Row K D → Type 0
  RowIsCopy = RowsAreAlike (λ c d. c ≡ d) R S

  abbrev pub HeldIsCopy : Held K D → Held K D → Type 0
  HeldIsCopy = HeldAreAlike (λ c d. c ≡ d) R S

  abbrev pub NodeIsCopy : Node K D → Node K D → Type 0
  NodeIsCopy a b = HeldIsCopy a.lt b.lt × R a.key b.key × S a.digest b.digest
