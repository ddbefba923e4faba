-- What is done to the open pages of a tree's right edge, whatever the levels of the keys.
use Rattle.std.specs.Prelude.{◌≡◌, ℕ, List}
use Rattle.merkle_tree_theory.specs.Edge.{IsEdge, ClosesPages, Appends}
use Rattle.merkle_tree_theory.specs.Tree.{Tree, Held}

module _ {K D : Type 0} where
  -- of a right edge the pages whose level is below n were closed: the new ones are left, and h holds the others
  abbrev pub ClosesBelow : ℕ → List (Tree K D) → List (Tree K D) → Held K D → Type 0
  ClosesBelow n old new h = (lev : K → ℕ) → IsEdge lev 256 old → ClosesPages lev n old new h

  -- to a right edge the pair of a key on level n was added, after all others
  abbrev pub AppendsPair : K → ℕ → D → List (Tree K D) → List (Tree K D) → Type 0
  AppendsPair key n digest old new = (lev : K → ℕ) → lev key ≡ n → IsEdge lev 256 old → Appends lev key digest old new
