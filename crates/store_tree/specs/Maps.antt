-- What is read of the map whose gaps a table of cells has.
use Rattle.std.specs.Prelude.{◌≡◌, ℕ, List, map, Some, string_bytes}
use Rattle.std.specs.Global.{Vec}
use Rattle.key_order.specs.Map.{get}
use Rattle.key_order.specs.Text.{Text}
use Rattle.merkle_tree_theory.specs.Gap.{Gap, pairs_within}
use Rattle.store_tree.specs.Cells.{bytes_order, KeyDigests}
use Rattle.store_tree.specs.declared.cell.Known.TheVariants.{Nothing}
use Rattle.store_tree.specs.declared.page.Node.{Node}
use Rattle.store_tree.specs.declared.page.Page.{Page}

-- a pair with the bytes of its key
abbrev pub bytes_pair : Text × List ℕ → List ℕ × List ℕ
bytes_pair p = (string_bytes p.0, p.1)

module _ (Holds : KeyDigests → Type 0) where
  -- whatever map is held has this digest at the key
  abbrev pub IsDigestAt : List ℕ → List ℕ → Type 0
  IsDigestAt key digest = (m : KeyDigests) → Holds m → get bytes_order m key ≡ Some digest

  -- whatever map is held has these pairs in the gap
  abbrev pub ArePairsIn : Gap (List ℕ) → Vec (Text × List ℕ) → Type 0
  ArePairsIn gap pairs = (m : KeyDigests) → Holds m → map bytes_pair pairs.items ≡ pairs_within bytes_order gap m

-- a pair as a node with nothing before it
abbrev pub leaf_node : Text × List ℕ → Node
leaf_node p = record { before = Nothing; key = p.0; digest = p.1 }

-- the page has these pairs as its nodes, and nothing between them
pub record IsLeafOf (pairs : List (Text × List ℕ)) (page : Page) : Type 0 where
  pub nodes : page.nodes.items ≡ map leaf_node pairs
  pub last : page.last ≡ Nothing
