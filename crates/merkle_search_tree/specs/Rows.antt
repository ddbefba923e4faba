-- The row of a page that is at hand as its nodes and the pointer to its high page.
use Rattle.std.specs.Prelude.{◌≡◌, ℕ, List, Option, false}
use Rattle.std.specs.declared.alloc.Global.{Global}
use Rattle.std.specs.declared.boxed.Box.{Box}
use Rattle.std.specs.declared.cmp.Ordering.{Ordering}
use Rattle.merkle_tree_theory.specs.Tree.{Tree, Node, Row, row, held_of}
use Rattle.merkle_tree_theory.specs.Upsert.{row_finds}

-- the nodes and what the pointer holds, as a row
abbrev pub as_row : {K D : Type 0} → List (Node K D) → Option (Box (Tree K D) Global) → Row K D
as_row nodes high_page = row nodes (held_of high_page)

-- the key's path leads to no node of the row itself
abbrev pub LacksKey : {K D : Type 0} → (K → K → Ordering) → ℕ → K → D → Row K D → Type 0
LacksKey cmp level key digest r = row_finds cmp level key digest false r ≡ false
