use Rattle.std.proofs.Common.{◌≡◌, ◌++◌, ℕ, List, length}
use Rattle.std.specs.List.{flat_map}
use Rattle.c_trees.specs.Lists.{AreSet}
use Rattle.c_values.specs.Lists.{sized_row}
use Rattle.c_trees.proofs.byte_tree.ByteTree.set_rows.Given as goal

-- the rows so far were read and set, and the rest is still to be
abbrev pub invariant-rows : goal.invariant-rows
invariant-rows l =
    (given : List (List ℕ × List ℕ)) × (l.body ≡ flat_map sized_row given ++ l.rest) × (length given ≡ l.done) × AreSet given l.initial.self.tree l.self.tree
