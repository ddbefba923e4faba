use Rattle.std.proofs.Common.{length}
use Rattle.std.specs.Vec.Iter.{into_iter_items}
use Rattle.merkle_tree_theory.specs.Tree.{held_of}
use Rattle.merkle_search_tree.specs.Parting.{PartingsFit}
use Rattle.merkle_search_tree.specs.Split.{HaveRoom, InParts}
use Rattle.merkle_search_tree.proofs.split.split_off_lt.Given as goal

abbrev pub invariant-path : goal.invariant-path
invariant-path g l =
    PartingsFit g.K.Ord.cmp l.key (held_of l.path) (into_iter_items l.parting-iterator)
    × InParts g.K.Ord.cmp l.key (held_of l.fn.held) (held_of l.path) l.sides
    × HaveRoom (length (into_iter_items l.parting-iterator)) l.sides
