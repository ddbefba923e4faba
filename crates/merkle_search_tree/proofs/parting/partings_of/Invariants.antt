use Rattle.std.proofs.Common.{List, ◌++◌}
use Rattle.key_order.specs.Map.{IsMap}
use Rattle.merkle_tree_theory.specs.Page.{held_pairs}
use Rattle.merkle_tree_theory.specs.Tree.{held_of, held_size}
use Rattle.merkle_search_tree.specs.Parting.{PartingsFit}
use Rattle.merkle_search_tree.specs.declared.parting.Parting.{Parting}
use Rattle.merkle_search_tree.proofs.parting.partings_of.Given as goal

abbrev pub invariant-path : goal.invariant-path
invariant-path g l =
    IsMap g.K.Ord.cmp (held_pairs (held_of l.rest))
    × ((cs : List (Parting g.row.K.Denot g.row.D.Denot)) → PartingsFit g.K.Ord.cmp l.key (held_of l.rest) cs → PartingsFit g.K.Ord.cmp l.key (held_of l.held) (l.partings.items ++ cs))

abbrev pub decreases-path : goal.decreases-path
decreases-path g l = held_size (held_of l.rest)
