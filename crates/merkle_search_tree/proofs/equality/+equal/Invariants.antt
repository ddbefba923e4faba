use Rattle.std.proofs.Common.{◌≡◌, drop, nat_eq}
use Rattle.std.specs.Option.{option_eq}
use Rattle.std.specs.Cmp.Lexicographic.{pointwise}
use Rattle.merkle_tree_theory.proofs.NodeEquality.{nodes_eq}
use Rattle.merkle_search_tree.proofs.equality.+equal.Given as goal

abbrev pub invariant-same_page-nodes : goal.invariant-same_page-nodes
invariant-same_page-nodes g l =
    nodes_eq (option_eq (pointwise nat_eq)) g.K.PartialEq.eq g.D.PartialEq.eq l.a-inside.nodes.items l.b-inside.nodes.items
    ≡ nodes_eq (option_eq (pointwise nat_eq)) g.K.PartialEq.eq g.D.PartialEq.eq (drop l.i l.a-inside.nodes.items) (drop l.i l.b-inside.nodes.items)
