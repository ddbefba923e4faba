use Rattle.std.proofs.Common.{take}
use Rattle.std.specs.List.{AllZip}
use Rattle.merkle_tree_theory.specs.Copy.{NodeIsCopy}
use Rattle.merkle_search_tree.proofs.+copy.Given as goal

abbrev pub invariant-page::PageOf::copied-nodes : goal.invariant-page::PageOf::copied-nodes
invariant-page::PageOf::copied-nodes g l = AllZip (NodeIsCopy g.K.Clone.is_clone g.D.Clone.is_clone) (take l.i l.self-inside.nodes.items) l.nodes.items
