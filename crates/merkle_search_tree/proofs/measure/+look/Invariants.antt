use Rattle.std.proofs.Common.{take}
use Rattle.std.specs.List.{AllByRecursion}
use Rattle.merkle_tree_theory.proofs.Small.{NodeIsHeld}
use Rattle.merkle_search_tree.proofs.measure.+look.Given as goal

-- the nodes so far are held
abbrev pub invariant-Page+N+K::look-nodes : goal.invariant-Page+N+K::look-nodes
invariant-Page+N+K::look-nodes g l = AllByRecursion (NodeIsHeld g.K.KeyBytes.bytes_of g.row.N) (take l.i l.self-inside.nodes.items)
