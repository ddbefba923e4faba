use Rattle.std.proofs.Common.{◌≡◌, ◌+◌, ◌^◌, ◌-◌, min, take, sum_by}
use Rattle.merkle_tree_theory.specs.Cache.{one_without}
use Rattle.merkle_tree_theory.proofs.FillingDigests.{node_missing}
use Rattle.merkle_search_tree.proofs.+missing.Given as goal

abbrev pub invariant-page::PageOf::missing-nodes : goal.invariant-page::PageOf::missing-nodes
invariant-page::PageOf::missing-nodes g l =
    l.count ≡ min (one_without l.self-inside.tree_hash + sum_by node_missing (take l.node-index l.node-items)) (2 ^ 64 - 1)
