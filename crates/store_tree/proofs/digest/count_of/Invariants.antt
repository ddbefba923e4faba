use Rattle.std.proofs.Common.{◌≡◌, ◌+◌, drop}
use Rattle.store_tree.specs.Pages.{nodes_count}
use Rattle.store_tree.proofs.digest.count_of.Given as goal

-- what was counted, and what is left to count, are all keys
abbrev pub invariant-nodes : goal.invariant-nodes
invariant-nodes l = nodes_count l.fn.page.nodes.items l.fn.page.last ≡ l.count + nodes_count (drop l.node-index l.fn.page.nodes.items) l.fn.page.last
