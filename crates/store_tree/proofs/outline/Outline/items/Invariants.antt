use Rattle.std.proofs.Common.{drop}
use Rattle.merkle_search_tree.specs.Items.{bound_of, items, lent_gap}
use Rattle.store_tree.proofs.Listing.{IsListed}
use Rattle.store_tree.proofs.outline.Outline.items.Given as goal

abbrev pub invariant-nodes : goal.invariant-nodes
invariant-nodes l = IsListed (lent_gap l.gap) l.fn.self.nodes.items l.fn.self.last (items l.list.items) (bound_of l.after) (drop l.node-index l.node-items)
