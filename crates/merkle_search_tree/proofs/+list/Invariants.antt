use Rattle.std.proofs.Common.{◌≡◌, ◌+◌, ◌*◌, ◌++◌, take}
use Rattle.std.specs.List.{flat_map}
use Rattle.merkle_diff.specs.PageRange.{entries}
use Rattle.merkle_tree_theory.specs.Tree.{tree_size, held_size, held_of}
use Rattle.merkle_tree_theory.proofs.RangeEnds.{node_cached}
use Rattle.merkle_search_tree.proofs.+list.Given as goal

abbrev pub invariant-page::PageOf::list_ranges-nodes : goal.invariant-page::PageOf::list_ranges-nodes
invariant-page::PageOf::list_ranges-nodes g l = entries l.list.items ≡ entries l.initial.list.items ++ flat_map (node_cached g.K.Ord.cmp) (take l.node-index l.node-items)

abbrev pub decreases-page::PageOf::list_ranges : goal.decreases-page::PageOf::list_ranges
decreases-page::PageOf::list_ranges g l = 2 * tree_size l.self.now

abbrev pub decreases-page_ranges::list_below : goal.decreases-page_ranges::list_below
decreases-page_ranges::list_below g l = 2 * held_size (held_of l.held.now) + 1
