use Rattle.std.proofs.Common.{◌≡◌, ◌++◌, take}
use Rattle.merkle_tree_theory.specs.Page.{cache}
use Rattle.merkle_tree_theory.proofs.Outlines.{front_items, bound_behind}
use Rattle.merkle_search_tree.specs.Items.{bound_of, lent_gap, items}
use Rattle.merkle_search_tree.proofs.page.PageOf.list_items.Given as goal

-- the nodes so far are listed, and what comes is after the last of them
abbrev pub invariant-nodes : goal.invariant-nodes
invariant-nodes g l = record {
  listed : items l.list.items ≡ items l.initial.list.items ++ front_items cache (lent_gap l.gap) (take l.node-index l.node-items);
  behind : bound_of l.after ≡ bound_behind (bound_of l.gap.after) (take l.node-index l.node-items);
}
