use Rattle.std.proofs.Common.{◌≡◌, true, take}
use Rattle.std.specs.List.{AllByRecursion}
use Rattle.merkle_search_tree.specs.Items.{items}
use Rattle.merkle_wire.specs.Outlines.{nodes_among}
use Rattle.store_file.specs.Ranges.{is_between}
use Rattle.store_side.proofs.page_rows.are_nodes_within.Given as goal

-- the first items are nodes whose keys are between the bounds
abbrev pub invariant-items : goal.invariant-items
invariant-items l = AllByRecursion (λ n. is_between l.gap.after l.gap.before n.0 ≡ true) (nodes_among (items (take l.item-index l.list)))
