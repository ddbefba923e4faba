use Rattle.std.proofs.Common.{take}
use Rattle.merkle_search_tree.specs.Items.{items}
use Rattle.merkle_wire.specs.Outlines.{HasNoPage}
use Rattle.merkle_wire.proofs.outlines.has_page.Given as goal

-- no page is among the first items
abbrev pub invariant-items : goal.invariant-items
invariant-items g l = HasNoPage (items (take l.item-index l.list))
