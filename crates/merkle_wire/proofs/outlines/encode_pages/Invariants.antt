use Rattle.std.proofs.Common.{◌≡◌, ◌++◌, None, take}
use Rattle.std.specs.Option.{option_map}
use Rattle.merkle_search_tree.specs.Items.{items}
use Rattle.merkle_wire.specs.Outlines.{pages_bytes}
use Rattle.merkle_wire.proofs.ItemsMore.{pages_before, page_behind}
use Rattle.merkle_wire.proofs.outlines.encode_pages.Given as goal

-- the pages before the first nodes are written, and that after them is held
abbrev pub invariant-items : goal.invariant-items
invariant-items g l =
    let first = items (take l.item-index l.list) in
    (l.bytes.items ≡ l.fn.bytes.items ++ pages_bytes (pages_before None first)) × (option_map (λ d. d.now) l.page ≡ page_behind None first)
