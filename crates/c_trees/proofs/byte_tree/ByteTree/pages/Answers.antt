use Rattle.std.proofs.Common.{arith, ◌≡◌, false, ◌++◌, ap, ◌∙◌}
use Rattle.std.specs.List.{flat_map}
use Rattle.merkle_search_tree.specs.Loading.{row_count}
use Rattle.merkle_tree_theory.specs.Events.{events_of}
use Rattle.c_trees.specs.Pages.{call_bytes, page_entries, tree_mark}
use Rattle.c_values.specs.Lists.{number_bytes}
use Rattle.c_trees.proofs.Loads.{if_ok}
use Rattle.c_trees.proofs.Pages.{all_written}
use Rattle.c_trees.proofs.byte_tree.ByteTree.pages.Goals as goal

pub returns : goal.returns
returns c =
    let root = c.args.self.now.tree.root in let old = c.new-pages.result in let new = c.in_order_traversal.new.visitor in
    let visited = c.in_order_traversal.ensures.visited in let begins = c.new-pages.ensures in
    if_ok c.list.result (λ out whole list.
    let all = all_written old new (events_of false root) visited.0 (omega (arith, begins.none.0)) whole visited.1 in
    let count : new.count ≡ row_count (page_entries root) = omega (arith, all.count, begins.none.0) in
    let bytes : new.bytes.items ≡ flat_map call_bytes (page_entries root) = all.bytes ∙ ap (λ front. front ++ flat_map call_bytes (page_entries root)) begins.none.1 in
    list ∙ (λ i. tree_mark ++ (number_bytes (count i) ++ bytes i))) c.list.ensures.whole c.list.ensures.list
