use Rattle.std.proofs.lemmas.List.Sorted.{IsPermutation-map}
use Rattle.std.specs.String.{string_cmp_total}
use Rattle.key_order.specs.Text.{text_order}
use Rattle.key_order.proofs.Latest.{set_in_any_order}
use Rattle.key_order.proofs.SameMaps.{same_across, same_map-back}
use Rattle.merkle_search_tree.proofs.LoadOrder.{digests-map}
use Rattle.examples.proofs.order.built_both_ways.Goals as goal

pub are_one_tree-requires-clause-maps : goal.are_one_tree-requires-clause-maps
are_one_tree-requires-clause-maps c =
    let moved = rw (← c.deref-2.ensures.value, ← c.deref.ensures.value) at c.sort.ensures.permutation in
    let sorted = set_in_any_order text_order string_cmp_total _ _ (IsPermutation-map _ _ _ moved) (digests-map _ text_order _ c.in_ok-loaded.ensures.ascending) in
    let loaded = rw c.default.ensures.0 at c.in_ok-loaded.ensures.map in
    same_across text_order string_cmp_total _ _ _ _ c.in_ok-upserted.ensures.map (same_map-back text_order string_cmp_total _ _ loaded) sorted
