use Rattle.std.proofs.Common.{◌+◌, [], ◌∷◌, ◌++◌, length, take, map, sym, ap, subst, ◌∙◌}
use Rattle.std.specs.List.{AllByRecursion}
use Rattle.std.proofs.lemmas.List.{map-append, take_more}
use Rattle.std.proofs.lemmas.List.Folds.{flat_map-map}
use Rattle.merkle_diff.specs.PageRange.{entry, entries}
use Rattle.c_trees.specs.Lists.{IsPageRange, entry_by_bytes}
use Rattle.c_trees.specs.Wire.{range_entry, page_mark}
use Rattle.c_values.specs.Lists.{number_bytes}
use Rattle.c_values.proofs.Lists.{one_more}
use Rattle.c_trees.proofs.Lists.{all_more}
use Rattle.c_trees.proofs.wire.encode.Goals as goal

pub entries-preserved : goal.entries-preserved
entries-preserved c =
    let ranges = c.args.ranges.now in let i = c.entries.range-index in let r = c.range-item.result in
    let front = page_mark ++ number_bytes (length (map entry_by_bytes (entries ranges))) in
    let more = take_more ranges i r c.entries-test.true ∙ ap (λ x. take i ranges ++ x ∷ []) (sym c.range-item.is) in
    let done = ap (λ x. map entry_by_bytes (entries x)) more ∙ ap (map entry_by_bytes) (map-append (λ r. entry r) (take i ranges) (r ∷ []))
    ∙ map-append entry_by_bytes (entries (take i ranges)) (entry r ∷ []) in
    record {
      written = one_more (λ r. entry r) (λ e. range_entry (entry_by_bytes e)) ranges i r front c.entries.out.items c.put_range.new.out.items c.entries-test.true c.range-item.is
          (c.entries.invariant.written ∙ ap (λ t. front ++ t) (flat_map-map range_entry entry_by_bytes (entries (take i ranges)))) c.in_ok-put_range.ensures.written
          ∙ ap (λ t. front ++ t) (sym (flat_map-map range_entry entry_by_bytes (entries (take (i + 1) ranges))));
      each = subst (AllByRecursion IsPageRange) (sym done)
          (all_more IsPageRange (map entry_by_bytes (entries (take i ranges))) (entry_by_bytes (entry r)) c.entries.invariant.each c.in_ok-put_range.ensures.range);
    }
