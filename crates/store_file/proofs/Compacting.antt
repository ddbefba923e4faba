-- What a compaction leaves.
use Rattle.std.proofs.Common.{◌≡◌, ℕ, List, map, filter, length, sym, ap, ◌∙◌}
use Rattle.std.specs.declared.cmp.Ordering.TheVariants.{Less}
use Rattle.std.specs.List.{Contains}
use Rattle.std.proofs.lemmas.List.{length-map}
use Rattle.std.proofs.lemmas.List.Elements.{All-contains_itself, All-filter, All-contains}
use Rattle.key_order.specs.Text.{Text as Key, text_order}
use Rattle.key_order.specs.Map.{IsMap}
use Rattle.sqlite_trees.specs.Tree.{Trees, IsAscending}
use Rattle.sqlite_trees.proofs.ListLemmas.{ascending-filter}
use Rattle.store_file.specs.declared.register.Register.{Register}
use Rattle.store_file.specs.Changes.{HasInstead}
use Rattle.store_file.specs.Entries.{entry_row, entry_order}
use Rattle.store_file.specs.Registers.{HaveLateTime}
use Rattle.store_file.specs.Rows.{stays}
use Rattle.store_file.proofs.OrderOfEntries.{with_ascending, ascending_map}

-- as many rows are left as were put in place of the table's own
pub as_many_left : (before : ℕ) (rows : List (Key × Register)) (old new : Trees) → IsMap text_order rows → HasInstead (map entry_row (filter (stays before) rows)) old new
    → length (filter (stays before) rows) ≡ length (new 0)
as_many_left before rows old new up has =
    let kept = filter (stays before) rows in
    let ascending : IsAscending (λ a b. entry_order a b ≡ Less) kept = ascending-filter _ (stays before) rows (ascending_map rows up) in
    sym (length-map kept entry_row) ∙ ap length (sym (with_ascending kept ascending)) ∙ ap length (sym has.entries)

-- a late row that stays in a compaction is one of the rows
pub late_before : (before : ℕ) (rows : List (Key × Register)) → HaveLateTime (filter (stays before) rows) → HaveLateTime rows
late_before before rows h =
    let all = All-filter (stays before) (Contains rows) rows (All-contains_itself rows) in
    let there = All-contains (Contains rows) (filter (stays before) rows) h.1 all (h.0, h.2, h.3) in
    (there.0, h.1, there.1, there.2, h.4)
