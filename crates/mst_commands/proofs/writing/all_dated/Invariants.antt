use Rattle.std.proofs.Common.{◌≡◌, ◌++◌, length}
use Rattle.std.specs.List.{AllZip}
use Rattle.std.specs.Vec.Iter.{into_iter_items, into_iter_len}
use Rattle.key_order.specs.Text.{text_order}
use Rattle.key_order.specs.Map.{IsMap}
use Rattle.mst_commands.specs.Imports.{IsDated}
use Rattle.mst_commands.proofs.writing.all_dated.Given as goal

-- the entries so far are dated
abbrev pub invariant-entries : goal.invariant-entries
invariant-entries l = record {
  left : l.yielded ++ into_iter_items l.entry-iterator ≡ l.fn.entries.items;
  count : into_iter_len l.entry-iterator ≡ length (into_iter_items l.entry-iterator);
  dated : IsMap text_order l.rows → AllZip (IsDated l.rows l.writer l.now) l.yielded l.all.items;
}
