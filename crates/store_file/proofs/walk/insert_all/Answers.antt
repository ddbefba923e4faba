use Rattle.std.proofs.Common.{◌∙◌, ap, sym, map, take, arith, ◌≡◌, ◌∷◌, [], length, ◌<◌, ◌+◌, ◌++◌, rules}
use Rattle.std.proofs.lemmas.List.{map_more}
use Rattle.std.proofs.lemmas.List.Sums.{fold-append}
use Rattle.sqlite_value.specs.Keys.{plain}
use Rattle.sqlite_trees.specs.Tree.{insert_entry}
use Rattle.store_file.specs.Entries.{entry_row, with_more_rows}
use Rattle.store_file.specs.Logs.{IsClean, trees_of}
use Rattle.store_file.proofs.Walking.{uncommitted_then, writes_then, tables_kept}
use Rattle.store_file.proofs.walk.insert_all.Goals as goal

pub entries-preserved : goal.entries-preserved
entries-preserved g c =
    let view = g.S.Store.view in
    let old = c.args.trees.now in
    let mid = c.entries.trees in
    let new = c.insert.new.trees in
    let was = c.entries.invariant in
    let did = c.in_ok-insert.ensures in
    let seen = map entry_row (take c.entries.entry-index c.args.entries.now) in
    let one = entry_row c.entry-item.result in
    let early : IsClean g.S.Store new → IsClean g.S.Store mid = λ clean. omega (arith, c.insert.ensures.uncommitted.quiet.clean, clean) in
    record {
      tables = λ clean. tables_kept (view mid) (view new) c.insert.ensures.uncommitted.schema (was.tables (early clean));
      added = λ clean.
          let low : c.entries.entry-index < length c.args.entries.now = omega arith in
          let more : map entry_row (take (c.entries.entry-index + 1) c.args.entries.now) ≡ seen ++ one ∷ [] =
          map_more entry_row c.args.entries.now c.entries.entry-index c.entry-item.result low ∙ ap (λ e. seen ++ entry_row e ∷ []) (sym c.entry-item.is) in
          let here = rw c.as_str.ensures.value at (did.added clean) in
          let start = trees_of g.S.Store old 0 in
          record {
            entries = here.entries ∙ ap (insert_entry plain one) (was.added (early clean)).entries
                ∙ sym (fold-append (λ all row. insert_entry plain row all) start seen (one ∷ [])) ∙ ap (with_more_rows start) (sym more);
            about = here.about ∙ (was.added (early clean)).about;
          };
      frame = λ clean. writes_then (view old) (view mid) (view new) (was.frame (early clean)) (did.frame clean);
      uncommitted = uncommitted_then g.S.Store old mid new was.uncommitted c.insert.ensures.uncommitted;
    }

pub returns-in_err-insert-clause-late : goal.returns-in_err-insert-clause-late
returns-in_err-insert-clause-late g c is =
    let low : c.entries.entry-index < length c.args.entries.now = omega arith in
    (c.entries.entry-index, c.entry-item.result, low, sym c.entry-item.is, c.insert.ensures.late (search rules))
