-- Entries are added to a log one after the other, and their keys to its tree.
use Rattle.std.proofs.Common.{◌≡◌, ℕ, List, [], ◌∷◌, ◌++◌, map, string_bytes, sym, ap, ◌∙◌}
use Rattle.std.proofs.lemmas.List.{map-append}
use Rattle.std.proofs.lemmas.List.Sums.{fold-append}
use Rattle.key_order.specs.Text.{Text}
use Rattle.sqlite_value.specs.Keys.{plain}
use Rattle.sqlite_value.specs.Order.{Row}
use Rattle.sqlite_trees.specs.Tree.{Trees, insert_entry}
use Rattle.store_file.specs.Changes.{HasOneMore}
use Rattle.store_file.specs.Entries.{entry_row, with_more_rows}
use Rattle.store_file.specs.declared.register.Register.{Register}
use Rattle.store_rows.specs.InStep.{AddsInStep, PutsInStep, StaysInStep}

-- rows with one more after some
more_rows : (rows : List Row) (seen : List (Text × Register)) (e : Text × Register)
    → insert_entry plain (entry_row e) (with_more_rows rows (map entry_row seen)) ≡ with_more_rows rows (map entry_row (seen ++ e ∷ []))
more_rows rows seen e =
    sym (fold-append (λ all row. insert_entry plain row all) rows (map entry_row seen) (entry_row e ∷ [])) ∙ ap (with_more_rows rows) (sym (map-append entry_row seen (e ∷ [])))

module _ (hash_key : List ℕ) (seen : List (Text × Register)) (e : Text × Register) (old mid new : Trees) (more : HasOneMore (string_bytes e.0) e.1 mid new) where
  -- an entry more is added
  pub adds_one : StaysInStep hash_key mid new → AddsInStep hash_key seen old mid → AddsInStep hash_key (seen ++ e ∷ []) old new
  adds_one kept was = record {
    more = record {
      entries = more.entries ∙ ap (insert_entry plain (entry_row e)) was.more.entries ∙ more_rows (old 0) seen e;
      about = more.about ∙ was.more.about;
    };
    kept = λ in_step. kept (was.kept in_step);
  }

  -- an entry more is put in place of the old ones
  pub puts_one : StaysInStep hash_key mid new → PutsInStep hash_key seen old mid → PutsInStep hash_key (seen ++ e ∷ []) old new
  puts_one kept was = record {
    instead = record {
      entries = more.entries ∙ ap (insert_entry plain (entry_row e)) was.instead.entries ∙ more_rows [] seen e;
      about = more.about ∙ was.instead.about;
    };
    in_step = kept was.in_step;
  }
