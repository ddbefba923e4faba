-- What a copy of a store has.
use Rattle.std.specs.Prelude.{◌≡◌, [], List, ℕ, ℤ, map}
use Rattle.key_order.specs.Text.{Text as Key}
use Rattle.sqlite_trees.specs.Tree.{Trees}
use Rattle.store_file.specs.Entries.{entry_row, with_more_rows, IsNoted}
use Rattle.store_file.specs.declared.register.Register.{Register}

-- it has these entries and no others, in this format, by this writer and under this hash key
pub record IsCopyOf (format : ℤ) (writer hash_key : List ℕ) (all : List (Key × Register)) (trees : Trees) : Type 0 where
  pub entries : trees 0 ≡ with_more_rows [] (map entry_row all)
  pub about : IsNoted trees format writer hash_key
