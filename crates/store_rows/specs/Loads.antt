-- The keys of a log, as they are loaded into its tree.
use Rattle.std.specs.Prelude.{ℕ, List, string_bytes}
use Rattle.key_order.specs.Text.{Text}
use Rattle.store_file.specs.declared.register.Register.{Register}
use Rattle.store_rows.specs.Digests.{key_level}

-- the key of a row with its level under the hash key
abbrev pub level_row : List ℕ → Text × Register → Text × ℕ
level_row hash_key row = (row.0, key_level hash_key (string_bytes row.0))
