-- What a write by the writer of a name adds to the table.
use Rattle.std.specs.Prelude.{◌≡◌, ℕ, Bool, true, false, List, Option, is_none, string_bytes}
use Rattle.std.specs.Option.{option_map_or}
use Rattle.std.specs.Str.{bytes_eq}
use Rattle.key_order.specs.Text.{Text as Key}
use Rattle.sqlite_trees.specs.Tree.{Trees}
use Rattle.store_file.specs.Latest.{WritesOver}
use Rattle.store_file.specs.declared.value.Value.{Value}
use Rattle.store_file.specs.declared.value.Value.TheVariants as form
use Rattle.mst_words.specs.declared.command.Wanted.{Wanted}
use Rattle.mst_words.specs.declared.command.Wanted.TheVariants as wanted
use Rattle.mst_commands.specs.Reads.{IsValueAt}

-- one row is added, and nothing else changes: a write of the value by this name, over the latest register of the key
abbrev pub WritesBy : List ℕ → List ℕ → ℕ → Option Value → Trees → Trees → Type 0
WritesBy key name now value old new = (writer : Key) × (string_bytes writer ≡ name) × WritesOver key writer now value old new

-- whether a value is this text
abbrev pub is_text : List ℕ → Value → Bool
is_text text (form.Text own) = bytes_eq (string_bytes own) text
is_text text (form.Bytes bytes) = false

-- whether a key that says this is as a write wants it: it is not there, or has this text
abbrev pub is_met : Wanted → Option Value → Bool
is_met wanted.Absence said = is_none said
is_met (wanted.Text text) said = option_map_or (is_text text.now) said false

-- whether the key is as a write wants it
abbrev pub IsMet : Wanted → List ℕ → Bool → Trees → Type 0
IsMet wanted key met trees = (said : Option Value) × IsValueAt trees key said × (met ≡ is_met wanted said)

-- the key is as the write wants it, and the value is written under it
abbrev pub WritesIf : Wanted → List ℕ → List ℕ → ℕ → Option Value → Trees → Trees → Type 0
WritesIf wanted key name now value old new = IsMet wanted key true old × WritesBy key name now value old new
