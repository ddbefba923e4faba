-- The rows of a key, in lines.
use Rattle.std.specs.Prelude.{ℕ, Bool, List, [], ◌++◌, codes, decimal, flat_map, string_bytes, Option, Some, None, if◌then◌else◌}
use Rattle.std.specs.Io.KnownBytes.{Appends}
use Rattle.std.specs.Str.{bytes_eq}
use Rattle.key_order.specs.Text.{Text as Key}
use Rattle.sqlite_trees.specs.Tree.{Trees}
use Rattle.store_file.specs.Entries.{HoldsEntries}
use Rattle.store_file.specs.declared.register.Register.{Register}
use Rattle.store_file.specs.declared.value.Value.{Value}
use Rattle.mst_commands.specs.Escapes.{escaped_line, json_of}
use Rattle.mst_commands.specs.Values.{value_line, said_member}

-- what was done at a time by a writer, in a line: a value was put, or the key was removed
abbrev pub change_text : Option Value → List ℕ
change_text (Some value) = codes "\tput\t" ++ (value_line value ++ codes "\n")
change_text None = codes "\tdel\n"

-- the line of a register
abbrev pub change_line : Register → List ℕ
change_line register = decimal register.time ++ (codes "\t" ++ (escaped_line (string_bytes register.writer) ++ change_text register.value))

-- the line of a register, as an object of JSON
abbrev pub change_object : Register → List ℕ
change_object register =
    codes "{\"time\":" ++ (decimal register.time ++ (codes ",\"writer\":" ++ (json_of (string_bytes register.writer)
    ++ (codes "," ++ (said_member register.value ++ codes "}\n")))))

-- the line of an entry, where it is one of the key
unfoldable pub history_line : List ℕ → Bool → Key × Register → List ℕ
history_line key json entry =
    if bytes_eq (string_bytes entry.0) key then (if json then change_object entry.1 else change_line entry.1) else []

-- the lines of the key's entries were written
abbrev pub WritesHistory : {W : Type 0} → List ℕ → Bool → (W → Option (List ℕ)) → W → W → Trees → Type 0
WritesHistory key json contents old new trees =
    (entries : List (Key × Register)) × HoldsEntries trees entries × Appends (contents old) (contents new) (flat_map (history_line key json) entries)
