-- What a pull would bring, in lines.
use Rattle.std.specs.Prelude.{ℕ, Bool, List, ◌++◌, codes, decimal, string_bytes, if◌then◌else◌}
use Rattle.key_order.specs.Text.{Text as Key}
use Rattle.store_file.specs.declared.register.Register.{Register}
use Rattle.mst_commands.specs.Escapes.{escaped_line, json_of}
use Rattle.mst_commands.specs.Values.{said_member}

-- the key of an entry in a line
abbrev pub key_line : Key × Register → List ℕ
key_line entry = escaped_line (string_bytes entry.0) ++ codes "\n"

-- an entry in a line, as an object of JSON
abbrev pub entry_object : Key × Register → List ℕ
entry_object entry =
    codes "{\"key\":" ++ (json_of (string_bytes entry.0) ++ (codes ",\"time\":" ++ (decimal entry.1.time ++ (codes ",\"writer\":"
    ++ (json_of (string_bytes entry.1.writer) ++ (codes "," ++ (said_member entry.1.value ++ codes "}\n")))))))

-- the line of an entry, as JSON or not
unfoldable pub news_line : Bool → Key × Register → List ℕ
news_line json entry = if json then entry_object entry else key_line entry
