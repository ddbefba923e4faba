-- Values in a line, and as members of objects of JSON.
use Rattle.std.specs.Prelude.{ℕ, List, ◌++◌, codes, string_bytes, Option, Some, None}
use Rattle.merkle_digest.specs.Digest.{base64_of}
use Rattle.store_file.specs.declared.value.Value.{Value}
use Rattle.store_file.specs.declared.value.Value.TheVariants.{Text, Bytes}
use Rattle.mst_commands.specs.Escapes.{escaped_line, json_of}

-- a text in a line, or the base64 of other bytes after what begins no text's line, where a backslash is before no b
abbrev pub value_line : Value → List ℕ
value_line (Text text) = escaped_line (string_bytes text)
value_line (Bytes bytes) = codes "\\base64:" ++ base64_of bytes.items

-- a value as a member of an object of JSON
abbrev pub value_member : Value → List ℕ
value_member (Text text) = codes "\"value\":" ++ json_of (string_bytes text)
value_member (Bytes bytes) = codes "\"value_base64\":\"" ++ (base64_of bytes.items ++ codes "\"")

-- what is said, as such a member: null where the key was removed
abbrev pub said_member : Option Value → List ℕ
said_member (Some value) = value_member value
said_member None = codes "\"value\":null"
