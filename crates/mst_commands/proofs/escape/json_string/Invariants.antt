use Rattle.std.proofs.Common.{◌≡◌, ◌++◌, codes, string_bytes, encode_utf8_all}
use Rattle.std.specs.List.{flat_map}
use Rattle.mst_commands.specs.Escapes.{json_char}
use Rattle.mst_commands.proofs.escape.json_string.Given as goal

abbrev pub invariant-characters : goal.invariant-characters
invariant-characters l = string_bytes l.line ≡ codes "\"" ++ encode_utf8_all (flat_map json_char l.yielded)
