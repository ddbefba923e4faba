use Rattle.std.proofs.Common.{◌≡◌, string_bytes, encode_utf8_all}
use Rattle.std.specs.List.{flat_map}
use Rattle.mst_commands.specs.Escapes.{escape_of}
use Rattle.mst_commands.proofs.escape.escape.Given as goal

abbrev pub invariant-characters : goal.invariant-characters
invariant-characters l = string_bytes l.line ≡ encode_utf8_all (flat_map escape_of l.yielded)
