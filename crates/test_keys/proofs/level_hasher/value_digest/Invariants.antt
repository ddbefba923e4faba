use Rattle.std.proofs.Common.{◌≡◌, take, length}
use Rattle.test_keys.specs.LevelBytes.{value_byte, bytes_from}
use Rattle.test_keys.proofs.level_hasher.value_digest.Given as goal

abbrev pub invariant-bytes : goal.invariant-bytes
invariant-bytes g l = (take l.i l.bytes ≡ bytes_from (value_byte l.value) l.i 0) × (length l.bytes ≡ g.row.N)
