use Rattle.std.proofs.Common.{◌≡◌, take, length}
use Rattle.test_keys.specs.LevelBytes.{level_byte, bytes_from}
use Rattle.test_keys.proofs.level_hasher.level_digest.Given as goal

abbrev pub invariant-bytes : goal.invariant-bytes
invariant-bytes g l = (take l.i l.bytes ≡ bytes_from (level_byte l.level) l.i 0) × (length l.bytes ≡ g.row.N)
