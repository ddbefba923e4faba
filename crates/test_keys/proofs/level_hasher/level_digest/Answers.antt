use Rattle.std.proofs.Common.{◌<◌, ◌∙◌, length, arith}
use Rattle.test_keys.specs.LevelBytes.{level_byte}
use Rattle.test_keys.proofs.Bytes.{write_more, set_length}
use Rattle.test_keys.proofs.level_hasher.level_digest.Goals as goal

pub bytes-preserved : goal.bytes-preserved
bytes-preserved g c =
    let inv = c.bytes.invariant in
    let within : c.bytes.i < length c.bytes.bytes = omega (arith, c.bytes-test.true, inv.1) in
    (write_more (level_byte c.args.level) c.bytes.bytes c.bytes.i c.byte_on_level.result within (c.byte_on_level.ensures) inv.0, set_length c.bytes.bytes c.bytes.i c.byte_on_level.result ∙ inv.1)
