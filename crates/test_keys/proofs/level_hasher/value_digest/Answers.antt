use Rattle.std.proofs.Common.{◌<◌, ap, ◌∙◌, length, arith}
use Rattle.std.specs.Prelude.{slice_index_or}
use Rattle.test_keys.specs.LevelBytes.{value_byte}
use Rattle.test_keys.proofs.Bytes.{write_more, set_length}
use Rattle.test_keys.proofs.level_hasher.value_digest.Goals as goal

pub bytes-preserved : goal.bytes-preserved
bytes-preserved g c =
    let inv = c.bytes.invariant in
    let within : c.bytes.i < length c.bytes.bytes = omega (arith, c.bytes-test.true, inv.1) in (
      write_more (value_byte c.args.value) c.bytes.bytes c.bytes.i c.byte_or_one.result within
          (c.byte_or_one.ensures ∙ ap (λ bs. slice_index_or bs c.bytes.i 1) c.to_le_bytes-own.ensures) inv.0,
      set_length c.bytes.bytes c.bytes.i c.byte_or_one.result ∙ inv.1,
    )
