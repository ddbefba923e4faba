use Rattle.std.proofs.Common.{arith}
use Rattle.merkle_digest.proofs.LevelLemmas.{all_zero_more, level_of-stop, level_of-all}
use Rattle.merkle_digest.proofs.levels.level_of_bytes.Goals as goal

pub zeros-preserved : goal.zeros-preserved
zeros-preserved c = record {
  all_zero = all_zero_more c.args.bytes.now c.zeros.byte-index c.zeros.invariant.all_zero c.zeros-test.true c.if-byte-ne0.false;
  counted = omega arith;
}

pub returns-then-byte-ne0 : goal.returns-then-byte-ne0
returns-then-byte-ne0 c =
    level_of-stop c.args.bytes.now _ c.zeros.byte-index _ _ _ _ c.zeros.invariant.all_zero c.zeros-test.true c.if-byte-ne0.true
    c.zeros.invariant.counted c.get.ensures.value c.from.ensures c.saturating_add.ensures

pub returns : goal.returns
returns c = level_of-all c.args.bytes.now _ c.zeros.byte-index _ c.zeros.invariant.all_zero (omega arith) c.zeros.invariant.counted
