use Rattle.merkle_delta.proofs.ToldChunks.{one_more_same}
use Rattle.merkle_delta.proofs.delta.run_len.Goals as goal

pub same-preserved : goal.same-preserved
same-preserved c = one_more_same c.args.checksums.now c.args.chunks.now c.args.from c.args.done c.same.len c.same.invariant (c.is_same.ensures c.if-is_same.true)
