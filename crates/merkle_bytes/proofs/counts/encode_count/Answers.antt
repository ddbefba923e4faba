use Rattle.merkle_bytes.specs.Counts.{count_bytes}
use Rattle.merkle_bytes.proofs.counts.encode_count.Goals as goal

pub returns : goal.returns
unfolding count_bytes
returns c = c.encode_bits.ensures
