use Rattle.merkle_bytes.specs.Counts.{count_told}
use Rattle.merkle_bytes.proofs.laws.bytes_tell_counts.Goals as goal

pub returns : goal.returns
returns c = count_told
