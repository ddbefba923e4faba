use Rattle.std.proofs.Common.{rules}
use Rattle.std.proofs.lemmas.Nat.{le_bytes_8}
use Rattle.c_values.proofs.reading.number.Goals as goal

pub returns : goal.returns
returns c = le_bytes_8 c.args.bytes.now _ (search rules) (search rules) c.from_le_bytes.ensures
