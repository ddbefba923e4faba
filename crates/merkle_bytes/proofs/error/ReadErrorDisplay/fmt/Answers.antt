use Rattle.merkle_bytes.proofs.error.ReadErrorDisplay.fmt.Goals as goal

pub returns-in-Unexpected-clause-writes : goal.returns-in-Unexpected-clause-writes
returns-in-Unexpected-clause-writes g c = rw c.in-Unexpected.is c.write.ensures.writes
