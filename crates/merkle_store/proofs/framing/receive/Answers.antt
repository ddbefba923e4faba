use Rattle.std.proofs.Common.{◌∙◌, rules}
use Rattle.merkle_store.proofs.Messages.{message_read}
use Rattle.merkle_store.proofs.framing.receive.Goals as goal

pub returns-clause-came : goal.returns-clause-came
returns-clause-came g c =
    message_read _ _ _ c.in-Some.len c.in_ok-body.body.items (search rules) c.in_ok-body.ensures.read (search rules) (search rules) (c.in_ok-body.ensures.len ∙ c.from_le_bytes-len.ensures)
