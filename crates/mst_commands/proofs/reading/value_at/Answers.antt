use Rattle.mst_commands.proofs.reading.value_at.Goals as goal

pub returns-clause-said : goal.returns-clause-said
returns-clause-said g c clean = (c.in_ok-found.found, c.in_ok-found.ensures.latest clean, c.value_of.ensures)
