use Rattle.mst_pair.proofs.engine.Engine.carry_out.Goals as goal

pub returns-in-Put-clause-bytes : goal.returns-in-Put-clause-bytes
returns-in-Put-clause-bytes g c = rw c.in-Put.is c.answer_put.ensures.bytes

pub returns-in-Del-clause-bytes : goal.returns-in-Del-clause-bytes
returns-in-Del-clause-bytes g c = rw c.in-Del.is c.answer_del.ensures.bytes
