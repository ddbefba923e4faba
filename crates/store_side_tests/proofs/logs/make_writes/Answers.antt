use Rattle.store_side_tests.proofs.logs.make_writes.Goals as goal

pub returns-in_err-make_write : goal.returns-in_err-make_write
returns-in_err-make_write g c = record { stands = λ stood. c.make_write.ensures.stands (c.writes.invariant stood) }

pub writes-preserved : goal.writes-preserved
writes-preserved g c stood = c.make_write.ensures.stands (c.writes.invariant stood)
