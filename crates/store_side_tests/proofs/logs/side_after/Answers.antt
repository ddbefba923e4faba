use Rattle.store_side_tests.proofs.logs.side_after.Goals as goal

pub side_of-requires-clause-stands : goal.side_of-requires-clause-stands
side_of-requires-clause-stands g c =
    rw c.into_trees.ensures.same (c.make_writes.ensures.stands (λ clean opened. (c.in_ok-replace_all.ensures.replaced.made clean).in_step))
