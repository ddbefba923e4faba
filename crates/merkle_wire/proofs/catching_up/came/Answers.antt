use Rattle.std.proofs.Common.{ap, inr, refl}
use Rattle.std.specs.Ordering.{is_lt}
use Rattle.std.proofs.lemmas.List.Sorted.{answers_always, ranks_by}
use Rattle.merkle_wire.proofs.Twins.{sorted_twins, twins_of}
use Rattle.merkle_wire.proofs.catching_up.came.Goals as goal

pub returns-clause-ended : goal.returns-clause-ended
returns-clause-ended g c =
    let cmp = g.K.Ord.cmp in
    let sorted = c.sort_by.new.self.items in
    let order = c.in_ok-sort_by.ensures.sorted _ (ranks_by g.met.K.Ord.total (λ (r : g.row.K.Denot × g.row.V.Denot). r.0)) (answers_always _ _ _ (λ f a r f' k. ap is_lt k.met)) in
    inr (
      refl,
      twins_of cmp g.met.K.Ord.total c.args.rows.items sorted c.sort_by.ensures.permutation
          (sorted_twins cmp g.met.K.Ord.total sorted order (rw c.deref.ensures.value at (c.rows_ascend.ensures.others c.if-rows_ascend.false))),
    )
