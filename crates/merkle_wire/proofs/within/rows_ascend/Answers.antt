use Rattle.std.proofs.Common.{None, map, subst}
use Rattle.merkle_wire.specs.Coming.{AscendIn}
use Rattle.merkle_wire.proofs.Ascending.{between-map}
use Rattle.merkle_wire.proofs.within.rows_ascend.Goals as goal

pub returns-clause-ascending : goal.returns-clause-ascending
returns-clause-ascending g c = λ t.
    let rows = c.args.rows.now in
    between-map g.K.Ord.cmp g.met.K.Ord.total None None rows (subst (λ gap. AscendIn g.K.Ord.cmp gap (map (λ r. r.0) rows)) c.everywhere.ensures (c.rows_lie_in.ensures.inside t))

pub returns-clause-others : goal.returns-clause-others
returns-clause-others g c = λ t. subst (λ gap. ¬ AscendIn g.K.Ord.cmp gap (map (λ r. r.0) c.args.rows.now)) c.everywhere.ensures (c.rows_lie_in.ensures.outside t)
