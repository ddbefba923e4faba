use Rattle.merkle_search_tree.specs.Items.{bound_of}
use Rattle.merkle_wire.specs.Gaps.{owned_gap}
use Rattle.merkle_wire.proofs.Ascending.{go_on-more, go_on-all}
use Rattle.merkle_wire.proofs.Outside.{go_on_behind, not_between}
use Rattle.merkle_wire.proofs.within.rows_lie_in.Goals as goal

pub rows-preserved : goal.rows-preserved
rows-preserved g c =
    let cmp = g.K.Ord.cmp in
    let gap = owned_gap c.args.gap.now in
    let between = c.is_between.ensures.inside c.if-not-is_between.false in
    let x = c.row-item.result in (
      go_on-more cmp (λ x. x.0) gap (bound_of c.rows.after) c.args.rows.now c.rows.row-index x c.rows-test.true c.row-item.is c.rows.invariant.0 between.0 between.1,
      go_on_behind cmp (λ x. x.0) gap (bound_of c.rows.after) c.args.rows.now c.rows.row-index x c.rows-test.true c.row-item.is c.rows.invariant.1,
    )

pub returns-then-not-is_between-clause-outside : goal.returns-then-not-is_between-clause-outside
returns-then-not-is_between-clause-outside g c = λ t.
    not_between g.K.Ord.cmp (λ x. x.0) (owned_gap c.args.gap.now) (bound_of c.rows.after) c.args.rows.now c.rows.row-index c.row-item.result c.rows-test.true c.row-item.is
    c.rows.invariant.1 (c.is_between.ensures.outside c.if-not-is_between.true)

pub returns-clause-inside : goal.returns-clause-inside
returns-clause-inside g c = λ t. go_on-all g.K.Ord.cmp (λ x. x.0) (owned_gap c.args.gap.now) (bound_of c.rows.after) c.args.rows.now c.rows.row-index c.rows-test.false c.rows.invariant.0
