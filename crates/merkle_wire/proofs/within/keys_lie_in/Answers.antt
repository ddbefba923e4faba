use Rattle.merkle_search_tree.specs.Items.{bound_of}
use Rattle.merkle_wire.specs.Gaps.{owned_gap}
use Rattle.merkle_wire.proofs.Ascending.{go_on-more, go_on-all}
use Rattle.merkle_wire.proofs.Outside.{go_on_behind, not_between}
use Rattle.merkle_wire.proofs.within.keys_lie_in.Goals as goal

pub keys-preserved : goal.keys-preserved
keys-preserved g c =
    let cmp = g.K.Ord.cmp in
    let gap = owned_gap c.args.gap.now in
    let between = c.is_between.ensures.inside c.if-not-is_between.false in
    let x = c.wanted-item.result in (
      go_on-more cmp (λ x. x.key) gap (bound_of c.keys.after) c.args.keys.now c.keys.wanted-index x c.keys-test.true c.wanted-item.is c.keys.invariant.0 between.0 between.1,
      go_on_behind cmp (λ x. x.key) gap (bound_of c.keys.after) c.args.keys.now c.keys.wanted-index x c.keys-test.true c.wanted-item.is c.keys.invariant.1,
    )

pub returns-then-not-is_between-clause-outside : goal.returns-then-not-is_between-clause-outside
returns-then-not-is_between-clause-outside g c = λ t.
    not_between g.K.Ord.cmp (λ x. x.key) (owned_gap c.args.gap.now) (bound_of c.keys.after) c.args.keys.now c.keys.wanted-index c.wanted-item.result c.keys-test.true c.wanted-item.is
    c.keys.invariant.1 (c.is_between.ensures.outside c.if-not-is_between.true)

pub returns-clause-inside : goal.returns-clause-inside
returns-clause-inside g c = λ t. go_on-all g.K.Ord.cmp (λ x. x.key) (owned_gap c.args.gap.now) (bound_of c.keys.after) c.args.keys.now c.keys.wanted-index c.keys-test.false c.keys.invariant.0
