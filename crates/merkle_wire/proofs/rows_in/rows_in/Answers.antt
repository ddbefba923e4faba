use Rattle.std.proofs.Common.{sym, subst, ◌∙◌}
use Rattle.key_order.specs.Map.{IsMap}
use Rattle.merkle_wire.specs.Gaps.{owned_gap}
use Rattle.merkle_wire.proofs.InGaps.{map_behind, between_parts}
use Rattle.merkle_wire.proofs.rows_in.rows_in.Goals as goal

pub count_before-count-requires : goal.count_before-count-requires
count_before-count-requires g c =
    subst (IsMap g.K.Ord.cmp) (sym c.split_at.ensures.back) (map_behind g.K.Ord.cmp g.met.K.Ord.total c.args.rows.now c.count_upto-first.result c.requires)

pub returns : goal.returns
returns g c =
    let upto = c.count_upto-first.ensures in
    let before = c.count_before-count.ensures in
    c.split_at-2.ensures.front
    ∙ between_parts g.K.Ord.cmp g.met.K.Ord.total (owned_gap c.args.gap.now) c.args.rows.now c.split_at.result.1.now c.count_upto-first.result c.count_before-count.result c.split_at.ensures.back
    upto.upto upto.behind before.before before.behind
