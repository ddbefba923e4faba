use Rattle.std.proofs.Common.{Some, ap, sym, subst, ◌∙◌}
use Rattle.key_order.specs.Map.{get}
use Rattle.key_order.specs.Order.{Same}
use Rattle.key_order.proofs.Places.{get_at_place, get_in_gap}
use Rattle.merkle_replica.specs.Contents.{Contents}
use Rattle.key_order.specs.Places.{IsPlaceOf, IsGapFor}
use Rattle.merkle_replica.proofs.replica.Replica.row_at.Goals as goal

pub returns-in-Ok : goal.returns-in-Ok
returns-in-Ok g c =
    let cmp = g.K.Ord.cmp in
    let k = c.args.key.now in
    let x = c.index.result.now in
    let p = subst (λ rs. IsPlaceOf cmp k rs c.in-Ok.at) c.deref.ensures.value c.in-Ok.ensures.found in
    let rows = ap (λ (v : Contents g.row.K.Denot g.row.V.Denot g.row.H.Denot). get cmp v.rows k) (sym c.self.view_is) in (
      subst (λ (r : g.row.K.Denot × g.row.V.Denot). Same cmp r.0 k) (sym c.index.ensures) (p.here x),
      rows ∙ get_at_place cmp g.met.K.Ord.total c.self.inside.rows.items c.in-Ok.at k x c.self.invariant.ascending p.in_range (p.here x)
          ∙ ap (λ (r : g.row.K.Denot × g.row.V.Denot). Some r.1) (sym c.index.ensures),
    )

pub returns-in-Err : goal.returns-in-Err
returns-in-Err g c =
    let cmp = g.K.Ord.cmp in
    let k = c.args.key.now in
    let p = subst (λ rs. IsGapFor cmp k rs c.in-Err.field-0) c.deref.ensures.value c.in-Err.ensures.absent in
    ap (λ (v : Contents g.row.K.Denot g.row.V.Denot g.row.H.Denot). get cmp v.rows k) (sym c.self.view_is)
    ∙ get_in_gap cmp g.met.K.Ord.total c.self.inside.rows.items c.in-Err.field-0 k p.in_range p.lower p.higher
