use Rattle.std.proofs.Common.{◌≡◌, ◌+◌, ◌∷◌, drop, refl, ap, sym, ◌∙◌}
use Rattle.std.proofs.lemmas.List.{drop_all, drop_more}
use Rattle.std.specs.Ordering.{is_eq}
use Rattle.key_order.specs.Map.{get}
use Rattle.key_order.proofs.Maps.{at_head}
use Rattle.examples.proofs.shelf.find.Goals as goal

pub rows-init : goal.rows-init
rows-init g c = refl

pub returns-in-Equal : goal.returns-in-Equal
returns-in-Equal g c =
    let cmp = g.K.Ord.cmp in
    let rows = c.args.rows.now in
    let key = c.args.key.now in
    let i = c.rows.row-index in
    let x = c.row-item.result in
    let same = sym c.cmp.ensures ∙ c.in-Equal.is in (
      same,
      c.rows.invariant ∙ ap (λ rs. get cmp rs key) (drop_more rows i x c.rows-test.true ∙ ap (λ y. y ∷ drop (i + 1) rows) (sym c.row-item.is))
          ∙ at_head cmp g.met.K.Ord.total x (drop (i + 1) rows) key same,
    )

pub returns : goal.returns
returns g c = c.rows.invariant ∙ ap (λ rs. get g.K.Ord.cmp rs c.args.key.now) (drop_all c.rows.row-index c.args.rows.now c.rows-test.false)
