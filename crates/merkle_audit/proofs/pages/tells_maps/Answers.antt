use Rattle.std.proofs.Common.{refl, sym, ◌∙◌}
use Rattle.std.proofs.lemmas.Bool.{false≢true}
use Rattle.merkle_diff.specs.PageRange.{entry}
use Rattle.merkle_audit.specs.Pages.{TellsMap}
use Rattle.merkle_audit.proofs.SoFar.{each_more, each_of_all, each_there}
use Rattle.merkle_audit.proofs.pages.tells_maps.Goals as goal

pub others-preserved : goal.others-preserved
others-preserved g c =
    let tells = TellsMap g.K.Ord.cmp g.H.Hasher-2.digest_of c.args.a.now c.args.b.now (entry c.args.range.now) in
    each_more tells entry c.args.theirs.now c.others.other-index c.other-item.result c.others-test.true c.other-item.is c.others.invariant (c.tells_map.ensures.0 c.if-not-tells_map.false)

pub returns-then-not-tells_map : goal.returns-then-not-tells_map
returns-then-not-tells_map g c =
    let tells = TellsMap g.K.Ord.cmp g.H.Hasher-2.digest_of c.args.a.now c.args.b.now (entry c.args.range.now) in (
      λ t. absurd (false≢true t),
      λ all. absurd (false≢true (sym c.if-not-tells_map.true ∙ c.tells_map.ensures.1
          (each_there tells entry c.args.theirs.now c.others.other-index c.other-item.result c.others-test.true c.other-item.is all))),
    )

pub returns : goal.returns
returns g c =
    let tells = TellsMap g.K.Ord.cmp g.H.Hasher-2.digest_of c.args.a.now c.args.b.now (entry c.args.range.now) in
    (λ t. each_of_all tells entry c.args.theirs.now c.others.other-index c.others-test.false c.others.invariant, λ all. refl)
