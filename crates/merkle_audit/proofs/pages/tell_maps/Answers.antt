use Rattle.std.proofs.Common.{refl, sym, ◌∙◌}
use Rattle.std.proofs.lemmas.Bool.{false≢true}
use Rattle.merkle_diff.specs.PageRange.{entry, entries}
use Rattle.merkle_audit.specs.Pages.{TellsMaps}
use Rattle.merkle_audit.proofs.SoFar.{each_more, each_of_all, each_there}
use Rattle.merkle_audit.proofs.pages.tell_maps.Goals as goal

pub pages-preserved : goal.pages-preserved
pages-preserved g c =
    let tells = TellsMaps g.K.Ord.cmp g.H.Hasher-2.digest_of c.args.a.now c.args.b.now (entries c.args.theirs.now) in
    each_more tells entry c.args.ours.now c.pages.range-index c.range-item.result c.pages-test.true c.range-item.is c.pages.invariant (c.tells_maps.ensures.0 c.if-not-tells_maps.false)

pub returns-then-not-tells_maps : goal.returns-then-not-tells_maps
returns-then-not-tells_maps g c =
    let tells = TellsMaps g.K.Ord.cmp g.H.Hasher-2.digest_of c.args.a.now c.args.b.now (entries c.args.theirs.now) in (
      λ t. absurd (false≢true t),
      λ all. absurd (false≢true (sym c.if-not-tells_maps.true ∙ c.tells_maps.ensures.1
          (each_there tells entry c.args.ours.now c.pages.range-index c.range-item.result c.pages-test.true c.range-item.is all))),
    )

pub returns : goal.returns
returns g c =
    let tells = TellsMaps g.K.Ord.cmp g.H.Hasher-2.digest_of c.args.a.now c.args.b.now (entries c.args.theirs.now) in
    (λ t. each_of_all tells entry c.args.ours.now c.pages.range-index c.pages-test.false c.pages.invariant, λ all. refl)
