use Rattle.std.proofs.Common.{false, refl, sym, ◌∙◌, arith}
use Rattle.std.proofs.lemmas.Bool.{false≢true}
use Rattle.merkle_audit.specs.Values.{IsToldApart}
use Rattle.merkle_audit.proofs.Prefixes.{all_here, first_more}
use Rattle.merkle_audit.proofs.values.are_told_apart.Goals as goal

pub returns-then-not-is_told_apart : goal.returns-then-not-is_told_apart
returns-then-not-is_told_apart g c =
    let P = IsToldApart g.K.Ord.cmp g.V.PartialEq.eq g.H.Hasher-2.digest_of c.args.a.now c.args.b.now in (
      λ t. absurd (false≢true t),
      λ all. absurd
          (false≢true (sym c.if-not-is_told_apart.true ∙ c.is_told_apart.ensures.1 (all_here P c.args.rows.now c.rows.row-index c.row-item.result c.rows-test.true c.row-item.is all))),
    )

pub rows-preserved : goal.rows-preserved
rows-preserved g c =
    let P = IsToldApart g.K.Ord.cmp g.V.PartialEq.eq g.H.Hasher-2.digest_of c.args.a.now c.args.b.now in
    first_more P c.args.rows.now c.rows.row-index c.row-item.result c.rows-test.true c.row-item.is (c.is_told_apart.ensures.0 c.if-not-is_told_apart.false) c.rows.invariant

pub returns : goal.returns
returns g c = (λ t k d inside. c.rows.invariant k d (omega (arith, inside, c.rows-test.false)), λ all. refl)
