use Rattle.std.proofs.Common.{false, refl, sym, ◌∙◌, arith}
use Rattle.std.proofs.lemmas.Bool.{false≢true}
use Rattle.merkle_audit.specs.Values.{HasOneDigest}
use Rattle.merkle_audit.proofs.Prefixes.{all_here, first_more}
use Rattle.merkle_audit.proofs.values.have_one_digest.Goals as goal

pub returns-then-not-has_one_digest : goal.returns-then-not-has_one_digest
returns-then-not-has_one_digest g c =
    let P = HasOneDigest g.H.Hasher-2.digest_of c.args.a.now c.args.b.now in (
      λ t. absurd (false≢true t),
      λ all. absurd
          (false≢true (sym c.if-not-has_one_digest.true ∙ c.has_one_digest.ensures.1 (all_here P c.args.rows.now c.rows.row-index c.row-item.result c.rows-test.true c.row-item.is all))),
    )

pub rows-preserved : goal.rows-preserved
rows-preserved g c =
    let P = HasOneDigest g.H.Hasher-2.digest_of c.args.a.now c.args.b.now in
    first_more P c.args.rows.now c.rows.row-index c.row-item.result c.rows-test.true c.row-item.is (c.has_one_digest.ensures.0 c.if-not-has_one_digest.false) c.rows.invariant

pub returns : goal.returns
returns g c = (λ t k d inside. c.rows.invariant k d (omega (arith, inside, c.rows-test.false)), λ all. refl)
