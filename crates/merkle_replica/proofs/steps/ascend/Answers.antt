use Rattle.std.proofs.Common.{◌≡◌, suc, ◌-◌, false, get_or, refl, sym, subst, ◌∙◌, arith}
use Rattle.std.proofs.lemmas.Bool.{false≢true}
use Rattle.key_order.specs.Order.{Below, below}
use Rattle.merkle_replica.proofs.RangesOfKeys.{next_further, beside, map_from}
use Rattle.merkle_replica.proofs.Seeks.{rows_rise}
use Rattle.merkle_replica.proofs.steps.ascend.Goals as goal

pub returns-then-not-is_below : goal.returns-then-not-is_below
returns-then-not-is_below g c =
    let rows = c.args.rows.now in
    let i = c.testing.i in
    let x = c.index-rows-i.result in
    let y = c.index-rows-i-in-testing.result in
    let b : below g.K.Ord.cmp (get_or rows (i - 1) x).0 (get_or rows i y).0 ≡ false =
    subst (λ (p : g.row.K.Denot × g.row.V.Denot). below g.K.Ord.cmp p.0 (get_or rows i y).0 ≡ false) c.index-rows-i.is
    (subst (λ (q : g.row.K.Denot × g.row.V.Denot). below g.K.Ord.cmp x.0 q.0 ≡ false) c.index-rows-i-in-testing.is (sym c.is_below.ensures ∙ c.if-not-is_below.true)) in (
      λ t. absurd (false≢true t),
      λ m. absurd
          (false≢true (sym b ∙ rows_rise g.K.Ord.cmp g.met.K.Ord.total rows (i - 1) i c.index-rows-i.result c.index-rows-i-in-testing.result m
          (omega (arith, c.testing.auto.i)) (omega arith))),
    )

pub testing-preserved : goal.testing-preserved
testing-preserved g c =
    let rows = c.args.rows.now in
    let i = c.testing.i in
    λ j d.
    next_further (λ n. Below g.K.Ord.cmp (get_or rows n d).0 (get_or rows (suc n) d).0) i (λ n l. c.testing.invariant n d l)
    (λ n e. beside (λ x y. Below g.K.Ord.cmp x.0 y.0) rows i n c.index-rows-i.result c.index-rows-i-in-testing.result d e (omega arith)
    (subst (λ (p : g.row.K.Denot × g.row.V.Denot). Below g.K.Ord.cmp p.0 (get_or rows i c.index-rows-i-in-testing.result).0) c.index-rows-i.is
    (subst (λ (q : g.row.K.Denot × g.row.V.Denot). Below g.K.Ord.cmp c.index-rows-i.result.0 q.0) c.index-rows-i-in-testing.is
    (sym c.is_below.ensures ∙ c.if-not-is_below.false)))) j

pub returns : goal.returns
returns g c = (λ t. map_from g.K.Ord.cmp g.met.K.Ord.total c.args.rows.now (λ j d h. c.testing.invariant j d (omega (arith, h, c.testing-test.false))), λ m. refl)
