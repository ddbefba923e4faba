use Rattle.std.proofs.Common.{◌≡◌, ◌<◌, false, length, get_or, refl, sym, ◌∙◌, subst, arith}
use Rattle.std.proofs.lemmas.Bool.{false≢true}
use Rattle.std.proofs.lemmas.List.{get_or_default}
use Rattle.key_order.specs.Order.{upto}
use Rattle.merkle_replica.proofs.RangesOfKeys.{are_from, are_at, begins_behind_passes}
use Rattle.merkle_diff.proofs.OrderTests.{to_upto}
use Rattle.merkle_replica.proofs.rows_within.are_ranges.Goals as goal

pub returns-then-not-is_upto : goal.returns-then-not-is_upto
returns-then-not-is_upto g c =
    let cmp = g.K.Ord.cmp in
    let rs = c.args.ranges.now in
    let i = c.testing.i in
    let x = c.index-ranges-i.result in
    let y = c.index-ranges-i-in-testing.result in
    let h : i < length rs = omega arith in
    let u : upto cmp (get_or rs i x).0 (get_or rs i y).1 ≡ false = sym c.is_upto.ensures ∙ c.if-not-is_upto.true in
    let v : upto cmp (get_or rs i x).0 (get_or rs i x).1 ≡ false = subst (λ (p : g.row.K.Denot × g.row.K.Denot). upto cmp (get_or rs i x).0 p.1 ≡ false) (get_or_default rs i y x h) u in
    (λ t. absurd (false≢true t), λ a. absurd (false≢true (sym v ∙ to_upto cmp g.met.K.Ord.total (get_or rs i x).0 (get_or rs i x).1 (are_at cmp g.met.K.Ord.total rs i x a h))))

pub returns-then-not-begins_behind : goal.returns-then-not-begins_behind
returns-then-not-begins_behind g c =
    let h : c.testing.i < length c.args.ranges.now = omega arith in (
      λ t. absurd (false≢true t),
      λ a. absurd
          (false≢true (sym c.if-not-begins_behind.true
          ∙ begins_behind_passes g.K.Ord.cmp g.met.K.Ord.total c.args.ranges.now c.testing.i c.begins_behind.result c.index-ranges-i.result
          c.begins_behind.ensures.behind c.begins_behind.ensures.first h a)),
    )

pub returns : goal.returns
returns g c = (
  λ t. are_from g.K.Ord.cmp g.met.K.Ord.total c.args.ranges.now (λ j d h. c.testing.invariant.in_order j d (omega (arith, h, c.testing-test.false)))
      (λ j d h. c.testing.invariant.apart j d (omega (arith, h, c.testing-test.false))),
  λ a. refl,
)
