use Rattle.std.proofs.Common.{rules, ◌≡◌, false, true, sym, ◌∙◌, arith}
use Rattle.std.proofs.lemmas.Result.{err_from_is_err_and}
use Rattle.key_order.specs.Order.{Upto}
use Rattle.key_order.proofs.Orders.{up_up, same_up, same_down}
use Rattle.merkle_bytes.specs.PageRanges.{bounds_told}
use Rattle.merkle_bytes.proofs.EqualByOrder.{eq_same}
use Rattle.merkle_bytes.proofs.page_ranges.OwnedPageRangeDecode.decode.Goals as goal

pub returns-in_err-first-clause-malformed : goal.returns-in_err-first-clause-malformed
returns-in_err-first-clause-malformed g c =
    let p = err_from_is_err_and c.from_residual.result c.from_residual.ensures.1 in
    rw (p.1, p.2) (λ malformed range rest of e. c.in_err-first.ensures.malformed malformed ((range.first, range.last), range.digest) rest ((of.0, of.1), of.3) e)

pub returns-in-None-clause-malformed : goal.returns-in-None-clause-malformed
returns-in-None-clause-malformed g c = λ malformed x rest of e.
    let cmp = g.K.Ord.cmp in
    let first = c.in_ok-first.first in
    let last = c.in_ok-first.last in
    let t = bounds_told g.K.Encode.encoding g.K.PartialEq.eq g.met.K.Decode.told (record { first = first; last = last; digest = c.in_ok-first.digest }) x c.decode.new.reader.left.now rest
    (sym c.in_ok-first.ensures.read ∙ e) in
    let front = same_up cmp g.met.K.Ord.total first x.first (eq_same cmp g.K.PartialEq.eq g.met.K.Ord.matches_eq first x.first t.0) in
    let back = same_down cmp g.met.K.Ord.total last x.last (eq_same cmp g.K.PartialEq.eq g.met.K.Ord.matches_eq last x.last t.1) in
    let upto : Upto cmp first last = up_up cmp g.met.K.Ord.total first x.first last front (up_up cmp g.met.K.Ord.total x.first x.last last of.2 back) in
    let wrong : false ≡ true = c.in-None.ensures.in_order.1 upto in
    absurd (search rules)
