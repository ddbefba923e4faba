use Rattle.std.proofs.lemmas.Result.{err_from_is_err_and}
use Rattle.merkle_wire.proofs.Exchanges.{key_tells}
use Rattle.merkle_wire.proofs.Fronts.{refused_unread}
use Rattle.merkle_wire.proofs.Unfit.{no_rows-outside}
use Rattle.merkle_wire.proofs.coming.read_rows.Goals as goal

pub returns-in_err-rows-clause-refused : goal.returns-in_err-rows-clause-refused
returns-in_err-rows-clause-refused g c =
    let p = err_from_is_err_and c.from_residual.result c.from_residual.ensures.1 in
    rw (p.1, p.2) (refused_unread _ c.in_err-rows.field-0.0 (λ malformed rows rest are. c.in_err-rows.ensures.malformed malformed rows rest are.1))

pub returns-then-not-rows_lie_in-clause-refused : goal.returns-then-not-rows_lie_in-clause-refused
returns-then-not-rows_lie_in-clause-refused g c =
    no_rows-outside g.K.Ord.cmp g.met.K.Ord.total g.V.PartialEq.eq g.K.Encode.encoding g.V.Encode.encoding
    (key_tells g.K.Ord.cmp g.K.Encode.encoding g.K.PartialEq.eq g.met.K.Ord.matches_eq g.met.K.Decode.told) g.met.V.Decode.told g.K.Decode.is_value g.V.Decode.is_value
    c.args.run.now c.args.gap.now c.args.reader.now.left.now c.in_ok-rows.rows.items c.decode_run.new.reader.left.now c.in_ok-rows.ensures.read
    (rw c.deref.ensures.value at (c.rows_lie_in.ensures.outside c.if-not-rows_lie_in.true))
