use Rattle.merkle_replica.proofs.SideLaws.{laws_of}
use Rattle.merkle_audit.specs.Values.{IsToldApart}
use Rattle.merkle_audit.proofs.RowValues.{faithful_rows, rows_faithful, told_of_all}
use Rattle.merkle_audit.proofs.values.have_faithful_values.Goals as goal

pub returns : goal.returns
returns g c = rw g.met.H.RowHasher.laws_are (
    let laws = laws_of g.K.Ord.cmp g.K.KeyBytes.bytes_of g.H.Hasher-1.digest_of g.V.PartialEq.eq g.V.Join.join_of g.H.Hasher-2.digest_of in
    let a = c.args.a.now in let b = c.args.b.now in let o = g.met.K.Ord.total in
    told_of_all (IsToldApart laws.cmp laws.eq laws.value_digest a b) c.are_told_apart.result _ _ c.rows.ensures.rows c.are_told_apart.ensures
    (rows_faithful laws o a b) (faithful_rows laws o a b c.rows.ensures.ascending))
