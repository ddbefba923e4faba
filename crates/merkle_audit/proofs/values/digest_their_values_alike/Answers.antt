use Rattle.merkle_replica.proofs.SideLaws.{laws_of}
use Rattle.merkle_audit.specs.Values.{HasOneDigest}
use Rattle.merkle_audit.proofs.RowValues.{alike_rows, rows_alike, told_of_all}
use Rattle.merkle_audit.proofs.values.digest_their_values_alike.Goals as goal

pub returns : goal.returns
returns g c = rw g.met.H.RowHasher.laws_are (
    let laws = laws_of g.K.Ord.cmp g.K.KeyBytes.bytes_of g.H.Hasher-1.digest_of g.V.PartialEq.eq g.V.Join.join_of g.H.Hasher-2.digest_of in
    let local = c.args.local.now in let peer = c.args.peer.now in let o = g.met.K.Ord.total in
    told_of_all (HasOneDigest laws.value_digest local peer) c.have_one_digest.result _ _ c.rows.ensures.rows c.have_one_digest.ensures
    (rows_alike laws o local peer) (alike_rows laws o local peer c.rows.ensures.ascending))
