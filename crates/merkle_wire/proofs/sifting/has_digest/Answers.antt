use Rattle.std.proofs.Common.{◌≡◌, ap, ◌∙◌}
use Rattle.std.proofs.lemmas.Result.{IfOk-weaker}
use Rattle.key_order.specs.Map.{get}
use Rattle.merkle_replica.specs.Contents.{tree_map}
use Rattle.merkle_replica.proofs.Descents.{same_get}
use Rattle.merkle_replica.proofs.SideLaws.{laws_of}
use Rattle.merkle_wire.specs.ItsRows.{ForRowsOf, side_of}
use Rattle.merkle_wire.specs.Taking.{has_digest, is_digest}
use Rattle.merkle_wire.proofs.sifting.has_digest.Goals as goal

pub returns-clause-has : goal.returns-clause-has
returns-clause-has g c = rw g.met.H.RowHasher.laws_are (λ sound.
    let laws = laws_of g.K.Ord.cmp g.K.KeyBytes.bytes_of g.H.Hasher-1.digest_of g.V.PartialEq.eq g.V.Join.join_of g.H.Hasher-2.digest_of in
    let tree = (g.T.KeptTree.kept c.args.tree.now).digests in
    let key = c.args.key.now in
    let digest = c.args.digest.now in
    IfOk-weaker c.has_digest.result (λ has. has ≡ is_digest (get g.K.Ord.cmp tree.map key) digest)
    (λ has. ForRowsOf laws tree (λ local. has ≡ has_digest laws local key digest))
    (λ has is rows kept. is ∙ ap (λ found. is_digest found digest)
    (same_get g.K.Ord.cmp g.met.K.Ord.total tree.map (tree_map laws (side_of tree rows)) kept key))
    (c.has_digest.ensures.has sound))
