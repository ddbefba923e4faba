use Rattle.std.proofs.Common.{subst}
use Rattle.std.proofs.lemmas.Result.{IfOk-weaker}
use Rattle.merkle_replica.specs.Contents.{IsTreeOfSide, side}
use Rattle.merkle_replica.proofs.SideLaws.{laws_of, same_side}
use Rattle.merkle_audit.proofs.FaithfulNodes.{faithful_in_all}
use Rattle.merkle_audit.proofs.nodes.have_faithful_nodes.Goals as goal

pub returns-clause-told : goal.returns-clause-told
returns-clause-told g c = rw g.met.H.RowHasher.laws_are (
    let laws = laws_of g.K.Ord.cmp g.K.KeyBytes.bytes_of g.H.Hasher-1.digest_of g.V.PartialEq.eq g.V.Join.join_of g.H.Hasher-2.digest_of in
    let peer = c.args.peer.now in
    let hashed = c.hash.new.self in
    let same = same_side peer hashed c.hash.ensures.rows c.hash.ensures.settings in
    let of_peer = subst (λ s. IsTreeOfSide laws s hashed.tree.root) same (rw g.met.H.RowHasher.laws_are at c.a_replica_has_the_tree_of_its_rows.ensures) in
    IfOk-weaker c.all_are_faithful.result _ _
    (λ are f t. faithful_in_all laws g.met.K.Ord.total c.a_map_has_one_tree.ensures.pages (side c.args.local.now) (side peer) hashed.tree.root of_peer (f t))
    (rw g.met.H.RowHasher.laws_are at c.all_are_faithful.ensures))
