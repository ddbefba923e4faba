use Rattle.std.proofs.Common.{◌≡◌, ◌+◌, ◌++◌, ◌∷◌, [], Some, map, take, drop, refl, ap, sym, subst, ◌∙◌, append-nil}
use Rattle.std.proofs.lemmas.Bool.{true≢false}
use Rattle.std.proofs.lemmas.List.{take_all, map-append}
use Rattle.std.specs.Cmp.Lexicographic.{bytes_decides}
use Rattle.std.specs.List.{flat_map}
use Rattle.std.specs.Prelude.{not}
use Rattle.key_order.specs.Map.{get}
use Rattle.merkle_digest.specs.SipHash.{zero_key}
use Rattle.merkle_digest.specs.Sip24.{Holds}
use Rattle.merkle_replica.specs.Contents.{side, tree_map}
use Rattle.merkle_replica.proofs.SideLaws.{laws_of}
use Rattle.merkle_search_tree.specs.Items.{item, items}
use Rattle.merkle_wire.specs.Outlines.{digest_of_all, keys_among, nodes_among, nodes_digest}
use Rattle.merkle_audit.specs.Nodes.{Differ}
use Rattle.merkle_audit.proofs.NodesAmong.{bytes_more, digests_more, lacked_differ, node_at, nodes_more, some_tell}
use Rattle.merkle_audit.proofs.nodes.differ.Goals as goal
use Rattle.merkle_audit.proofs.nodes.differ.Goals.{in-Node+in-Some, in_default}

pub items-init : goal.items-init
items-init g c = ([], refl, c.new-own.ensures, c.new-theirs.ensures)

pub returns-in-None : goal.returns-in-None
returns-in-None g c = rw g.met.H.RowHasher.laws_are (λ t.
    let laws = laws_of g.K.Ord.cmp g.K.KeyBytes.bytes_of g.H.Hasher-1.digest_of g.V.PartialEq.eq g.V.Join.join_of g.H.Hasher-2.digest_of in
    let local = side c.args.local.now in
    let list = c.args.list.now in
    let i = c.items.item-index in
    let k = c.in-Node.key.now in
    let d = c.in-Node.digest.now in
    subst (Differ laws local) (sym (node_at item list i c.item-item.result k d c.items-test.true c.item-item.is (ap item c.in-Node.is)))
    (lacked_differ laws local (nodes_among (items (take i list))) (nodes_among (items (drop (i + 1) list))) (k, d) (rw g.met.H.RowHasher.laws_are at (sym c.in-None.ensures))))

pub items-preserved : goal.items-preserved
items-preserved g c =
    let at = get g.K.Ord.cmp (tree_map g.H.RowHasher.laws (side c.args.local.now)) in
    let ds = c.items.invariant.0 in
    let x = c.item-item.result in
    let first = items (take c.items.item-index c.args.list.now) in
    let nodes = nodes_among first in
    let all = items (take (c.items.item-index + 1) c.args.list.now) in
    let more = nodes_more item c.args.list.now c.items.item-index x c.items-test.true c.item-item.is in
    elim c.match-item.branch [
      | in-Node+in-Some w ↦ (let own = w.in-Some.hash.now in
          let k = w.in-Node.key.now in
          let d = w.in-Node.digest.now in
          let now : nodes_among all ≡ nodes ++ (k, d) ∷ [] = more ∙ ap (λ y. nodes ++ nodes_among (item y ∷ [])) w.in-Node.is in
          let theirs = w.write-in-Some.ensures zero_key (flat_map (λ e. e) (map (λ n. n.1) nodes)) c.items.invariant.3 in (
            ds ++ own ∷ [],
            digests_more at nodes (nodes_among all) k d ds own now c.items.invariant.1 (sym w.in-Some.ensures),
            subst (λ s. Holds s zero_key (flat_map (λ e. e) (ds ++ own ∷ []))) (sym w.own-is)
                (subst (Holds w.write.new.self zero_key) (bytes_more ds own w.as_bytes.result.now w.as_bytes.ensures) (w.write.ensures zero_key (flat_map (λ e. e) ds) c.items.invariant.2)),
            subst (λ s. Holds s zero_key (flat_map (λ e. e) (map (λ n. n.1) (nodes_among all)))) (sym w.theirs-is)
                (subst (Holds w.write-in-Some.new.self zero_key)
                (bytes_more (map (λ n. n.1) nodes) d w.as_bytes-in-Some.result.now w.as_bytes-in-Some.ensures
                ∙ ap (flat_map (λ e. e)) (sym (map-append (λ n. n.1) nodes ((k, d) ∷ [])) ∙ ap (map (λ n. n.1)) (sym now))) theirs),
          ))
      | in_default w ↦ (let now : nodes_among all ≡ nodes = more ∙ ap (λ y. nodes ++ nodes_among (item y ∷ [])) w.in_default.is ∙ append-nil nodes in (
        ds,
        ap (λ ns. map at (keys_among ns)) now ∙ c.items.invariant.1,
        subst (λ s. Holds s zero_key (flat_map (λ e. e) ds)) (sym w.own-is) c.items.invariant.2,
        subst (λ s. Holds s zero_key (flat_map (λ e. e) (map (λ n. n.1) (nodes_among all)))) (sym w.theirs-is)
            (subst (λ ns. Holds c.items.theirs zero_key (flat_map (λ e. e) (map (λ n. n.1) ns))) (sym now) c.items.invariant.3),
      ))
    ]

pub returns : goal.returns
returns g c = rw g.met.H.RowHasher.laws_are (λ t ds own same.
    let laws = laws_of g.K.Ord.cmp g.K.KeyBytes.bytes_of g.H.Hasher-1.digest_of g.V.PartialEq.eq g.V.Join.join_of g.H.Hasher-2.digest_of in
    let at = get g.K.Ord.cmp (tree_map laws (side c.args.local.now)) in
    let list = c.args.list.now in
    let all = take_all c.items.item-index list c.items-test.false in
    let first = c.items.invariant.0 in
    let here : map at (keys_among (nodes_among (items list))) ≡ map Some first = sym (ap (λ xs. map at (keys_among (nodes_among (items xs)))) all)
    ∙ (rw g.met.H.RowHasher.laws_are at c.items.invariant.1) in
    let is : first ≡ ds = some_tell first ds (sym here ∙ own) in
    let ours : c.finish128.result ≡ digest_of_all first = c.finish128.ensures zero_key (flat_map (λ e. e) first) c.items.invariant.2 in
    let theirs : c.finish128-2.result ≡ nodes_digest (nodes_among (items list)) =
    c.finish128-2.ensures zero_key (flat_map (λ e. e) (map (λ n. n.1) (nodes_among (items (take c.items.item-index list))))) c.items.invariant.3
    ∙ ap (λ xs. nodes_digest (nodes_among (items xs))) all in
    let equal : c.finish128.result ≡ c.finish128-2.result = ours ∙ ap digest_of_all is ∙ same ∙ sym theirs in
    true≢false (sym t ∙ c.ne.ensures ∙ ap not ((bytes_decides c.finish128.result c.finish128-2.result).1 equal)))
