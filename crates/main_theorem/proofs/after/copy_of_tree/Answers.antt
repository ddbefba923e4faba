use Rattle.std.proofs.Common.{◌≡◌, ap, sym, subst, ◌∙◌}
use Rattle.key_order.specs.Map.{SameMap}
use Rattle.key_order.proofs.SameMaps.{same_map-back}
use Rattle.merkle_search_tree.specs.Loading.{digests}
use Rattle.merkle_tree_theory.specs.State.{State, map_of}
use Rattle.merkle_replica.proofs.SideLaws.{laws_of}
use Rattle.main_theorem.proofs.Roots.{followed, is_defined}
use Rattle.main_theorem.proofs.after.copy_of_tree.Goals as goal

pub returns : goal.returns
returns g c = rw g.met.H.RowHasher.laws_are (λ s m set root h.
    let laws = laws_of g.K.Ord.cmp g.K.KeyBytes.bytes_of g.H.Hasher-1.digest_of g.V.PartialEq.eq g.V.Join.join_of g.H.Hasher-2.digest_of in
    let o = g.met.K.Ord.total in
    let one = c.a_map_has_one_tree.ensures in
    let copied = c.in_ok-copy.ensures in
    let copy = c.in_ok-copy.copy in
    let tree = c.args.replica.now.tree in
    let rows = c.args.replica.now.rows in
    let lent : c.tree.result.now ≡ tree = c.tree.ensures.tree in
    let map = subst (λ (t : State _ _). SameMap laws.cmp (λ d e. d ≡ e) (map_of t) (map_of copy)) lent copied.map in
    let hasher = c.requires.hashers _ _ copied.hasher ∙ ap (λ (t : State _ _). t.hasher) lent in
    let own = followed laws.cmp o (map_of copy) (map_of tree) (digests (laws.value_digest tree.hasher) rows) (same_map-back laws.cmp o (map_of tree) (map_of copy) map) c.tree.ensures.digests in
    is_defined laws o g.met.H.Hasher-2.respects_eq one.defined one.only one.digests c.equal_pages_have_equal_maps.ensures.ranges s copy rows m
    (hasher ∙ set.0, copied.base ∙ ap (λ (t : State _ _). t.base) lent ∙ set.1, copied.format ∙ ap (λ (t : State _ _). t.format) lent ∙ set.2) c.every_tree_is_sound.ensures.sound
    (subst (λ x. SameMap laws.cmp (λ d e. d ≡ e) (map_of copy) (digests (laws.value_digest x) rows)) (sym hasher) own)
    (copied.root_hash ∙ ap (λ (t : State _ _). t.root_hash) lent ∙ root) h)
