use Rattle.std.proofs.Common.{◌≡◌, true, nat_eq, sym, subst, ◌∙◌}
use Rattle.std.proofs.lemmas.Cmp.{nat_list_eq_equiv}
use Rattle.std.specs.Cmp.Lexicographic.{pointwise, same_text}
use Rattle.key_order.proofs.SameMaps.{same_map-own}
use Rattle.merkle_replica.specs.Contents.{side, tree_map}
use Rattle.merkle_replica.proofs.SideLaws.{laws_of}
use Rattle.merkle_replica.proofs.EqualRows.{equal_by_root, equal_digests, one_root}
use Rattle.merkle_replica.proofs.agreeing.agree.Goals as goal

-- the root pages are pages of the trees of both maps
pub returns-clause-told : goal.returns-clause-told
returns-clause-told g c = rw g.met.H.RowHasher.laws_are (λ same faithful.
    let laws = laws_of g.K.Ord.cmp g.K.KeyBytes.bytes_of g.H.Hasher-1.digest_of g.V.PartialEq.eq g.V.Join.join_of g.H.Hasher-2.digest_of in
    let a = c.args.a.now in
    let b = c.args.b.now in
    let sound_a = rw c.tree.ensures.tree at c.every_tree_is_sound.ensures.sound in
    let sound_b = rw c.tree-2.ensures.tree at c.every_tree_is_sound-2.ensures.sound in
    let one = sym c.root_hash.ensures.digest ∙ same_text _ _ (sym same ∙ c.eq.ensures) ∙ c.root_hash-2.ensures.digest in
    equal_by_root laws (side a) (side b) g.met.K.Ord.total faithful c.rows.ensures.ascending c.rows-2.ensures.ascending a.tree.root b.tree.root
    (sound_a.canonical, c.tree.ensures.digests) (sound_b.canonical, c.tree-2.ensures.digests) one)

-- each root page has the digest of the tree of its map, and the maps are one map
pub returns-clause-alike : goal.returns-clause-alike
returns-clause-alike g c = rw g.met.H.RowHasher.laws_are (λ alike one_digest rows.
    let laws = laws_of g.K.Ord.cmp g.K.KeyBytes.bytes_of g.H.Hasher-1.digest_of g.V.PartialEq.eq g.V.Join.join_of g.H.Hasher-2.digest_of in
    let a = side c.args.a.now in
    let b = side c.args.b.now in
    let m = tree_map laws b in
    let sound_a = rw c.tree.ensures.tree at c.every_tree_is_sound.ensures.sound in
    let sound_b = rw c.tree-2.ensures.tree at c.every_tree_is_sound-2.ensures.sound in
    let law = c.a_map_has_one_tree.ensures in
    let maps = equal_digests laws a b g.met.H.Hasher-2.respects_eq one_digest a.rows b.rows rows in
    let here = law.digests a.hasher a.base a.format (tree_map laws a) m c.args.a.now.tree.root _ maps (sound_a.canonical, c.tree.ensures.digests) (law.defined a.hasher a.base m) in
    let there = law.digests b.hasher b.base b.format m m c.args.b.now.tree.root _ (same_map-own laws.cmp g.met.K.Ord.total m)
    (sound_b.canonical, c.tree-2.ensures.digests) (law.defined b.hasher b.base m) in
    let hashes = c.root_hash.ensures.digest ∙ here ∙ one_root laws a b alike m ∙ sym there ∙ sym c.root_hash-2.ensures.digest in
    c.eq.ensures ∙ subst (λ d. pointwise nat_eq c.root_hash.result.now d ≡ true) hashes (nat_list_eq_equiv.refl c.root_hash.result.now))
