use Rattle.std.proofs.Common.{◌∙◌, sym}
use Rattle.merkle_tree_theory.specs.State.{map_of}
use Rattle.merkle_tree_theory.specs.Stream.{page_digest}
use Rattle.merkle_tree_theory.specs.TreeOf.{defined_tree}
use Rattle.examples.proofs.gossip.equal_maps_ask_for_nothing.Goals as goal

-- each root page has the digest of the tree of its map, and the maps are one map
pub returns : goal.returns
returns g c =
    let a = c.args.local.now.tree in
    let b = c.args.peer.now.tree in
    let alike = rw g.met.H.RowHasher.laws_are at c.requires.alike in
    let one = c.a_map_has_one_tree.ensures in
    let here = rw c.tree.ensures.tree at c.every_tree_is_sound.ensures.digest in
    let there = rw c.tree-2.ensures.tree at c.every_tree_is_sound-2.ensures.digest in
    let equal = one.digests a.hasher a.base a.format (map_of a) (map_of b) _ _ c.requires.equal_maps (one.defined a.hasher a.base (map_of a)) (one.defined a.hasher a.base (map_of b)) in
    record {
      rows = c.ranges_to_ask.ensures.rows;
      peer_rows = c.ranges_to_ask.ensures.peer_rows;
      settings = c.ranges_to_ask.ensures.settings;
      peer_settings = c.ranges_to_ask.ensures.peer_settings;
      nothing = c.ranges_to_ask.ensures.quiet
          (here ∙ equal ∙ (λ i. page_digest (alike.format i) g.K.KeyBytes.bytes_of (defined_tree (λ k. alike.keys k i) (alike.base i) (map_of b))) ∙ sym there);
    }
