use Rattle.std.proofs.Common.{◌≡◌, Option, None, Some, ◌∙◌}
use Rattle.std.specs.Prelude.{IsSome}
use Rattle.merkle_search_tree.specs.Items.{lent_gap}
use Rattle.merkle_replica.specs.Contents.{side, tree_map}
use Rattle.merkle_replica.specs.Missing.{own_tree}
use Rattle.merkle_replica.proofs.PagesOver.{page_with-same}
use Rattle.merkle_replica.proofs.SideLaws.{laws_of}
use Rattle.merkle_replica.proofs.replica.Replica.has_page.Goals as goal

is_there : {X : Type 0} (o : Option X) → IsSome o → o ≡ None → ⊥
is_there None some none = cc
is_there (Some x) some none = cc

-- the replica's tree has the pages of its map's tree
pub returns : goal.returns
returns g c = rw g.met.H.RowHasher.laws_are (
    let laws = laws_of g.K.Ord.cmp g.K.KeyBytes.bytes_of g.H.Hasher-1.digest_of g.V.PartialEq.eq g.V.Join.join_of g.H.Hasher-2.digest_of in
    let tree = c.args.self.now.tree in
    let own = side c.args.self.now in
    let alike = c.a_map_has_one_tree.ensures.only own.hasher own.base (tree_map laws own) tree.root (rw g.met.H.RowHasher.laws_are at c.a_replica_has_the_tree_of_its_rows.ensures) in
    (rw c.tree.ensures.tree at c.has_page.ensures.over) (is_there tree.root_hash c.requires.hashed)
    ∙ page_with-same laws.cmp g.met.K.Ord.total (lent_gap c.args.gap.now) own.format laws.bytes_of
    (c.equal_pages_have_equal_maps.ensures.digests own.format) c.args.digest.now tree.root (own_tree laws own) alike)
