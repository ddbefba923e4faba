use Rattle.std.proofs.Common.{◌≡◌, rules}
use Rattle.std.specs.Cmp.{IsTotalOrder}
use Rattle.key_order.specs.Order.{Same}
use Rattle.merkle_replica.specs.Contents.{side}
use Rattle.merkle_replica.specs.Faithful.{IsFaithful}
use Rattle.merkle_tree_theory.specs.Canonical.{EqualPages, SamePages}
use Rattle.merkle_tree_theory.specs.OneTree.{TreesOfEqualMaps}
use Rattle.merkle_tree_theory.specs.Stream.{SameDigest}
use Rattle.merkle_tree_theory.specs.declared.page_format.PageFormat.TheVariants.{V2}
use Rattle.merkle_audit.proofs.Collisions.{free_where_small}
use Rattle.merkle_audit.proofs.faithful.are_faithful.Goals as goal

pub returns-clause-free : goal.returns-clause-free
returns-clause-free g c is =
    let laws = g.H.RowHasher.laws in
    let a = side c.args.a.now in
    let b = side c.args.b.now in
    let o : IsTotalOrder laws.cmp = rw g.met.H.RowHasher.laws_are g.met.K.Ord.total in
    let bytes : (x y : g.row.K.Denot) → Same laws.cmp x y → laws.bytes_of x ≡ laws.bytes_of y = rw g.met.H.RowHasher.laws_are c.equal_keys_have_equal_bytes.ensures in
    let digests : EqualPages laws.cmp (SameDigest V2 laws.bytes_of) = rw g.met.H.RowHasher.laws_are (c.equal_pages_have_equal_maps.ensures.digests V2) in
    let one : TreesOfEqualMaps laws.cmp laws.key_digest (SamePages laws.cmp) = rw g.met.H.RowHasher.laws_are c.a_map_has_one_tree.ensures.pages in
    let faithful : IsFaithful laws a b = record { same_pages = search rules; same_values = search rules } in
    free_where_small laws o bytes digests one a b faithful
