use Rattle.merkle_replica.specs.Contents.{tree_map}
use Rattle.merkle_replica.proofs.FromStreams.{faithful_from, all_faithful, covers_from, converges_from}
use Rattle.merkle_replica.proofs.SideLaws.{laws_of}
use Rattle.merkle_replica.proofs.laws.no_collision_is_enough.Goals as goal

pub returns-clause-faithful : goal.returns-clause-faithful
returns-clause-faithful g c = rw g.met.H.RowHasher.laws_are (λ a b.
    let laws = laws_of g.K.Ord.cmp g.K.KeyBytes.bytes_of g.H.Hasher-1.digest_of g.V.PartialEq.eq g.V.Join.join_of g.H.Hasher-2.digest_of in
    faithful_from laws g.row.N a b (c.exact_keys_make_pages_faithful.ensures.pages a.hasher a.base (tree_map laws a) (tree_map laws b)))

pub returns-clause-all_faithful : goal.returns-clause-all_faithful
returns-clause-all_faithful g c = rw g.met.H.RowHasher.laws_are
    (all_faithful (laws_of g.K.Ord.cmp g.K.KeyBytes.bytes_of g.H.Hasher-1.digest_of g.V.PartialEq.eq g.V.Join.join_of g.H.Hasher-2.digest_of) g.row.N c.exact_keys_make_pages_faithful.ensures.pages)

pub returns-clause-covers : goal.returns-clause-covers
returns-clause-covers g c = rw g.met.H.RowHasher.laws_are (λ local peer found.
    let laws = laws_of g.K.Ord.cmp g.K.KeyBytes.bytes_of g.H.Hasher-1.digest_of g.V.PartialEq.eq g.V.Join.join_of g.H.Hasher-2.digest_of in
    covers_from laws g.row.N g.met.K.Ord.total c.page_ranges_of_a_map.ensures.listing local peer found
    (c.exact_keys_make_pages_faithful.ensures.pages local.hasher local.base (tree_map laws local) (tree_map laws peer)))

pub returns-clause-converges : goal.returns-clause-converges
returns-clause-converges g c = rw g.met.H.RowHasher.laws_are
    (converges_from (laws_of g.K.Ord.cmp g.K.KeyBytes.bytes_of g.H.Hasher-1.digest_of g.V.PartialEq.eq g.V.Join.join_of g.H.Hasher-2.digest_of) g.row.N
    c.exact_keys_make_pages_faithful.ensures.pages g.met.K.Ord.total g.met.V.Eq.laws g.met.V.Join.joining c.page_ranges_of_a_map.ensures.listing)
