use Rattle.key_order.proofs.SameMaps.{same_map-own}
use Rattle.merkle_replica.specs.Contents.{tree_map}
use Rattle.merkle_replica.proofs.SideLaws.{laws_of}
use Rattle.merkle_replica.specs.Missing.{own_tree}
use Rattle.merkle_wire.proofs.Exchanges.{tells}
use Rattle.merkle_wire.proofs.OwnPages.{own_pages, pages_known, has_page_at, tests_own_pages}
use Rattle.merkle_wire.proofs.SteadySessions.{session_pays, session_pays_for_keys}
use Rattle.merkle_wire.proofs.laws.a_session_costs_what_is_lacked.Goals as goal

pub returns-clause-pages : goal.returns-clause-pages
returns-clause-pages g c = rw g.met.H.RowHasher.laws_are (λ local peer up up_peer small begun last more b so_far next e is_there decides.
    let laws = laws_of g.K.Ord.cmp g.K.KeyBytes.bytes_of g.H.Hasher-1.digest_of g.V.PartialEq.eq g.V.Join.join_of g.H.Hasher-2.digest_of in
    let tell = tells laws g.K.Encode.encoding g.V.Encode.encoding g.K.PartialEq.eq g.met.K.Ord.matches_eq g.met.K.Decode.told g.met.V.Decode.told in
    let one_tree = c.a_map_has_one_tree.ensures in
    session_pays laws g.met.K.Ord.total g.met.V.Eq.laws g.met.H.Hasher-2.respects_eq one_tree.pages g.K.Encode.encoding g.V.Encode.encoding tell g.row.N local peer up up_peer small
    c.equal_pages_have_equal_maps.ensures.digests is_there (tests_own_pages laws g.met.K.Ord.total local is_there decides)
    (own_tree laws peer) (one_tree.defined peer.hasher peer.base (tree_map laws peer)) begun last more next b so_far e)

pub returns-clause-keys : goal.returns-clause-keys
returns-clause-keys g c = rw g.met.H.RowHasher.laws_are (λ local peer up up_peer small begun last more b so_far next e.
    let laws = laws_of g.K.Ord.cmp g.K.KeyBytes.bytes_of g.H.Hasher-1.digest_of g.V.PartialEq.eq g.V.Join.join_of g.H.Hasher-2.digest_of in
    let tell = tells laws g.K.Encode.encoding g.V.Encode.encoding g.K.PartialEq.eq g.met.K.Ord.matches_eq g.met.K.Decode.told g.met.V.Decode.told in
    let one_tree = c.a_map_has_one_tree.ensures in
    session_pays_for_keys laws g.met.K.Ord.total g.met.V.Eq.laws g.met.H.Hasher-2.respects_eq one_tree.pages g.K.Encode.encoding g.V.Encode.encoding tell g.row.N local peer up up_peer small
    (own_tree laws peer) (one_tree.defined peer.hasher peer.base (tree_map laws peer)) begun last more next b so_far e)

pub returns-clause-known : goal.returns-clause-known
returns-clause-known g c = rw g.met.H.RowHasher.laws_are (λ local up.
    let laws = laws_of g.K.Ord.cmp g.K.KeyBytes.bytes_of g.H.Hasher-1.digest_of g.V.PartialEq.eq g.V.Join.join_of g.H.Hasher-2.digest_of in
    let one_tree = c.a_map_has_one_tree.ensures in
    let m = tree_map laws local in
    let own = one_tree.defined local.hasher local.base m in (
      has_page_at laws local,
      λ at digest. (
        (own_pages laws g.met.K.Ord.total local own up).there at digest,
        pages_known laws g.met.K.Ord.total local own up (λ t u f h. one_tree.pages local.hasher local.base m m t u (same_map-own g.K.Ord.cmp g.met.K.Ord.total m) f h)
            (c.equal_pages_have_equal_maps.ensures.digests local.format) at digest,
      ),
    ))
