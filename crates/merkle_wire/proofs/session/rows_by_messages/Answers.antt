use Rattle.std.proofs.Common.{refl, subst, sym, ◌∙◌, ◌≡◌, ◌<◌}
use Rattle.std.proofs.lemmas.Result.{err_from_is_err_and}
use Rattle.merkle_digest.specs.Level.{level_of}
use Rattle.merkle_replica.specs.Contents.{side}
use Rattle.merkle_replica.proofs.SideLaws.{laws_of}
use Rattle.merkle_tree_theory.specs.Canonical.{IsCanonicalRoot}
use Rattle.merkle_wire.specs.Limits.{no_limits}
use Rattle.merkle_wire.specs.Next.{IfAsks}
use Rattle.merkle_wire.proofs.Covering.{CoversNext, TellsOwn}
use Rattle.merkle_wire.proofs.ExchangeKeys.{begun_at_keys}
use Rattle.merkle_wire.proofs.Exchanges.{tells}
use Rattle.merkle_wire.proofs.NextCovers.{begun_covers}
use Rattle.merkle_wire.proofs.Since.{covers_on, fails_early, fails_for_memory, keys_on, less_on, one_tree, own_on, steady_on}
use Rattle.merkle_wire.proofs.Steady.{HasKeysOfSides, IsSteadyCatchUp, left_for}
use Rattle.merkle_wire.proofs.SteadyExchanges.{begun_steady}
use Rattle.merkle_wire.proofs.session.rows_by_messages.Goals as goal

pub exchanges-init : goal.exchanges-init
exchanges-init g c =
    let laws = laws_of g.K.Ord.cmp g.K.KeyBytes.bytes_of g.H.Hasher-1.digest_of g.V.PartialEq.eq g.V.Join.join_of g.H.Hasher-2.digest_of in
    let (settings, asked, of_tree) = c.in-Ok.ensures.settings in
    record {
      asks = c.in-Ok.ensures.asks;
      covers = begun_covers laws g.K.Encode.encoding (side c.args.replica.now) (side c.args.peer.now) c.args.peer.now.tree.root c.in-Ok.session settings asked c.in-Ok.ensures.nothing.0;
      steady = begun_steady laws (side c.args.peer.now) c.args.peer.now.tree.root c.in-Ok.session settings asked c.in-Ok.ensures.nothing.0 c.in-Ok.ensures.nothing.1;
      keys = begun_at_keys laws (side c.args.replica.now) (side c.args.peer.now) c.in-Ok.session c.in-Ok.ensures.keys c.in-Ok.ensures.nothing.0;
      own = subst (TellsOwn laws g.row.N (side c.args.replica.now)) (sym asked) of_tree;
      limits = c.in-Ok.ensures.limits;
      rows = refl;
      settings = (refl, refl, refl);
      peer_rows = refl;
      peer_settings = (refl, refl, refl);
    }

pub exchanges-preserved : goal.exchanges-preserved
exchanges-preserved g c =
    let laws = laws_of g.K.Ord.cmp g.K.KeyBytes.bytes_of g.H.Hasher-1.digest_of g.V.PartialEq.eq g.V.Join.join_of g.H.Hasher-2.digest_of in
    let inv = c.exchanges.invariant in
    let new = c.exchange.ensures in
    let root = c.args.peer.now.tree.root in
    let local = side c.args.replica.now in
    let peer = side c.args.peer.now in
    let canonical = subst (λ t. IsCanonicalRoot (λ k. level_of (laws.key_digest t.hasher k) t.base) t.root) c.tree.ensures.tree c.every_tree_is_sound.ensures.sound.canonical in
    let small = (rw g.met.H.RowHasher.laws_are at c.a_replica_in_memory_is_small.ensures) in
    let e = (rw g.met.H.RowHasher.laws_are at c.in_ok-rows.ensures.exchanged) in
    let (up, up_peer) = c.in_ok-rows.ensures.ascending in
    let tell = tells laws g.K.Encode.encoding g.V.Encode.encoding g.K.PartialEq.eq g.met.K.Ord.matches_eq g.met.K.Decode.told g.met.V.Decode.told in
    let one = one_tree g.K.Ord.cmp g.met.K.Ord.total g.K.PartialEq.eq g.met.K.Ord.matches_eq g.H.Hasher-1.digest_of g.met.H.Hasher-1.respects_eq in
    let covers = covers_on laws g.met.K.Ord.total g.met.V.Eq.laws g.met.H.Hasher-2.respects_eq one g.K.Encode.encoding g.V.Encode.encoding tell g.row.N
    c.args.replica.now c.exchanges.replica c.args.peer.now c.exchanges.peer inv.rows inv.settings inv.peer_rows inv.peer_settings canonical c.tree.ensures.digests small
    c.exchanges.session inv.steady c.in_ok-rows.field-0 e up up_peer inv.covers in
    let next = subst (CoversNext laws local peer root g.K.Encode.encoding) c.in-Ask.is covers in
    let steady = steady_on laws g.met.K.Ord.total g.met.V.Eq.laws g.met.H.Hasher-2.respects_eq one g.K.Encode.encoding g.V.Encode.encoding tell g.row.N
    c.args.replica.now c.exchanges.replica c.args.peer.now c.exchanges.peer inv.rows inv.settings inv.peer_rows inv.peer_settings canonical c.tree.ensures.digests small
    c.exchanges.session inv.steady c.in_ok-rows.field-0 e up up_peer in
    let keys = keys_on laws g.met.K.Ord.total g.met.V.Eq.laws g.met.H.Hasher-2.respects_eq one g.K.Encode.encoding g.V.Encode.encoding tell g.row.N
    c.args.replica.now c.exchanges.replica c.args.peer.now c.exchanges.peer inv.rows inv.settings inv.peer_rows inv.peer_settings canonical c.tree.ensures.digests small
    c.exchanges.session inv.steady c.in_ok-rows.field-0 e up up_peer inv.keys in
    let own = own_on laws g.met.K.Ord.total g.met.V.Eq.laws g.met.H.Hasher-2.respects_eq one g.K.Encode.encoding g.V.Encode.encoding tell g.row.N
    c.args.replica.now c.exchanges.replica c.args.peer.now c.exchanges.peer inv.rows inv.settings inv.peer_rows inv.peer_settings canonical c.tree.ensures.digests small
    c.exchanges.session inv.steady c.in_ok-rows.field-0 e up up_peer in
    record {
      asks = next.0;
      covers = next.1;
      steady = subst (IfAsks (IsSteadyCatchUp laws peer root)) c.in-Ask.is steady;
      keys = subst (IfAsks (HasKeysOfSides laws local peer)) c.in-Ask.is keys;
      own = subst (IfAsks (λ session. TellsOwn laws g.row.N local session.asked)) c.in-Ask.is own;
      limits = subst (IfAsks (λ session. session.left ≡ no_limits)) c.in-Ask.is c.in_ok-rows.ensures.limits;
      rows = new.rows ∙ inv.rows;
      settings = (new.settings.0 ∙ inv.settings.0, new.settings.1 ∙ inv.settings.1, new.settings.2 ∙ inv.settings.2);
      peer_rows = new.peer_rows ∙ inv.peer_rows;
      peer_settings = (new.peer_settings.0 ∙ inv.peer_settings.0, new.peer_settings.1 ∙ inv.peer_settings.1, new.peer_settings.2 ∙ inv.peer_settings.2);
    }

pub returns-in-Came-clause-brought : goal.returns-in-Came-clause-brought
returns-in-Came-clause-brought g c = rw g.met.H.RowHasher.laws_are (
    let laws = laws_of g.K.Ord.cmp g.K.KeyBytes.bytes_of g.H.Hasher-1.digest_of g.V.PartialEq.eq g.V.Join.join_of g.H.Hasher-2.digest_of in
    let inv = c.exchanges.invariant in
    let canonical = subst (λ t. IsCanonicalRoot (λ k. level_of (laws.key_digest t.hasher k) t.base) t.root) c.tree.ensures.tree c.every_tree_is_sound.ensures.sound.canonical in
    let small = (rw g.met.H.RowHasher.laws_are at c.a_replica_in_memory_is_small.ensures) in
    let (up, up_peer) = c.in_ok-rows.ensures.ascending in
    let tell = tells laws g.K.Encode.encoding g.V.Encode.encoding g.K.PartialEq.eq g.met.K.Ord.matches_eq g.met.K.Decode.told g.met.V.Decode.told in
    let one = one_tree g.K.Ord.cmp g.met.K.Ord.total g.K.PartialEq.eq g.met.K.Ord.matches_eq g.H.Hasher-1.digest_of g.met.H.Hasher-1.respects_eq in
    let covers = covers_on laws g.met.K.Ord.total g.met.V.Eq.laws g.met.H.Hasher-2.respects_eq one g.K.Encode.encoding g.V.Encode.encoding tell g.row.N
    c.args.replica.now c.exchanges.replica c.args.peer.now c.exchanges.peer inv.rows inv.settings inv.peer_rows inv.peer_settings canonical c.tree.ensures.digests small
    c.exchanges.session inv.steady c.in_ok-rows.field-0 (rw g.met.H.RowHasher.laws_are at c.in_ok-rows.ensures.exchanged) up up_peer inv.covers in
    subst (CoversNext laws (side c.args.replica.now) (side c.args.peer.now) c.args.peer.now.tree.root g.K.Encode.encoding) c.in-Came.is covers)

pub returns-in_err-rows-clause-early : goal.returns-in_err-rows-clause-early
returns-in_err-rows-clause-early g c = rw g.met.H.RowHasher.laws_are (
    let laws = laws_of g.K.Ord.cmp g.K.KeyBytes.bytes_of g.H.Hasher-1.digest_of g.V.PartialEq.eq g.V.Join.join_of g.H.Hasher-2.digest_of in
    let inv = c.exchanges.invariant in
    let canonical = subst (λ t. IsCanonicalRoot (λ k. level_of (laws.key_digest t.hasher k) t.base) t.root) c.tree.ensures.tree c.every_tree_is_sound.ensures.sound.canonical in
    let small = (rw g.met.H.RowHasher.laws_are at c.a_replica_in_memory_is_small.ensures) in
    let p = err_from_is_err_and c.from_residual.result c.from_residual.ensures.1 in
    let tell = tells laws g.K.Encode.encoding g.V.Encode.encoding g.K.PartialEq.eq g.met.K.Ord.matches_eq g.met.K.Decode.told g.met.V.Decode.told in
    let one = one_tree g.K.Ord.cmp g.met.K.Ord.total g.K.PartialEq.eq g.met.K.Ord.matches_eq g.H.Hasher-1.digest_of g.met.H.Hasher-1.respects_eq in
    rw (p.1, p.2) (fails_early laws g.met.K.Ord.total g.met.V.Eq.laws g.met.H.Hasher-2.respects_eq one g.K.Encode.encoding g.V.Encode.encoding tell g.row.N
    c.args.replica.now c.exchanges.replica c.args.peer.now c.exchanges.peer inv.rows inv.settings inv.peer_rows inv.peer_settings canonical c.tree.ensures.digests small
    c.exchanges.session inv.steady g.K.PartialEq.eq g.met.K.Decode.told g.met.H.Hasher-1.respects_eq g.K.Decode.is_value g.V.Decode.is_value inv.own c.in_err-rows.field-0.0
    (rw g.met.H.RowHasher.laws_are at c.in_err-rows.ensures.failed)))

pub returns-in_err-rows-clause-memory : goal.returns-in_err-rows-clause-memory
returns-in_err-rows-clause-memory g c = rw g.met.H.RowHasher.laws_are (
    let laws = laws_of g.K.Ord.cmp g.K.KeyBytes.bytes_of g.H.Hasher-1.digest_of g.V.PartialEq.eq g.V.Join.join_of g.H.Hasher-2.digest_of in
    let inv = c.exchanges.invariant in
    let canonical = subst (λ t. IsCanonicalRoot (λ k. level_of (laws.key_digest t.hasher k) t.base) t.root) c.tree.ensures.tree c.every_tree_is_sound.ensures.sound.canonical in
    let small = (rw g.met.H.RowHasher.laws_are at c.a_replica_in_memory_is_small.ensures) in
    let p = err_from_is_err_and c.from_residual.result c.from_residual.ensures.1 in
    let tell = tells laws g.K.Encode.encoding g.V.Encode.encoding g.K.PartialEq.eq g.met.K.Ord.matches_eq g.met.K.Decode.told g.met.V.Decode.told in
    let one = one_tree g.K.Ord.cmp g.met.K.Ord.total g.K.PartialEq.eq g.met.K.Ord.matches_eq g.H.Hasher-1.digest_of g.met.H.Hasher-1.respects_eq in
    rw (p.1, p.2) (fails_for_memory laws g.met.K.Ord.total g.met.V.Eq.laws g.met.H.Hasher-2.respects_eq one g.K.Encode.encoding g.V.Encode.encoding tell g.row.N
    c.args.replica.now c.exchanges.replica c.args.peer.now c.exchanges.peer inv.rows inv.settings inv.peer_rows inv.peer_settings canonical c.tree.ensures.digests small
    c.exchanges.session inv.steady g.K.PartialEq.eq g.met.K.Decode.told g.met.H.Hasher-1.respects_eq g.K.Decode.is_value g.V.Decode.is_value inv.own inv.limits inv.keys
    c.in_err-rows.field-0.0 (rw g.met.H.RowHasher.laws_are at c.in_err-rows.ensures.failed)))

pub exchanges-smaller : goal.exchanges-smaller
exchanges-smaller g c =
    let laws = laws_of g.K.Ord.cmp g.K.KeyBytes.bytes_of g.H.Hasher-1.digest_of g.V.PartialEq.eq g.V.Join.join_of g.H.Hasher-2.digest_of in
    let inv = c.exchanges.invariant in
    let canonical = subst (λ t. IsCanonicalRoot (λ k. level_of (laws.key_digest t.hasher k) t.base) t.root) c.tree.ensures.tree c.every_tree_is_sound.ensures.sound.canonical in
    let (up, up_peer) = c.in_ok-rows.ensures.ascending in
    let tell = tells laws g.K.Encode.encoding g.V.Encode.encoding g.K.PartialEq.eq g.met.K.Ord.matches_eq g.met.K.Decode.told g.met.V.Decode.told in
    let one = one_tree g.K.Ord.cmp g.met.K.Ord.total g.K.PartialEq.eq g.met.K.Ord.matches_eq g.H.Hasher-1.digest_of g.met.H.Hasher-1.respects_eq in
    let less = less_on laws g.met.K.Ord.total g.met.V.Eq.laws g.met.H.Hasher-2.respects_eq one g.K.Encode.encoding g.V.Encode.encoding tell g.row.N
    c.args.replica.now c.exchanges.replica c.args.peer.now c.exchanges.peer inv.rows inv.settings inv.peer_rows inv.peer_settings canonical c.tree.ensures.digests
    (rw g.met.H.RowHasher.laws_are at c.a_replica_in_memory_is_small.ensures) c.exchanges.session inv.steady
    c.in_ok-rows.field-0 (rw g.met.H.RowHasher.laws_are at c.in_ok-rows.ensures.exchanged) up up_peer in
    subst (IfAsks (λ after. left_for laws (side c.args.peer.now) c.args.peer.now.tree.root after
    < left_for laws (side c.args.peer.now) c.args.peer.now.tree.root c.exchanges.session)) c.in-Ask.is less
