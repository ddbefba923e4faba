use Rattle.std.proofs.Common.{rules, sym, subst}
use Rattle.std.specs.List.{AllByRecursion}
use Rattle.key_order.specs.Map.{IsPresent, get}
use Rattle.merkle_replica.specs.CatchUp.{AreCopies}
use Rattle.merkle_replica.specs.Contents.{side}
use Rattle.merkle_replica.specs.Descent.{keys_of}
use Rattle.merkle_replica.proofs.CatchUpJoins.{found_once, lacked_there}
use Rattle.merkle_replica.proofs.SideLaws.{laws_of}
use Rattle.merkle_replica.proofs.replica.Replica.lacked_rows.Goals as goal

pub copies_at-requires : goal.copies_at-requires
copies_at-requires g c =
    let laws = laws_of g.K.Ord.cmp g.K.KeyBytes.bytes_of g.H.Hasher-1.digest_of g.V.PartialEq.eq g.V.Join.join_of g.H.Hasher-2.digest_of in
    let o = g.met.K.Ord.total in
    let local = side c.args.self.now in
    let peer = side c.args.peer.now in
    let found = found_once laws o local peer (keys_of c.in_ok-lacked.lacked.keys.items) (keys_of c.in_ok-keys.keys.items) c.in_ok-keys.ensures
    (rw g.met.H.RowHasher.laws_are at c.in_ok-lacked.ensures.found) in (
      search rules,
      (subst (λ ks. AllByRecursion (λ k. IsPresent (get laws.cmp peer.rows k)) (keys_of ks)) (sym c.deref.ensures.value)
          (lacked_there laws o local peer (keys_of c.in_ok-keys.keys.items) found.lacked)),
    )

pub returns-clause-rows : goal.returns-clause-rows
returns-clause-rows g c = rw g.met.H.RowHasher.laws_are (
    let laws = laws_of g.K.Ord.cmp g.K.KeyBytes.bytes_of g.H.Hasher-1.digest_of g.V.PartialEq.eq g.V.Join.join_of g.H.Hasher-2.digest_of in
    let o = g.met.K.Ord.total in
    let local = side c.args.self.now in
    let peer = side c.args.peer.now in
    let keys = keys_of c.in_ok-keys.keys.items in (
      keys,
      c.in_ok-keys.ensures.ascending,
      found_once laws o local peer (keys_of c.in_ok-lacked.lacked.keys.items) keys c.in_ok-keys.ensures (rw g.met.H.RowHasher.laws_are at c.in_ok-lacked.ensures.found),
      subst (λ ks. AreCopies laws.cmp laws.eq peer.rows (keys_of ks) c.in_ok-rows.rows.items) c.deref.ensures.value c.in_ok-rows.ensures,
    ))
