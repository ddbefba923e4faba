use Rattle.std.proofs.Common.{rules, ◌≡◌, List, length, ap, subst, ◌∙◌}
use Rattle.key_order.specs.Order.{IsAscending}
use Rattle.merkle_replica.specs.CatchUp.{AreCopies, HasFound}
use Rattle.merkle_replica.specs.Contents.{side}
use Rattle.merkle_replica.specs.Laws.{Laws}
use Rattle.merkle_replica.specs.Missing.{nodes_to_compare, pages_to_open}
use Rattle.merkle_replica.specs.Puts.{HasGathered, IsGatheredTo}
use Rattle.merkle_replica.proofs.CatchUpJoins.{caught_up, partly_caught_up, all_joined}
use Rattle.merkle_replica.proofs.RowCopies.{copies_map, copies_length}
use Rattle.merkle_replica.proofs.PutRows.{map_rises}
use Rattle.merkle_replica.proofs.SideLaws.{laws_of, same_side}
use Rattle.merkle_replica.proofs.replica.Replica.catch_up.Given.{Over}
use Rattle.merkle_replica.proofs.replica.Replica.catch_up.Goals as goal
use Rattle.merkle_replica.proofs.replica.Replica.catch_up.Goals.{After-join_sparse}

-- the laws of keys, values and hasher
abbrev laws_for : (g : Over) → Laws g.row.K.Denot g.row.V.Denot g.row.H.Denot
laws_for g = laws_of g.K.Ord.cmp g.K.KeyBytes.bytes_of g.H.Hasher-1.digest_of g.V.PartialEq.eq g.V.Join.join_of g.H.Hasher-2.digest_of

-- hashing leaves both sides as they were
same_local : (g : Over) (c : After-join_sparse g) → side c.hash.new.self ≡ side c.args.self.now
same_local g c = same_side c.args.self.now c.hash.new.self c.hash.ensures.rows (ap (λ t. t.hasher) c.hash.ensures.tree, ap (λ t. t.base) c.hash.ensures.tree, ap (λ t. t.format) c.hash.ensures.tree)

same_peer : (g : Over) (c : After-join_sparse g) → side c.hash-2.new.self ≡ side c.args.peer.now
same_peer g c = same_side c.args.peer.now c.hash-2.new.self c.hash-2.ensures.rows
    (ap (λ t. t.hasher) c.hash-2.ensures.tree, ap (λ t. t.base) c.hash-2.ensures.tree, ap (λ t. t.format) c.hash-2.ensures.tree)

-- this many rows came as the two sides were missing at first: copies of the peer's, at keys in ascending order
came : (g : Over) (c : After-join_sparse g) → (keys : List g.row.K.Denot) × (c.in-Ok.caught.joined ≡ length keys) × IsAscending g.K.Ord.cmp keys
    × HasFound (laws_for g) (side c.args.self.now) (side c.args.peer.now) keys
    × AreCopies g.K.Ord.cmp g.V.PartialEq.eq c.args.peer.now.rows keys c.in-Ok.rows.items
came g c =
    let laws = laws_for g in
    let (keys, ascending, lacked, copies) = (rw g.met.H.RowHasher.laws_are at c.in-Ok.ensures.rows) in
    let are : AreCopies laws.cmp laws.eq c.args.peer.now.rows keys c.in-Ok.rows.items = subst (λ rows. AreCopies laws.cmp laws.eq rows keys c.in-Ok.rows.items) c.hash-2.ensures.rows copies in (
      keys,
      c.in-Ok.ensures.joined ∙ copies_length laws.cmp g.met.K.Ord.total laws.eq c.args.peer.now.rows keys c.in-Ok.rows.items are,
      ascending,
      subst (λ s. HasFound laws s (side c.args.peer.now) keys) (same_local g c) (subst (λ s. HasFound laws (side c.hash.new.self) s keys) (same_peer g c) lacked),
      are,
    )

pub join_sparse-requires : goal.join_sparse-requires
join_sparse-requires g c =
    let laws = laws_for g in
    let o = g.met.K.Ord.total in
    let (keys, ascending, lacked, copies) = (rw g.met.H.RowHasher.laws_are at c.in-Ok.ensures.rows) in
    (search rules, (map_rises laws.cmp o c.in-Ok.rows.items (copies_map laws.cmp o laws.eq c.hash-2.new.self.rows keys c.in-Ok.rows.items ascending copies)))

pub returns-in-Ok-join_sparse-clause-done : goal.returns-in-Ok-join_sparse-clause-done
returns-in-Ok-join_sparse-clause-done g c = rw g.met.H.RowHasher.laws_are (
    let laws = laws_for g in
    let (keys, counted, ascending, found, are) = came g (goal.at.returns-in-Ok-join_sparse-clause-done g c).After-join_sparse in (
      keys,
      counted,
      caught_up laws g.met.K.Ord.total (side c.args.self.now)
          (side c.args.peer.now) g.met.V.Eq.laws g.met.V.Join.joining keys c.in-Ok.rows.items c.rows_ascend-2.ensures ascending found are c.join_sparse.new.self.rows
          (subst (λ rows. HasGathered laws.cmp laws.eq laws.join rows c.in-Ok.rows.items c.join_sparse.new.self.rows) c.hash.ensures.rows c.in-Ok-join_sparse.ensures.all),
    ))

pub returns-in-Ok-join_sparse-clause-join : goal.returns-in-Ok-join_sparse-clause-join
returns-in-Ok-join_sparse-clause-join g c = rw g.met.H.RowHasher.laws_are (λ faith.
    let (keys, counted, caught) = (rw g.met.H.RowHasher.laws_are at (returns-in-Ok-join_sparse-clause-done g c)) in
    all_joined (laws_for g) g.met.K.Ord.total (side c.args.self.now) (side c.args.peer.now) g.met.V.Eq.laws g.met.V.Join.joining keys c.join_sparse.new.self.rows faith caught)

pub returns-in-Ok-join_sparse-clause-opened : goal.returns-in-Ok-join_sparse-clause-opened
returns-in-Ok-join_sparse-clause-opened g c = rw g.met.H.RowHasher.laws_are (
    let at = (goal.at.returns-in-Ok-join_sparse-clause-opened g c).After-join_sparse in
    subst (λ s. c.in-Ok.caught.opened ≡ pages_to_open (laws_for g) s (side c.args.peer.now)) (same_local g at)
    (subst (λ s. c.in-Ok.caught.opened ≡ pages_to_open (laws_for g) (side c.hash.new.self) s) (same_peer g at) (rw g.met.H.RowHasher.laws_are at c.in-Ok.ensures.opened)))

pub returns-in-Ok-join_sparse-clause-compared : goal.returns-in-Ok-join_sparse-clause-compared
returns-in-Ok-join_sparse-clause-compared g c = rw g.met.H.RowHasher.laws_are (
    let at = (goal.at.returns-in-Ok-join_sparse-clause-compared g c).After-join_sparse in
    subst (λ s. c.in-Ok.caught.compared ≡ nodes_to_compare (laws_for g) s (side c.args.peer.now)) (same_local g at)
    (subst (λ s. c.in-Ok.caught.compared ≡ nodes_to_compare (laws_for g) (side c.hash.new.self) s) (same_peer g at) (rw g.met.H.RowHasher.laws_are at c.in-Ok.ensures.compared)))

pub returns-in-Err-clause-refused : goal.returns-in-Err-clause-refused
returns-in-Err-clause-refused g c = rw g.met.H.RowHasher.laws_are (
    let laws = laws_for g in
    let (keys, counted, ascending, found, are) = came g (goal.at.returns-in-Err-clause-refused g c).After-join_sparse in (
      keys,
      counted,
      partly_caught_up laws g.met.K.Ord.total (side c.args.self.now)
          (side c.args.peer.now) g.met.V.Eq.laws g.met.V.Join.joining keys c.in-Ok.rows.items c.rows_ascend-2.ensures ascending found are c.in-Err.done
          c.join_sparse.new.self.rows c.in-Err.done-test.1
          (subst (λ rows. IsGatheredTo laws.cmp laws.eq laws.join rows c.in-Ok.rows.items c.join_sparse.new.self.rows c.in-Err.done) c.hash.ensures.rows c.in-Err.ensures.cut),
    ))
