use Rattle.std.proofs.Common.{◌≡◌, [], sym, subst, ◌∙◌}
use Rattle.key_order.specs.Join.{IsJoin}
use Rattle.key_order.proofs.Joins.{same_joins}
use Rattle.merkle_tree_theory.specs.Sound.{IsSound}
use Rattle.merkle_tree_theory.specs.State.{State, HasSettings}
use Rattle.merkle_replica.specs.Contents.{side}
use Rattle.merkle_tree_theory.specs.Settings.{Settings}
use Rattle.main_theorem.specs.After.{FreeUpdatesAreAccepted, IsDefinedBy, rows_after, root_hash_under}
use Rattle.merkle_replica.specs.Agreeing.{AreEqual}
use Rattle.main_theorem.specs.Course.{AreExchanged}
use Rattle.merkle_replica.proofs.SideLaws.{laws_of}
use Rattle.main_theorem.proofs.Courses.{apart_stay}
use Rattle.main_theorem.proofs.Lives.{join_equal, equal_itself}
use Rattle.main_theorem.proofs.Roots.{is_defined, root_last, settings_stay}
use Rattle.main_theorem.proofs.theorem.converge.Goals as goal

pub returns-clause-before : goal.returns-clause-before
returns-clause-before g c = rw g.met.H.RowHasher.laws_are (
    let laws = laws_of g.K.Ord.cmp g.K.KeyBytes.bytes_of g.H.Hasher-1.digest_of g.V.PartialEq.eq g.V.Join.join_of g.H.Hasher-2.digest_of in
    let cloned = c.in-Ok.ensures in
    let hasher = c.requires.hashers _ _ cloned.hasher in
    let other : Settings g.row.H.Denot = c.in-Ok.other in
    let same : other ≡ c.args.builder = λ i. record { hasher = hasher i; base = cloned.base i; format = cloned.format i } in
    let a = c.in-Ok-after.ensures in
    let b = c.in-Ok-after-2.ensures in (
      (rw g.met.H.RowHasher.laws_are at c.in-Ok-Ok.ensures) c.args.builder _ a.settings (rw g.met.H.RowHasher.laws_are at a.root_hash) a.rows,
      subst (λ s. IsDefinedBy laws s (rows_after laws.cmp laws.join c.args.b_updates.items c.in-Ok-after-2.b_accepted.items) c.in-Ok-Ok.b_before) same
          ((rw g.met.H.RowHasher.laws_are at c.in-Ok-Ok.ensures') other _ b.settings (rw g.met.H.RowHasher.laws_are at b.root_hash) b.rows),
    ))

pub returns-clause-rows : goal.returns-clause-rows
returns-clause-rows g c = rw g.met.H.RowHasher.laws_are (λ apart.
    let laws = laws_of g.K.Ord.cmp g.K.KeyBytes.bytes_of g.H.Hasher-1.digest_of g.V.PartialEq.eq g.V.Join.join_of g.H.Hasher-2.digest_of in
    let a = c.in-Ok-after.a in
    let b = c.in-Ok-after-2.b in
    let (met, made, _) = (rw g.met.H.RowHasher.laws_are at c.in_ok-exchanged.ensures.converges) in
    let (x, y) = apart_stay laws (side a) (side b) c.come_together.new.a.rows c.come_together.new.b.rows met c.args.exchange c.in_ok-exchanged.exchanged apart c.in_ok-exchanged.ensures.done made in (
      subst (λ rows. AreEqual laws.cmp laws.eq rows (rows_after laws.cmp laws.join c.args.a_updates.items c.in-Ok-after.a_accepted.items))
          (sym (c.hash_last.ensures.rows ∙ x)) c.in-Ok-after.ensures.rows,
      subst (λ rows. AreEqual laws.cmp laws.eq rows (rows_after laws.cmp laws.join c.args.b_updates.items c.in-Ok-after-2.b_accepted.items))
          (sym (c.hash_last-2.ensures.rows ∙ y)) c.in-Ok-after-2.ensures.rows,
    ))

pub returns-clause-a_defined : goal.returns-clause-a_defined
returns-clause-a_defined g c = rw g.met.H.RowHasher.laws_are (λ m h.
    let laws = laws_of g.K.Ord.cmp g.K.KeyBytes.bytes_of g.H.Hasher-1.digest_of g.V.PartialEq.eq g.V.Join.join_of g.H.Hasher-2.digest_of in
    let one = c.a_map_has_one_tree.ensures in
    let s = c.args.builder in
    let come = c.come_together.new.a in
    let last = c.hash_last.new.replica in
    let set = settings_stay s c.in-Ok-after.a.tree come.tree c.in-Ok-after.ensures.settings c.come_together.ensures.a_settings in
    let sound = subst (λ (t : State _ _). IsSound laws.cmp laws.key_digest laws.bytes_of t) c.tree.ensures.tree c.every_tree_is_sound.ensures.sound in
    is_defined laws g.met.K.Ord.total g.met.H.Hasher-2.respects_eq one.defined one.only one.digests c.equal_pages_have_equal_maps.ensures.ranges s last.tree last.rows m
    (settings_stay s come.tree last.tree set c.hash_last.ensures.settings) sound c.tree.ensures.digests
    (root_last laws g.met.K.Ord.total g.met.H.Hasher-2.respects_eq one.defined one.only one.digests c.equal_pages_have_equal_maps.ensures.ranges s come.tree
    come.rows last.rows last.tree.root_hash set c.hash_last.ensures.rows (rw g.met.H.RowHasher.laws_are at c.hash_last.ensures.root_hash)) h)

pub returns-clause-b_defined : goal.returns-clause-b_defined
returns-clause-b_defined g c = rw g.met.H.RowHasher.laws_are (λ m h.
    let laws = laws_of g.K.Ord.cmp g.K.KeyBytes.bytes_of g.H.Hasher-1.digest_of g.V.PartialEq.eq g.V.Join.join_of g.H.Hasher-2.digest_of in
    let one = c.a_map_has_one_tree.ensures in
    let s = c.args.builder in
    let come = c.come_together.new.b in
    let last = c.hash_last-2.new.replica in
    let began = c.in-Ok-after-2.ensures.settings in
    let first : HasSettings s c.in-Ok-after-2.b.tree = (began.0 ∙ c.requires.hashers _ _ c.in-Ok.ensures.hasher, began.1 ∙ c.in-Ok.ensures.base, began.2 ∙ c.in-Ok.ensures.format) in
    let set = settings_stay s c.in-Ok-after-2.b.tree come.tree first c.come_together.ensures.b_settings in
    let sound = subst (λ (t : State _ _). IsSound laws.cmp laws.key_digest laws.bytes_of t) c.tree-2.ensures.tree c.every_tree_is_sound-2.ensures.sound in
    is_defined laws g.met.K.Ord.total g.met.H.Hasher-2.respects_eq one.defined one.only one.digests c.equal_pages_have_equal_maps.ensures.ranges s last.tree last.rows m
    (settings_stay s come.tree last.tree set c.hash_last-2.ensures.settings) sound c.tree-2.ensures.digests
    (root_last laws g.met.K.Ord.total g.met.H.Hasher-2.respects_eq one.defined one.only one.digests c.equal_pages_have_equal_maps.ensures.ranges s come.tree
    come.rows last.rows last.tree.root_hash set c.hash_last-2.ensures.rows (rw g.met.H.RowHasher.laws_are at c.hash_last-2.ensures.root_hash)) h)

pub returns-clause-converges : goal.returns-clause-converges
returns-clause-converges g c = rw g.met.H.RowHasher.laws_are (
    let laws = laws_of g.K.Ord.cmp g.K.KeyBytes.bytes_of g.H.Hasher-1.digest_of g.V.PartialEq.eq g.V.Join.join_of g.H.Hasher-2.digest_of in
    let o = g.met.K.Ord.total in
    let e = g.met.V.Eq.laws in
    let j = g.met.V.Join.joining in
    let one = c.a_map_has_one_tree.ensures in
    let s = c.args.builder in
    let a = c.in-Ok-after.a in
    let b = c.in-Ok-after-2.b in
    let m = rows_after laws.cmp laws.join c.args.a_updates.items c.in-Ok-after.a_accepted.items in
    let n = rows_after laws.cmp laws.join c.args.b_updates.items c.in-Ok-after-2.b_accepted.items in
    let a' = c.hash_last.new.replica in
    let b' = c.hash_last-2.new.replica in
    let began = c.in-Ok-after-2.ensures.settings in
    let first : HasSettings s b.tree = (began.0 ∙ c.requires.hashers _ _ c.in-Ok.ensures.hasher, began.1 ∙ c.in-Ok.ensures.base, began.2 ∙ c.in-Ok.ensures.format) in
    let of_a = c.in-Ok-after.ensures.settings in
    let (met, made, all) = (rw g.met.H.RowHasher.laws_are at c.in_ok-exchanged.ensures.converges) in (
      met,
      record {
        a = side a;
        b = side b;
        is_a = record { hasher = of_a.0; base = of_a.1; format = of_a.2; rows = c.in-Ok-after.ensures.rows };
        is_b = record { hasher = first.0; base = first.1; format = first.2; rows = c.in-Ok-after-2.ensures.rows };
        exchange = subst (λ rows. AreExchanged laws c.in_ok-exchanged.exchanged (side a) (side b) rows b'.rows met) (sym c.hash_last.ensures.rows)
            (subst (λ rows. AreExchanged laws c.in_ok-exchanged.exchanged (side a) (side b) c.come_together.new.a.rows rows met) (sym c.hash_last-2.ensures.rows) made);
      },
      λ faith enough.
          let (x, y) = all faith enough in
          let joins_a = join_equal laws.cmp o laws.eq e laws.join j a.rows m b.rows n a'.rows c.in-Ok-after.ensures.rows c.in-Ok-after-2.ensures.rows
          (subst (IsJoin laws.cmp laws.eq laws.join a.rows b.rows) (sym c.hash_last.ensures.rows) x) in
          let joins_b = join_equal laws.cmp o laws.eq e laws.join j a.rows m b.rows n b'.rows c.in-Ok-after.ensures.rows c.in-Ok-after-2.ensures.rows
          (subst (IsJoin laws.cmp laws.eq laws.join a.rows b.rows) (sym c.hash_last-2.ensures.rows) y) in
          record {
            a_joins = joins_a;
            b_joins = joins_b;
            root_hash = root_hash_under laws s b'.rows;
            of_a = ((rw g.met.H.RowHasher.laws_are at (returns-clause-a_defined g c)) b'.rows (same_joins laws.cmp o laws.eq e laws.join j m n a'.rows b'.rows joins_a joins_b)).root_hash;
            of_b = ((rw g.met.H.RowHasher.laws_are at (returns-clause-b_defined g c)) b'.rows (equal_itself laws.cmp o laws.eq e laws.join j b'.rows)).root_hash;
          },
    ))

-- the second has the same settings
pub returns-clause-free : goal.returns-clause-free
returns-clause-free g c =
    let laws = g.H.RowHasher.laws in
    let same : c.in-Ok.other ≡ c.args.builder = λ i. record { hasher = c.requires.hashers _ _ c.in-Ok.ensures.hasher i; base = c.in-Ok.ensures.base i; format = c.in-Ok.ensures.format i } in
    (c.in-Ok-after.ensures.free, subst (λ s. FreeUpdatesAreAccepted laws s [] c.args.b_updates.items c.in-Ok-after-2.b_accepted.items) same c.in-Ok-after-2.ensures.free)
