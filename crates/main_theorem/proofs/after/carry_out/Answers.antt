use Rattle.std.proofs.Common.{◌≡◌, ◌⊎◌, inl, inr, ap, subst, refl, ◌∙◌}
use Rattle.std.specs.Prelude.{Result, Ok, Err, OnErr}
use Rattle.merkle_tree_theory.specs.Sound.{IsSound}
use Rattle.merkle_tree_theory.specs.State.{State}
use Rattle.merkle_replica.specs.Contents.{Contents}
use Rattle.merkle_replica.proofs.SideLaws.{laws_of}
use Rattle.main_theorem.specs.After.{tree_by_settings}
use Rattle.main_theorem.proofs.Gaps.{free_alike}
use Rattle.main_theorem.proofs.Lives.{has_alike, upsert_result, remove_result}
use Rattle.main_theorem.proofs.Roots.{pages_are}
use Rattle.main_theorem.proofs.after.carry_out.Goals as goal

-- what is unchanged has its rows
rows_stay : {K V H B E : Type 0} (r : Result B E) (old new : Contents K V H) → OnErr r (new ≡ old) → OnErr r (new.rows ≡ old.rows)
rows_stay (Ok b) old new h = tt
rows_stay (Err x) old new h = ap (λ (c : Contents _ _ _). c.rows) h

pub returns-in-Upsert-clause-rows : goal.returns-in-Upsert-clause-rows
returns-in-Upsert-clause-rows g c = rw g.met.H.RowHasher.laws_are (rw (c.in-Upsert.is, c.is_ok.ensures.value)
    (upsert_result g.K.Ord.cmp g.met.K.Ord.total g.V.PartialEq.eq g.met.V.Eq.laws g.V.Join.join_of g.met.V.Join.joining c.put.result c.args.replica.now.rows
    c.put.new.self.rows c.in-Upsert.key c.in-Upsert.value
    c.rows.ensures.ascending c.put.ensures.joined (rows_stay c.put.result c.args.replica.now c.put.new.self c.put.ensures.unchanged)))

pub returns-in-Remove-clause-rows : goal.returns-in-Remove-clause-rows
returns-in-Remove-clause-rows g c = rw g.met.H.RowHasher.laws_are (rw (c.in-Remove.is, c.is_ok-in-Remove.ensures.value)
    (remove_result g.K.Ord.cmp g.met.K.Ord.total g.V.PartialEq.eq g.met.V.Eq.laws g.V.Join.join_of g.met.V.Join.joining c.del.result c.args.replica.now.rows c.del.new.self.rows c.in-Remove.key
    c.del.ensures.rows (rows_stay c.del.result c.args.replica.now c.del.new.self c.del.ensures.unchanged)))

either : {P Q R : Type 0} → (P → R) → (Q → R) → P ⊎ Q → R
either f g (inl h) = f h
either f g (inr h) = g h

-- hashing takes no memory, and neither does a removal of what isn't there or has an empty gap beside it
pub returns-in-RootHash-clause-free : goal.returns-in-RootHash-clause-free
returns-in-RootHash-clause-free g c = rw g.met.H.RowHasher.laws_are (λ s m set f. rw c.in-RootHash.is refl)

pub returns-in-Upsert-clause-free : goal.returns-in-Upsert-clause-free
returns-in-Upsert-clause-free g c = rw g.met.H.RowHasher.laws_are (λ s m set f. rw c.in-Upsert.is tt)

pub returns-in-Remove-clause-free : goal.returns-in-Remove-clause-free
returns-in-Remove-clause-free g c = rw g.met.H.RowHasher.laws_are (λ s m set f.
    let laws = laws_of g.K.Ord.cmp g.K.KeyBytes.bytes_of g.H.Hasher-1.digest_of g.V.PartialEq.eq g.V.Join.join_of g.H.Hasher-2.digest_of in
    let o = g.met.K.Ord.total in
    let k = c.in-Remove.key in
    let old = c.args.replica.now in
    let one = c.a_map_has_one_tree.ensures in
    let sound = subst (λ (t : State _ _). IsSound laws.cmp laws.key_digest laws.bytes_of t) c.tree.ensures.tree c.every_tree_is_sound.ensures.sound in
    let pages = pages_are laws o g.met.H.Hasher-2.respects_eq one.only s old.tree old.rows m set sound c.tree.ensures.digests f in
    rw c.in-Remove.is
    (λ free. c.is_ok-in-Remove.ensures.value ∙ either
    (λ absent. c.del.ensures.succeeds_absent (has_alike laws.cmp o laws.eq old.rows m k f ∙ absent))
    (λ gap. c.del.ensures.succeeds (free_alike laws.cmp o k old.tree.root (tree_by_settings laws s m) pages gap)) free))
