use Rattle.std.proofs.Common.{◌≡◌, ℕ, ◌+◌, length, length-append, append_assoc, arith, List, ap, sym, subst, ◌∙◌, ◌++◌, [], ◌∷◌}
use Rattle.std.proofs.Common.{Some}
use Rattle.std.specs.Vec.Iter.{into_iter_items}
use Rattle.merkle_search_tree.specs.Loading.{digests}
use Rattle.merkle_tree_theory.specs.Stream.{page_digest}
use Rattle.merkle_tree_theory.specs.TreeOf.{defined_tree}
use Rattle.merkle_replica.proofs.SideLaws.{laws_of}
use Rattle.main_theorem.specs.After.{FreeUpdatesAreAccepted, rows_after}
use Rattle.merkle_replica.specs.Agreeing.{AreEqual}
use Rattle.main_theorem.proofs.Lives.{one_more, free_more, all_done}
use Rattle.main_theorem.proofs.Roots.{root_as}
use Rattle.main_theorem.proofs.after.after.Goals as goal

pub updates-preserved : goal.updates-preserved
updates-preserved g c =
    let cmp = g.K.Ord.cmp in
    let join = g.V.Join.join_of in
    let laws = laws_of cmp g.K.KeyBytes.bytes_of g.H.Hasher-1.digest_of g.V.PartialEq.eq join g.H.Hasher-2.digest_of in
    let u = c.in-Some.update in
    let kept = c.updates.invariant in
    let steps : into_iter_items c.updates.update-iterator ≡ u ∷ into_iter_items c.next.new.self = c.in-Some.ensures.steps.0 in
    record {
      left = append_assoc c.updates.yielded (u ∷ []) _ ∙ rw (← steps) kept.left;
      count =
          let was = kept.count in
          let gone = c.in-Some.ensures.steps.1 in
          let short = ap length steps in
          omega arith;
      answers = ap length c.in_ok-push.ensures.items ∙ length-append c.updates.accepted.items (c.carry_out.result ∷ []) ∙ ap (λ (n : ℕ). n + 1) kept.answers
          ∙ sym (length-append c.updates.yielded (u ∷ []));
      free = subst (FreeUpdatesAreAccepted laws c.args.builder [] (c.updates.yielded ++ u ∷ [])) (sym c.in_ok-push.ensures.items)
          (free_more laws c.args.builder [] c.updates.yielded u c.updates.accepted.items c.carry_out.result kept.answers kept.free
          ((rw g.met.H.RowHasher.laws_are at c.carry_out.ensures.free) c.args.builder _ (kept.hasher, kept.base, kept.format) kept.rows));
      rows = subst (λ (bs : List _). AreEqual cmp g.V.PartialEq.eq c.carry_out.new.replica.rows (rows_after cmp join (c.updates.yielded ++ u ∷ []) bs)) (sym c.in_ok-push.ensures.items)
          (subst (AreEqual cmp g.V.PartialEq.eq c.carry_out.new.replica.rows) (sym (one_more cmp join [] c.updates.yielded u c.updates.accepted.items c.carry_out.result kept.answers))
          ((rw g.met.H.RowHasher.laws_are at c.carry_out.ensures.rows) _ kept.rows));
      hasher = c.carry_out.ensures.settings.0 ∙ kept.hasher;
      base = c.carry_out.ensures.settings.1 ∙ kept.base;
      format = c.carry_out.ensures.settings.2 ∙ kept.format;
    }

pub returns-clause-answers : goal.returns-clause-answers
returns-clause-answers g c =
    let done = all_done _ _ _ c.updates.invariant.left (sym c.updates.invariant.count ∙ c.in-None.ensures.steps.0) in
    c.updates.invariant.answers ∙ ap length done

pub returns-clause-free : goal.returns-clause-free
returns-clause-free g c = rw g.met.H.RowHasher.laws_are (
    let laws = laws_of g.K.Ord.cmp g.K.KeyBytes.bytes_of g.H.Hasher-1.digest_of g.V.PartialEq.eq g.V.Join.join_of g.H.Hasher-2.digest_of in
    subst (λ (us : List _). FreeUpdatesAreAccepted laws c.args.builder [] us c.updates.accepted.items)
    (all_done _ _ _ c.updates.invariant.left (sym c.updates.invariant.count ∙ c.in-None.ensures.steps.0)) c.updates.invariant.free)

pub returns-clause-rows : goal.returns-clause-rows
returns-clause-rows g c =
    let done = all_done _ _ _ c.updates.invariant.left (sym c.updates.invariant.count ∙ c.in-None.ensures.steps.0) in
    subst (λ (us : List _). AreEqual g.K.Ord.cmp g.V.PartialEq.eq c.hash_last.new.replica.rows (rows_after g.K.Ord.cmp g.V.Join.join_of us c.updates.accepted.items)) done
    (subst (λ (rows : List _). AreEqual g.K.Ord.cmp g.V.PartialEq.eq rows (rows_after g.K.Ord.cmp g.V.Join.join_of c.updates.yielded c.updates.accepted.items))
    (sym c.hash_last.ensures.rows) c.updates.invariant.rows)

pub returns-clause-settings : goal.returns-clause-settings
returns-clause-settings g c =
    let s = c.hash_last.ensures.settings in
    (s.0 ∙ c.updates.invariant.hasher, s.1 ∙ c.updates.invariant.base, s.2 ∙ c.updates.invariant.format)

pub returns-clause-root_hash : goal.returns-clause-root_hash
returns-clause-root_hash g c = rw g.met.H.RowHasher.laws_are (
    let b = c.args.builder in
    let d = g.H.Hasher-1.digest_of in
    let v = g.H.Hasher-2.digest_of in
    let old = c.updates.replica in
    (rw g.met.H.RowHasher.laws_are at c.hash_last.ensures.root_hash)
    ∙ ap Some (root_as g.K.Ord.cmp d g.K.KeyBytes.bytes_of v b old.tree old.rows c.updates.invariant.hasher c.updates.invariant.base c.updates.invariant.format)
    ∙ ap (λ rows. Some (page_digest b.format g.K.KeyBytes.bytes_of (defined_tree (d b.hasher) b.base (digests (v b.hasher) rows)))) (sym c.hash_last.ensures.rows))
