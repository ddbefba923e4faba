use Rattle.std.proofs.Common.{◌≡◌, ◌++◌, ◌∷◌, [], List, length, append_assoc, append-nil, arith, ap, sym, subst, ◌∙◌}
use Rattle.std.specs.List.{AllZip}
use Rattle.std.specs.Vec.Iter.{into_iter_items}
use Rattle.std.proofs.lemmas.List.Elements.{AllZip-push}
use Rattle.mst_commands.specs.Imports.{IsDated}
use Rattle.mst_commands.proofs.writing.all_dated.Goals as goal

pub entries-preserved : goal.entries-preserved
entries-preserved c =
    let e = c.in-Some.entry in
    let kept = c.entries.invariant in
    let steps : into_iter_items c.entries.entry-iterator ≡ e ∷ into_iter_items c.next.new.self = c.in-Some.ensures.steps.0 in
    record {
      left = append_assoc c.entries.yielded (e ∷ []) _ ∙ rw (← steps) kept.left;
      count =
          let was = kept.count in
          let gone = c.in-Some.ensures.steps.1 in
          let short = ap length steps in
          omega arith;
      dated = λ up. subst (AllZip (IsDated c.args.rows.now c.args.writer.now c.args.now) (c.entries.yielded ++ e ∷ [])) (sym c.in_ok-push.ensures.items)
          (AllZip-push (IsDated c.args.rows.now c.args.writer.now c.args.now) c.entries.yielded c.entries.all.items e c.in_ok-entry.entry (kept.dated up) (c.in_ok-entry.ensures.dated up));
    }

-- at the end all entries were yielded
all_done : {X : Type 0} (done left all : List X) → done ++ left ≡ all → length left ≡ 0 → done ≡ all
all_done done [] all e h = sym (append-nil done) ∙ e
all_done done (x ∷ left) all e h = absurd (omega (arith, h))

pub returns-clause-dated : goal.returns-clause-dated
returns-clause-dated c up =
    let kept = c.entries.invariant in
    subst (λ done. AllZip (IsDated c.args.rows.now c.args.writer.now c.args.now) done c.entries.all.items) (all_done _ _ _ kept.left (sym kept.count ∙ c.in-None.ensures.steps.0)) (kept.dated up)
