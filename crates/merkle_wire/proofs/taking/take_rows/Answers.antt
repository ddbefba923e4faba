use Rattle.std.proofs.Common.{◌++◌, ◌∷◌, [], append-nil, refl, ap, sym, subst, ◌∙◌, rules}
use Rattle.std.specs.Vec.Iter.{into_iter_items}
use Rattle.merkle_replica.proofs.ListIterators.{one_yielded, all_yielded}
use Rattle.merkle_wire.specs.ItsRows.{ForRowsOf, side_of}
use Rattle.merkle_wire.specs.Taking.{AddsRows}
use Rattle.merkle_wire.proofs.TakenMore.{rows-more}
use Rattle.merkle_wire.proofs.taking.take_rows.Goals as goal
use Rattle.merkle_wire.proofs.Lacking.{new_rows}

pub rows-init : goal.rows-init
rows-init g c = record {
  left = search rules;
  count = search rules;
  steady = λ sound. sound;
  kept = λ _. refl;
  taken = λ _ rows of i. record c.args.work.now { rows = sym (append-nil c.args.work.now.rows) i };
}

pub rows-preserved : goal.rows-preserved
rows-preserved g c =
    let laws = g.H.RowHasher.laws in
    let r = c.in-Some.row in
    let kept = c.rows.invariant in
    let given = one_yielded c.rows.row-iterator c.next.new.self c.rows.yielded c.args.rows.items r c.in-Some.ensures.steps kept.left kept.count in
    let before = c.take_row.ensures.steady in
    record {
      left = given.0;
      count = given.1;
      steady = λ sound. kept.steady (before sound);
      kept = λ sound. c.take_row.ensures.kept sound ∙ kept.kept (before sound);
      taken = λ sound rows of.
          let one = subst (λ t. ForRowsOf laws t.digests (λ local. AddsRows laws local (r ∷ []) c.rows.work c.take_row.new.work)) (kept.kept (before sound)) (c.in_ok-take_row.ensures.taken sound) in
          rows-more laws (side_of (g.T.KeptTree.kept c.args.tree.now).digests rows) c.args.work.now c.rows.work c.take_row.new.work c.rows.yielded (r ∷ [])
          (kept.taken (before sound) rows of) (one rows of);
    }

pub returns-clause-taken : goal.returns-clause-taken
returns-clause-taken g c = λ sound rows of.
    let laws = g.H.RowHasher.laws in
    let done = all_yielded c.rows.yielded (into_iter_items c.rows.row-iterator) c.args.rows.items c.rows.invariant.left (sym c.rows.invariant.count ∙ c.in-None.ensures.steps.0) in
    c.rows.invariant.taken sound rows of ∙ ap (λ rs. record c.args.work.now { rows = c.args.work.now.rows ++ new_rows laws (side_of (g.T.KeptTree.kept c.args.tree.now).digests rows) rs }) done
