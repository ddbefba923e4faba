use Rattle.std.proofs.Common.{sym, subst, ◌∙◌}
use Rattle.std.specs.Cmp.{tied_itself}
use Rattle.std.proofs.lemmas.Result.{IfOk-weaker, err_from_is_err_and}
use Rattle.merkle_diff.specs.Iterable.{Begins}
use Rattle.merkle_search_tree.specs.Loading.{digests}
use Rattle.merkle_search_tree.proofs.LoadOrder.{rows-map, Holds, holds-fails, yields-more}
use Rattle.key_order.specs.Map.{IsMap}
use Rattle.key_order.proofs.SameMaps.{same_map-own}
use Rattle.merkle_search_tree.proofs.tree.MerkleSearchTree.from_ascending.Goals as goal

pub returns-in_err-push_row-clause-refused : goal.returns-in_err-push_row-clause-refused
returns-in_err-push_row-clause-refused g c =
    let d = g.H.Hasher-2.digest_of c.args.builder.hasher in
    let kept = c.rows.invariant in
    let p = err_from_is_err_and c.from_residual.result c.from_residual.ensures.1 in
    let held : Holds d g.K.Ord.cmp g.met.K.Ord.total _ c.rows.yielded =
    subst (λ ps. Holds d g.K.Ord.cmp g.met.K.Ord.total ps c.rows.yielded) (sym kept.held) (same_map-own g.K.Ord.cmp g.met.K.Ord.total (digests d c.rows.yielded)) in
    rw (p.1, p.2) (holds-fails d g.K.Ord.cmp g.met.K.Ord.total
    (Begins g.T.IntoIterator.into_iter_gives g.T.IntoIter.Iterator.next_gives c.args.rows) _ c.rows.yielded c.in-Some.key c.in-Some.key c.in-Some.value _ held
    (tied_itself g.met.K.Ord.total c.in-Some.key) (
      c.into_iter-key-iterator.result,
      c.next.new.self,
      c.into_iter-key-iterator.ensures.into_iter_gives,
      yields-more g.T.IntoIter.Iterator.next_gives _ c.rows.yielded _ (c.in-Some.key, c.in-Some.value) _ c.rows.yielded_by c.in-Some.ensures.steps,
    )
    c.in_err-push_row.ensures.refused)

pub returns-clause-map : goal.returns-clause-map
returns-clause-map g c =
    let d = g.H.Hasher-2.digest_of c.args.builder.hasher in
    let kept = c.rows.invariant in
    let rows = rows-map d g.K.Ord.cmp c.rows.yielded (subst (IsMap g.K.Ord.cmp) kept.held kept.loading.ascending) in
    IfOk-weaker c.finished.result _ _
    (λ tree t. (
      c.rows.yielded,
      (
        c.into_iter-key-iterator.result,
        c.into_iter-key-iterator.ensures.into_iter_gives,
        (c.next.new.self, (c.rows.key-iterator, c.rows.yielded_by, c.in-None.ensures.steps)),
      ),
      rows,
      t ∙ kept.held,
    ))
    c.finished.ensures.map
