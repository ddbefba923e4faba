use Rattle.std.proofs.Common.{◌≡◌, ◌+◌, ◌∷◌, [], ◌++◌, take, drop, sym, subst, arith}
use Rattle.std.specs.Cmp.{tied_back}
use Rattle.std.proofs.lemmas.List.{take-append-drop, take_all}
use Rattle.std.proofs.lemmas.Result.{IfOk-weaker, err_from_is_err_and}
use Rattle.key_order.specs.Order.{Same}
use Rattle.key_order.specs.Map.{IsMap}
use Rattle.merkle_tree_theory.specs.Edge.{edge_pairs}
use Rattle.merkle_search_tree.specs.Loading.{BeginsWith}
use Rattle.merkle_search_tree.proofs.LoadOrder.{Holds, holds-more, holds-map, holds-fails, item-more}
use Rattle.merkle_search_tree.proofs.tree.MerkleSearchTree.from_ascending_slice.Goals as goal

pub returns-in_err-push_row-clause-refused : goal.returns-in_err-push_row-clause-refused
returns-in_err-push_row-clause-refused g c =
    let d = g.H.Hasher-2.digest_of c.args.builder.hasher in
    let rows = c.args.rows.now in
    let i = c.rows.key-index in
    let r = c.rows-item.result in
    let own = c.in_ok-clone.field-0 in
    let same : Same g.K.Ord.cmp own r.0 = tied_back g.met.K.Ord.total r.0 own (g.met.K.SameClone.clone_is_same r.0 own c.in_ok-clone.ensures.cases) in
    let p = err_from_is_err_and c.from_residual-in_err-push_row.result c.from_residual-in_err-push_row.ensures.1 in
    rw (p.1, p.2) (holds-fails d g.K.Ord.cmp g.met.K.Ord.total (BeginsWith rows) _ (take i rows) own r.0 r.1 _ c.rows.invariant.held same
    (subst (BeginsWith rows) (item-more rows i r c.rows-test.true c.rows-item.is) (drop (i + 1) rows, take-append-drop (i + 1) rows))
    c.in_err-push_row.ensures.refused)

pub rows-preserved : goal.rows-preserved
rows-preserved g c =
    let d = g.H.Hasher-2.digest_of c.args.builder.hasher in
    let rows = c.args.rows.now in
    let i = c.rows.key-index in
    let r = c.rows-item.result in
    let own = c.in_ok-clone.field-0 in
    let pairs = edge_pairs c.push_row.new.loading.edge.items in
    let same : Same g.K.Ord.cmp own r.0 = tied_back g.met.K.Ord.total r.0 own (g.met.K.SameClone.clone_is_same r.0 own c.in_ok-clone.ensures.cases) in
    record {
      loading = c.in_ok-push_row.ensures.loading;
      held = subst (Holds d g.K.Ord.cmp g.met.K.Ord.total pairs) (sym (item-more rows i r c.rows-test.true c.rows-item.is))
          (subst (λ ps. Holds d g.K.Ord.cmp g.met.K.Ord.total ps (take i rows ++ r ∷ [])) (sym c.in_ok-push_row.ensures.pushed)
          (holds-more d g.K.Ord.cmp g.met.K.Ord.total _ (take i rows) own r.0 r.1 c.rows.invariant.held same));
    }

pub returns-clause-map : goal.returns-clause-map
returns-clause-map g c =
    let d = g.H.Hasher-2.digest_of c.args.builder.hasher in
    let rows = c.args.rows.now in
    let all : take c.rows.key-index rows ≡ rows = take_all c.rows.key-index rows (omega (arith, c.rows-test.false)) in
    IfOk-weaker c.finished.result _ _
    (λ tree t. subst (λ ps. Holds d g.K.Ord.cmp g.met.K.Ord.total ps rows) (sym t) (subst (Holds d g.K.Ord.cmp g.met.K.Ord.total (edge_pairs c.rows.loading.edge.items)) all c.rows.invariant.held))
    c.finished.ensures.map

pub returns-clause-ascending : goal.returns-clause-ascending
returns-clause-ascending g c =
    let d = g.H.Hasher-2.digest_of c.args.builder.hasher in
    let rows = c.args.rows.now in
    let all : take c.rows.key-index rows ≡ rows = take_all c.rows.key-index rows (omega (arith, c.rows-test.false)) in
    let kept = c.rows.invariant in
    IfOk-weaker c.finished.result _ _
    (λ tree t. subst (IsMap g.K.Ord.cmp) all (holds-map d g.K.Ord.cmp g.met.K.Ord.total (edge_pairs c.rows.loading.edge.items) (take c.rows.key-index rows) kept.held kept.loading.ascending))
    c.finished.ensures.map
