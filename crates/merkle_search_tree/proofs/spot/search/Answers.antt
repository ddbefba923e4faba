use Rattle.std.proofs.Common.{◌≡◌, suc, ◌+◌, ◌-◌, ◌/◌, ◌<◌, length, get_or, true, false, arith, ap, sym, subst, ◌∙◌, rules}
use native.Mathlib.Numerals.{unary_clauses}
use Rattle.std.proofs.lemmas.List.{get_or_read}
use Rattle.std.specs.declared.cmp.Ordering.TheVariants.{Less, Equal, Greater}
use Rattle.std.specs.Ordering.{is_gt, is_eq}
use Rattle.merkle_tree_theory.specs.Search.{ComparesByHalves}
use Rattle.merkle_tree_theory.specs.Tree.{Node}
use Rattle.merkle_tree_theory.proofs.Search.{place-upto, place-above, place-within, place-equal, halved_more, between-all, between-none, one_less, one_equal, one_greater}
use Rattle.merkle_tree_theory.proofs.Gaps.{get_or_same}
use Rattle.merkle_search_tree.proofs.spot.search.Goals as goal

pub halves-init : goal.halves-init
halves-init g c = (
  omega arith,
  place-within g.K.Ord.cmp c.args.key.now c.args.nodes.now,
  omega arith,
  λ digits h. (omega arith, simp unary_clauses h),
  λ e r. absurd (omega arith),
  λ n h. subst (λ m. ComparesByHalves g.K.Ord.cmp c.args.key.now m c.args.nodes.now) (omega arith)
      (subst (ComparesByHalves g.K.Ord.cmp c.args.key.now n) (between-all c.args.nodes.now) h),
)

pub overflow_add-compared : goal.overflow_add-compared
overflow_add-compared g c = let few = c.halves.invariant.3 64 (search rules) in omega (arith, few.0)

pub halves-preserved-in-Greater : goal.halves-preserved-in-Greater
halves-preserved-in-Greater g c =
    let es = c.args.nodes.now in
    let cmp = g.K.Ord.cmp in
    let key = c.args.key.now in
    let low = c.halves.low in
    let high = c.halves.high in
    let middle = low + (high - low) / 2 in
    let inv = c.halves.invariant in
    let within : middle < length es = omega (arith, inv.2, c.halves-test.true) in
    let x = c.index-nodes-middle.result in
    let is = get_or_read es _ _ within c.index-nodes-middle.is x in
    let gt : is_gt (cmp key (get_or es middle x).key) ≡ true =
    ap (λ (e : Node g.row.K.Denot g.row.D.Denot). is_gt (cmp key e.key)) (sym is ∙ sym c.node.view_is) ∙ ap is_gt (sym c.cmp.ensures ∙ c.in-Greater.is) in
    let greater : cmp key x.key ≡ Greater = ap (λ (e : Node g.row.K.Denot g.row.D.Denot). cmp key e.key) (sym c.node.view_is) ∙ sym c.cmp.ensures ∙ c.in-Greater.is in
    let above = place-above cmp key g.met.K.Ord.total es middle x c.requires.ascending within gt in (
      omega (arith, above),
      inv.1,
      inv.2,
      λ digits h. halved_more (high - low) _ c.halves.compared digits (omega (arith, c.halves-test.true)) (inv.3 digits h)
          (omega arith),
      inv.4,
      λ n h. subst (λ m. ComparesByHalves cmp key m es) (omega arith)
          (inv.5 (suc n) (one_greater cmp key es low high n x c.halves-test.true inv.2 is greater h)),
    )

pub halves-preserved : goal.halves-preserved
halves-preserved g c =
    let es = c.args.nodes.now in
    let cmp = g.K.Ord.cmp in
    let key = c.args.key.now in
    let low = c.halves.low in
    let high = c.halves.high in
    let middle = low + (high - low) / 2 in
    let inv = c.halves.invariant in
    let within : middle < length es = omega (arith, inv.2, c.halves-test.true) in
    let x = c.index-nodes-middle.result in
    let is = get_or_read es _ _ within c.index-nodes-middle.is x in
    let not : is_gt (cmp key (get_or es middle x).key) ≡ false =
    ap (λ (e : Node g.row.K.Denot g.row.D.Denot). is_gt (cmp key e.key)) (sym is ∙ sym c.node.view_is) ∙ ap is_gt (sym c.cmp.ensures ∙ c.in-Less.is) in
    let less : cmp key x.key ≡ Less = ap (λ (e : Node g.row.K.Denot g.row.D.Denot). cmp key e.key) (sym c.node.view_is) ∙ sym c.cmp.ensures ∙ c.in-Less.is in
    let upto = place-upto cmp key es middle x within not in (
      inv.0,
      upto,
      omega (arith, within),
      λ digits h. halved_more (high - low) _ c.halves.compared digits (omega (arith, c.halves-test.true)) (inv.3 digits h) (omega arith),
      λ e r. ap is_eq (ap (λ (n : Node g.row.K.Denot g.row.D.Denot). g.K.Ord.cmp key n.key) (get_or_same es middle e x within ∙ sym is ∙ sym c.node.view_is) ∙ sym c.cmp.ensures ∙ c.in-Less.is),
      λ n h. subst (λ m. ComparesByHalves cmp key m es) (omega arith) (inv.5 (suc n) (one_less cmp key es low high n x c.halves-test.true inv.2 is less h)),
    )

pub returns-in-Equal : goal.returns-in-Equal
returns-in-Equal g c =
    let es = c.args.nodes.now in
    let cmp = g.K.Ord.cmp in
    let key = c.args.key.now in
    let low = c.halves.low in
    let high = c.halves.high in
    let middle = low + (high - low) / 2 in
    let inv = c.halves.invariant in
    let within : middle < length es = omega (arith, inv.2, c.halves-test.true) in
    let x = c.index-nodes-middle.result in
    let is = get_or_read es _ _ within c.index-nodes-middle.is x in
    let eq : cmp key (get_or es middle x).key ≡ Equal = ap (λ (e : Node g.row.K.Denot g.row.D.Denot). cmp key e.key) (sym is ∙ sym c.node.view_is) ∙ sym c.cmp.ensures ∙ c.in-Equal.is in
    let equal : cmp key x.key ≡ Equal = ap (λ (e : Node g.row.K.Denot g.row.D.Denot). cmp key e.key) (sym c.node.view_is) ∙ sym c.cmp.ensures ∙ c.in-Equal.is in
    let above = place-equal cmp key g.met.K.Ord.total es middle x c.requires.ascending within eq in
    let upto = place-upto cmp key es middle x within (ap is_gt eq) in
    record {
      found = omega (arith, above, upto);
      within = omega (arith, within);
      there = λ e r. sym (ap is_eq (ap (λ (n : Node g.row.K.Denot g.row.D.Denot). cmp key n.key) (get_or_same es middle e x within) ∙ eq));
      counted = inv.5 1 (one_equal cmp key es low high x c.halves-test.true inv.2 is equal);
      few = λ digits h. (halved_more (high - low) 0 c.halves.compared digits (omega (arith, c.halves-test.true)) (inv.3 digits h) (omega arith)).0;
    }

pub returns : goal.returns
returns g c =
    let inv = c.halves.invariant in
    let e : c.halves.low ≡ c.halves.high = omega (arith, c.halves-test.false, inv.0, inv.1) in
    record {
      found = omega (arith, e, inv.0, inv.1);
      within = omega (arith, e, inv.2);
      there = λ n r. sym (subst (λ m. is_eq (g.K.Ord.cmp c.args.key.now (get_or c.args.nodes.now m n).key) ≡ false) (sym e) (inv.4 n (omega (arith, e, r))));
      counted = subst (λ m. ComparesByHalves g.K.Ord.cmp c.args.key.now m c.args.nodes.now) (omega arith) (inv.5 0 (between-none c.halves.low c.halves.high c.args.nodes.now e));
      few = λ digits h. (inv.3 digits h).0;
    }
