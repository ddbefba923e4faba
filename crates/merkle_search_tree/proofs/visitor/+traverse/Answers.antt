use Rattle.std.proofs.Common.{true, ap, subst, sym, ◌∙◌, List, ℕ}
use Rattle.merkle_tree_theory.specs.Tree.{Node, page, row, held_of}
use Rattle.merkle_tree_theory.specs.Events.{held_events}
use Rattle.merkle_tree_theory.specs.Traversal.{Visits, over}
use Rattle.merkle_tree_theory.proofs.VisitSteps.{refused, answered, one, page-refused, page-answered, row-refused, row-answered, row-over, below-refused, below-answered}
use Rattle.merkle_search_tree.proofs.visitor.+traverse.Goals as goal

pub traverse_page-returns-then-not-visit_page : goal.traverse_page-returns-then-not-visit_page
traverse_page-returns-then-not-visit_page g t c = page-refused c.args.high_page c.args.page.now c.visit_page.ensures c.if-not-visit_page.true

pub traverse_page-nodes-init : goal.traverse_page-nodes-init
traverse_page-nodes-init g t c = λ all after v. v

pub traverse_page-nodes-preserved : goal.traverse_page-nodes-preserved
traverse_page-nodes-preserved g t c =
    λ all after v. c.nodes.invariant all after
    (row-answered c.args.page.now c.deref-node-items.result.now
    (held_of c.page.inside.high_page) c.nodes.node-index c.node-item.result c.nodes-test.true c.node-item.is c.traverse_node.ensures c.if-not-traverse_node.false v)

pub traverse_page-returns-then-not-traverse_node : goal.traverse_page-returns-then-not-traverse_node
traverse_page-returns-then-not-traverse_node g t c =
    let s = c.page.inside in
    let es = c.deref-node-items.result.now in
    let h = held_of s.high_page in
    let e = ap (λ (ns : _). page s.level s.tree_hash (row ns h)) c.deref-node-items.ensures.value ∙ c.page.view_is in
    page-answered c.args.high_page c.args.page.now s.level s.tree_hash (row es h) e c.visit_page.new.self c.visit_page.ensures c.if-not-visit_page.false
    (c.nodes.invariant _ _ (row-refused c.args.page.now es h c.nodes.node-index c.node-item.result c.nodes-test.true c.node-item.is c.traverse_node.ensures c.if-not-traverse_node.true))

pub traverse_page-returns-then-not-post_visit_page : goal.traverse_page-returns-then-not-post_visit_page
traverse_page-returns-then-not-post_visit_page g t c =
    let s = c.page.inside in
    let es = c.deref-node-items.result.now in
    let h = held_of s.high_page in
    let e = ap (λ (ns : _). page s.level s.tree_hash (row ns h)) c.deref-node-items.ensures.value ∙ c.page.view_is in
    page-answered c.args.high_page c.args.page.now s.level s.tree_hash (row es h) e c.visit_page.new.self c.visit_page.ensures c.if-not-visit_page.false
    (c.nodes.invariant _ _ (row-over c.args.page.now es h c.nodes.node-index c.nodes-test.false (refused c.post_visit_page.ensures c.if-not-post_visit_page.true)))

pub traverse_page-returns : goal.traverse_page-returns
traverse_page-returns g t c =
    let s = c.page.inside in
    let es = c.deref-node-items.result.now in
    let h = held_of s.high_page in
    let e = ap (λ (ns : _). page s.level s.tree_hash (row ns h)) c.deref-node-items.ensures.value ∙ c.page.view_is in
    page-answered c.args.high_page c.args.page.now s.level s.tree_hash (row es h) e c.visit_page.new.self c.visit_page.ensures c.if-not-visit_page.false
    (c.nodes.invariant _ _ (row-over c.args.page.now es h c.nodes.node-index c.nodes-test.false
    (answered c.post_visit_page.new.self c.post_visit_page.ensures c.if-not-post_visit_page.false c.traverse_below.ensures)))

pub traverse_node-returns-then-not-pre_visit_node : goal.traverse_node-returns-then-not-pre_visit_node
traverse_node-returns-then-not-pre_visit_node g t c = refused c.pre_visit_node.ensures c.if-not-pre_visit_node.true

pub traverse_node-returns-then-not-traverse_below : goal.traverse_node-returns-then-not-traverse_below
traverse_node-returns-then-not-traverse_below g t c =
    below-refused c.args.node.now (held_of c.node.inside.lt_pointer) (ap (λ (n : Node g.row.K.Denot (List ℕ)). n.lt) c.node.view_is)
    c.pre_visit_node.new.self c.pre_visit_node.ensures c.if-not-pre_visit_node.false c.traverse_below.ensures c.if-not-traverse_below.true

pub traverse_node-returns-then-not-visit_node : goal.traverse_node-returns-then-not-visit_node
traverse_node-returns-then-not-visit_node g t c =
    below-answered c.args.node.now (held_of c.node.inside.lt_pointer) (ap (λ (n : Node g.row.K.Denot (List ℕ)). n.lt) c.node.view_is)
    c.pre_visit_node.new.self c.pre_visit_node.ensures c.if-not-pre_visit_node.false c.traverse_below.new.visitor c.traverse_below.ensures c.if-not-traverse_below.false
    (refused c.visit_node.ensures c.if-not-visit_node.true)

pub traverse_node-returns : goal.traverse_node-returns
traverse_node-returns g t c =
    below-answered c.args.node.now (held_of c.node.inside.lt_pointer) (ap (λ (n : Node g.row.K.Denot (List ℕ)). n.lt) c.node.view_is)
    c.pre_visit_node.new.self c.pre_visit_node.ensures c.if-not-pre_visit_node.false c.traverse_below.new.visitor c.traverse_below.ensures c.if-not-traverse_below.false
    (answered c.visit_node.new.self c.visit_node.ensures c.if-not-visit_node.false (one c.post_visit_node.ensures))

pub traverse_below-returns-in-None : goal.traverse_below-returns-in-None
traverse_below-returns-in-None g t c =
    subst (λ o. Visits g.T.Visitor.step c.args.visitor.now (held_events c.args.high_page (held_of o)) true c.args.visitor.now) (sym c.in-None.is) over
