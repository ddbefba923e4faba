use Rattle.std.proofs.Common.{[], ◌∷◌, ◌++◌, ap, sym, ◌∙◌, append-nil}
use Rattle.std.proofs.lemmas.List.{take_all, map-append}
use Rattle.merkle_tree_theory.specs.Tree.{Tree, held_of}
use Rattle.merkle_tree_theory.specs.Page.{cache}
use Rattle.merkle_tree_theory.specs.Outline.{of_node, cached_items}
use Rattle.merkle_tree_theory.proofs.NodeParts.{on_ok_map}
use Rattle.merkle_tree_theory.proofs.Outlines.{front_items, bound_behind, listed-row, listed-more, behind-more}
use Rattle.merkle_search_tree.specs.Items.{bound_of, lent_gap, item, items}
use Rattle.merkle_search_tree.proofs.page.PageOf.list_items.Goals as goal

pub nodes-init : goal.nodes-init
nodes-init g c = record { listed = sym (append-nil (items c.args.list.now.items)); behind = λ i. bound_of c.args.gap.after }

pub nodes-preserved : goal.nodes-preserved
nodes-preserved g c =
    let gap = lent_gap c.args.gap in
    let i = c.nodes.node-index in
    let xs = c.deref-node-items.result.now in
    let at = c.node.view_is ∙ c.node-item.is in
    record {
      listed = ap items c.in_ok-push.ensures.items ∙ map-append item c.list_page.new.list.items _ ∙ ap (λ w. w ++ of_node c.node.inside.key c.node.inside.value_hash ∷ []) c.in_ok-list_page.ensures
          ∙ listed-more cache gap xs i c.node-item.result (items c.args.list.now.items) (items c.nodes.list.items)
          (bound_of c.nodes.after) c.nodes-test.true at c.nodes.invariant.listed c.nodes.invariant.behind;
      behind = behind-more gap.after xs i c.node-item.result c.nodes-test.true at;
    }

pub returns : goal.returns
returns g c =
    let s = c.self.inside in
    let gap = lent_gap c.args.gap in
    let old = items c.args.list.now.items in
    let all = take_all c.nodes.node-index c.deref-node-items.result.now c.nodes-test.false ∙ c.deref-node-items.ensures.value in
    on_ok_map c.list_page-2.result _ _
    (λ e. e
    ∙ listed-row cache gap s.nodes.items (held_of s.high_page) old (items c.nodes.list.items) (bound_of c.nodes.after)
    (c.nodes.invariant.listed ∙ ap (λ xs. old ++ front_items cache gap xs) all) (c.nodes.invariant.behind ∙ ap (bound_behind gap.after) all)
    ∙ ap (λ (n : Tree g.row.K.Denot g.row.D.Denot). old ++ cached_items gap n) c.self.view_is)
    c.list_page-2.ensures
