use Rattle.std.proofs.Common.{rules, ◌≡◌, ◌<◌, ◌≤◌, length, Bool, true, false, not, refl, sym, ◌∙◌, arith, nat_eq}
use Rattle.std.proofs.lemmas.Bool.{false_from_ne_true}
use Rattle.std.specs.Option.{option_eq}
use Rattle.std.specs.Cmp.Lexicographic.{pointwise}
use Rattle.merkle_tree_theory.specs.Tree.{held_of}
use Rattle.merkle_tree_theory.specs.Equal.{tree_eq, node_eq}
use Rattle.merkle_tree_theory.proofs.NodeEquality.{nodes_eq, nodes_eq-length, nodes_eq-differ, nodes_eq-end, tree_eq-from, tree_eq-not}
use Rattle.merkle_search_tree.proofs.equality.+equal.Goals as goal

pub same_page-returns-then-len : goal.same_page-returns-then-len
same_page-returns-then-len g t c =
    let s = c.a.inside in
    let o = c.b.inside in
    let C = option_eq (pointwise nat_eq) in
    let no : nodes_eq C g.K.PartialEq.eq g.D.PartialEq.eq s.nodes.items o.nodes.items ≡ false =
    false_from_ne_true _ (λ e. let l = nodes_eq-length C g.K.PartialEq.eq g.D.PartialEq.eq s.nodes.items o.nodes.items e in c.if-len.true
    (omega (arith, l, c.len.ensures, c.len-2.ensures, s.nodes.ok.0, o.nodes.ok.0))) in
    sym (tree_eq-not C g.K.PartialEq.eq g.D.PartialEq.eq s.level o.level s.tree_hash o.tree_hash s.nodes.items o.nodes.items (held_of s.high_page) (held_of o.high_page) no)
    ∙ (λ i. tree_eq C g.K.PartialEq.eq g.D.PartialEq.eq (c.a.view_is i) (c.b.view_is i))

pub same_page-returns-then-not-same_node : goal.same_page-returns-then-not-same_node
same_page-returns-then-not-same_node g t c =
    let s = c.a.inside in
    let o = c.b.inside in
    let C = option_eq (pointwise nat_eq) in
    let E = g.K.PartialEq.eq in
    let F = g.D.PartialEq.eq in
    let len : length s.nodes.items ≡ length o.nodes.items = omega (arith, c.if-len.false, c.len.ensures, c.len-2.ensures, s.nodes.ok.0, o.nodes.ok.0) in
    let here : c.nodes.i < length s.nodes.items = omega (arith, c.nodes-test.true, c.len-i-end.ensures, s.nodes.ok.0) in
    let there : c.nodes.i < length o.nodes.items = omega arith in
    let ne : node_eq C E F c.index.result.now c.index-in-nodes.result.now ≡ false =
    let called = c.same_node.ensures in let known = c.if-not-same_node.ensures in first_of (cc, assumption known, search rules) in
    let no : nodes_eq C E F s.nodes.items o.nodes.items ≡ false =
    c.nodes.invariant ∙ nodes_eq-differ C E F s.nodes.items o.nodes.items c.nodes.i c.index.result.now c.index-in-nodes.result.now here there c.index.ensures c.index-in-nodes.ensures ne in
    sym (tree_eq-not C E F s.level o.level s.tree_hash o.tree_hash s.nodes.items o.nodes.items (held_of s.high_page) (held_of o.high_page) no)
    ∙ (λ i. tree_eq C E F (c.a.view_is i) (c.b.view_is i))

pub same_page-returns : goal.same_page-returns
same_page-returns g t c =
    let s = c.a.inside in
    let o = c.b.inside in
    let C = option_eq (pointwise nat_eq) in
    let E = g.K.PartialEq.eq in
    let F = g.D.PartialEq.eq in
    let len : length s.nodes.items ≡ length o.nodes.items = omega (arith, c.if-len.false, c.len.ensures, c.len-2.ensures, s.nodes.ok.0, o.nodes.ok.0) in
    let end : length s.nodes.items ≤ c.nodes.i = omega (arith, c.nodes-test.false, c.len-i-end.ensures, s.nodes.ok.0) in
    let end' : length o.nodes.items ≤ c.nodes.i = omega arith in
    let yes : nodes_eq C E F s.nodes.items o.nodes.items ≡ true = c.nodes.invariant ∙ nodes_eq-end C E F s.nodes.items o.nodes.items c.nodes.i end end' in
    let hash : C s.tree_hash o.tree_hash ≡ true = true_of _ (sym c.if-ne.false ∙ c.ne.ensures) in
    c.same_below.ensures
    ∙ sym (tree_eq-from C E F s.level o.level s.tree_hash o.tree_hash s.nodes.items o.nodes.items (held_of s.high_page) (held_of o.high_page) c.if-a-b.false hash yes)
    ∙ (λ i. tree_eq C E F (c.a.view_is i) (c.b.view_is i))
  where
    true_of : (b : Bool) → false ≡ not b → b ≡ true
    true_of true e = refl
    true_of false e = absurd (cc)
