use Rattle.std.proofs.Common.{◌≡◌, ℕ, ◌<◌, ◌≤◌, ◌^◌, List, ap, subst, sym, ◌∙◌, length, arith}
use Rattle.std.proofs.lemmas.List.{take_all}
use Rattle.std.specs.List.{AllByRecursion}
use Rattle.merkle_tree_theory.specs.Tree.{Node, row, held_of}
use Rattle.merkle_tree_theory.specs.Page.{row_nodes}
use Rattle.merkle_tree_theory.specs.Small.{IsHeldInMemory}
use Rattle.merkle_tree_theory.proofs.Rows.{row_nodes-row}
use Rattle.merkle_tree_theory.proofs.Small.{NodeIsHeld, RowIsHeld-row, all-more}
use Rattle.merkle_search_tree.proofs.measure.+look.Goals as goal

pub Page+N+K::look-nodes-preserved : goal.Page+N+K::look-nodes-preserved
Page+N+K::look-nodes-preserved g t c =
    let b = g.K.KeyBytes.bytes_of in
    let n = c.node.inside in
    let view : Node g.row.K.Denot (List ℕ) = record { lt = held_of n.lt_pointer; key = n.key; digest = n.value_hash } in
    let short : length (b n.key) < 2 ^ 64 = subst (λ xs. length xs < 2 ^ 64) c.key_bytes.ensures c.key_bytes.type_inv.0 in
    let long : length n.value_hash ≡ g.row.N = ap length (sym c.as_bytes.ensures) ∙ c.look_at_bytes.ensures in
    let held : NodeIsHeld b g.row.N c.index-node.result.now = subst (NodeIsHeld b g.row.N) c.node.view_is (c.look_below.ensures, short, long) in
    let s = c.self.inside in
    let within : c.nodes.i < length s.nodes.items = omega (arith, c.nodes-test.true, c.len-i-end.ensures, s.nodes.ok.0) in
    all-more (NodeIsHeld b g.row.N) s.nodes.items c.nodes.i c.index-node.result.now within c.nodes.invariant (subst (NodeIsHeld b g.row.N) c.index-node.ensures held)

pub Page+N+K::look-returns : goal.Page+N+K::look-returns
Page+N+K::look-returns g t c =
    let b = g.K.KeyBytes.bytes_of in
    let s = c.self.inside in
    let end : length s.nodes.items ≤ c.nodes.i = omega (arith, c.nodes-test.false, c.len-i-end.ensures, s.nodes.ok.0) in
    let all : AllByRecursion (NodeIsHeld b g.row.N) s.nodes.items = subst (AllByRecursion (NodeIsHeld b g.row.N)) (take_all c.nodes.i s.nodes.items end) c.nodes.invariant in
    let few : length (row_nodes (row s.nodes.items (held_of s.high_page))) < 2 ^ 64 =
    omega (arith, ap length (row_nodes-row s.nodes.items (held_of s.high_page)), c.len-i-end.ensures, c.len-i-end.type_inv, s.nodes.ok.0) in
    subst (IsHeldInMemory b g.row.N) c.self.view_is (few, RowIsHeld-row b g.row.N s.nodes.items (held_of s.high_page) all c.look_below-2.ensures)
