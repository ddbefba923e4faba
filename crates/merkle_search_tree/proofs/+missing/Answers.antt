use Rattle.std.proofs.Common.{◌≡◌, ◌+◌, sum_by, take, arith, ap, sym, ◌∙◌}
use Rattle.std.proofs.lemmas.List.{take_all}
use Rattle.merkle_tree_theory.specs.Tree.{held_of}
use Rattle.merkle_tree_theory.specs.Cache.{uncached_pages, held_uncached_pages, one_without}
use Rattle.merkle_tree_theory.proofs.FillingDigests.{node_missing, row_missing-row}
use Rattle.merkle_search_tree.proofs.+missing.Goals as goal

pub page::PageOf::missing-returns : goal.page::PageOf::missing-returns
page::PageOf::missing-returns g t c =
    let s = c.self.inside in
    let whole : uncached_pages c.args.self.now ≡ one_without s.tree_hash + (sum_by node_missing s.nodes.items + held_uncached_pages (held_of s.high_page)) =
    ap uncached_pages (sym c.self.view_is) ∙ ap (λ n. one_without s.tree_hash + n) (row_missing-row s.nodes.items (held_of s.high_page)) in
    let all : sum_by node_missing (take c.nodes.node-index c.deref-node-items.result.now) ≡ sum_by node_missing s.nodes.items =
    ap (sum_by node_missing) (take_all c.nodes.node-index c.deref-node-items.result.now c.nodes-test.false ∙ c.deref-node-items.ensures.value) in
    omega (arith, c.nodes.invariant, c.missing_below-2.ensures, c.saturating_add.ensures)
