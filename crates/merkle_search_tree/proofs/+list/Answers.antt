use Rattle.std.proofs.Common.{◌≡◌, ◌<◌, ◌+◌, ◌++◌, get_or, length, ap, sym, subst, ◌∙◌, arith, rules}
use Rattle.std.proofs.lemmas.List.{take_all}
use Rattle.std.specs.List.{flat_map}
use Rattle.merkle_diff.specs.PageRange.{entries}
use Rattle.merkle_tree_theory.specs.Tree.{Tree, Node, row, held_of, tree_size, row_size, held_size}
use Rattle.merkle_tree_theory.specs.Page.{level, LevelsFall, HeldFalls}
use Rattle.merkle_tree_theory.specs.CachedRanges.{as_list, range_of, cached_ranges, row_cached, held_cached}
use Rattle.merkle_tree_theory.proofs.NodeParts.{on_ok_map}
use Rattle.merkle_tree_theory.proofs.Rows.{size_at, size_high}
use Rattle.merkle_tree_theory.proofs.FallingLevels.{at-falls, high-falls}
use Rattle.merkle_tree_theory.proofs.RangeEnds.{node_cached, row_cached-row, only_own, regroup}
use Rattle.merkle_search_tree.proofs.+list.Goals as goal

pub page::PageOf::list_ranges-returns-then-self-eq0 : goal.page::PageOf::list_ranges-returns-then-self-eq0
page::PageOf::list_ranges-returns-then-self-eq0 g t c =
    let cmp = g.K.Ord.cmp in
    let zero = ap level (sym c.self.view_is) ∙ c.if-self-eq0.true in
    c.in_ok-list_own.ensures ∙ ap (λ w. entries c.args.list.now.items ++ w) (only_own cmp c.args.self.now c.requires zero)

pub page::PageOf::list_ranges-list_below-requires : goal.page::PageOf::list_ranges-list_below-requires
page::PageOf::list_ranges-list_below-requires g t c κs within =
    let s = c.self.inside in
    let es = s.nodes.items in
    let i = c.nodes.node-index in
    let x = c.node-item.result in
    let falls = subst (λ (p : Tree g.row.K.Denot g.row.D.Denot). LevelsFall p) (sym c.self.view_is) c.requires in
    let r : i < length es = omega (arith, c.nodes-test.true, ap length c.deref-node-items.ensures.value) in
    let is = c.node.view_is ∙ c.node-item.is ∙ ap (λ ys. get_or ys i x) c.deref-node-items.ensures.value in
    let held : HeldFalls s.level (held_of c.node.inside.lt_pointer) =
    subst (λ (e : Node g.row.K.Denot g.row.D.Denot). HeldFalls s.level e.lt) (sym is) (at-falls s.level es (held_of s.high_page) i x r falls) in
    let small = size_at es (held_of s.high_page) i x r in
    let same : held_size (held_of c.node.inside.lt_pointer) ≡ held_size (get_or es i x).lt = ap (λ (e : Node g.row.K.Denot g.row.D.Denot). held_size e.lt) is in
    let whole : row_size (row es (held_of s.high_page)) + 1 ≡ tree_size c.args.self.now = omega (arith, ap tree_size c.self.view_is) in
    (omega (arith, small, same, whole, c.decreases), (search rules, (search rules, (s.level, held))))

pub page::PageOf::list_ranges-list_below-requires-2 : goal.page::PageOf::list_ranges-list_below-requires-2
page::PageOf::list_ranges-list_below-requires-2 g t c κs within =
    let s = c.self.inside in
    let es = s.nodes.items in
    let falls = subst (λ (p : Tree g.row.K.Denot g.row.D.Denot). LevelsFall p) (sym c.self.view_is) c.requires in
    let small = size_high es (held_of s.high_page) in
    let whole : row_size (row es (held_of s.high_page)) + 1 ≡ tree_size c.args.self.now = omega (arith, ap tree_size c.self.view_is) in
    (omega (arith, small, whole, c.decreases), (search rules, (search rules, (s.level, high-falls s.level es (held_of s.high_page) falls))))

pub page::PageOf::list_ranges-returns : goal.page::PageOf::list_ranges-returns
page::PageOf::list_ranges-returns g t c =
    let s = c.self.inside in
    let cmp = g.K.Ord.cmp in
    let old = entries c.args.list.now.items in
    let all = ap (flat_map (node_cached cmp)) (take_all c.nodes.node-index c.deref-node-items.result.now c.nodes-test.false ∙ c.deref-node-items.ensures.value) in
    let high = held_cached cmp (held_of s.high_page) in
    on_ok_map c.list_below-2.result _ _
    (λ e. e ∙ ap (λ w. w ++ high) (c.nodes.invariant ∙ (λ i. c.in_ok-list_own.ensures i ++ all i))
    ∙ regroup old (as_list (range_of cmp c.args.self.now)) (flat_map (node_cached cmp) s.nodes.items) high
    ∙ ap (λ w. old ++ (as_list (range_of cmp c.args.self.now) ++ w)) (sym (row_cached-row cmp s.nodes.items (held_of s.high_page)))
    ∙ ap (λ (w : Tree g.row.K.Denot g.row.D.Denot). old ++ (as_list (range_of cmp w) ++ row_cached cmp (row s.nodes.items (held_of s.high_page)))) (sym c.self.view_is)
    ∙ ap (λ (n : Tree g.row.K.Denot g.row.D.Denot). old ++ cached_ranges cmp n) c.self.view_is)
    c.list_below-2.ensures
