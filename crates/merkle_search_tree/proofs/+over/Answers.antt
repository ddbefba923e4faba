use Rattle.std.proofs.Common.{rules, sym, ◌∙◌, arith}
use Rattle.merkle_tree_theory.specs.Tree.{held_of}
use Rattle.merkle_tree_theory.proofs.Search.{page_nodes-ascend, page_high-map, page_gap-map, one_at}
use Rattle.merkle_tree_theory.proofs.Rows.{page_size-high, page_size-gap}
use Rattle.merkle_tree_theory.proofs.PageOverGap.{page_over-high, page_over-own, page_over-gap}
use Rattle.merkle_search_tree.specs.Items.{lent_gap}
use Rattle.merkle_search_tree.proofs.+over.Goals as goal

pub page::PageOf::page_over-first_behind-at-requires : goal.page::PageOf::page_over-first_behind-at-requires
page::PageOf::page_over-first_behind-at-requires g t c =
    let s = c.self.inside in
    record { ascending = page_nodes-ascend g.K.Ord.cmp s.nodes.items (held_of s.high_page) c.self.view_is c.requires c.deref.ensures.value }

pub page::PageOf::page_over-over_below-requires : goal.page::PageOf::page_over-over_below-requires
page::PageOf::page_over-over_below-requires g t c κs within =
    let s = c.self.inside in
    let small = page_size-high s.nodes.items (held_of s.high_page) c.self.view_is in
    (omega (arith, small, c.decreases), (search rules, (search rules, page_high-map g.K.Ord.cmp s.nodes.items (held_of s.high_page) c.self.view_is c.requires)))

pub page::PageOf::page_over-over_below-requires-2 : goal.page::PageOf::page_over-over_below-requires-2
page::PageOf::page_over-over_below-requires-2 g t c κs bound =
    let s = c.self.inside in
    let i = c.first_behind-at.result in
    let x = c.index-node.result.now in
    let within = one_at c.first_behind-at.ensures.within c.deref.ensures.value c.if-at-len.false c.len.ensures s.nodes.ok.0 in
    let is = c.node.view_is ∙ c.index-node.ensures in
    let small = page_size-gap s.nodes.items (held_of s.high_page) c.self.view_is i x is within in
    (omega (arith, small, c.decreases), (search rules, (search rules, page_gap-map g.K.Ord.cmp s.nodes.items (held_of s.high_page) c.self.view_is c.requires i x is within)))

pub page::PageOf::page_over-returns-then-at-len : goal.page::PageOf::page_over-returns-then-at-len
page::PageOf::page_over-returns-then-at-len g t c =
    let s = c.self.inside in
    c.over_below.ensures
    ∙ page_over-high g.K.Ord.cmp (lent_gap c.args.gap.now) s.nodes.items
    (held_of s.high_page) c.self.view_is c.first_behind-at.ensures.found c.deref.ensures.value c.if-at-len.true c.len.ensures s.nodes.ok.0

pub page::PageOf::page_over-returns-then-is_before : goal.page::PageOf::page_over-returns-then-is_before
page::PageOf::page_over-returns-then-is_before g t c =
    let s = c.self.inside in
    let within = one_at c.first_behind-at.ensures.within c.deref.ensures.value c.if-at-len.false c.len.ensures s.nodes.ok.0 in
    page_over-own g.K.Ord.cmp (lent_gap c.args.gap.now) s.nodes.items
    (held_of s.high_page) c.self.view_is c.first_behind-at.result c.index-node.result.now c.first_behind-at.ensures.found c.deref.ensures.value
    (c.node.view_is ∙ c.index-node.ensures) within
    (sym c.is_before.ensures ∙ c.if-is_before.true)

pub page::PageOf::page_over-returns : goal.page::PageOf::page_over-returns
page::PageOf::page_over-returns g t c =
    let s = c.self.inside in
    let within = one_at c.first_behind-at.ensures.within c.deref.ensures.value c.if-at-len.false c.len.ensures s.nodes.ok.0 in
    c.over_below-2.ensures
    ∙ page_over-gap g.K.Ord.cmp (lent_gap c.args.gap.now) s.nodes.items
    (held_of s.high_page) c.self.view_is c.first_behind-at.result c.index-node.result.now c.first_behind-at.ensures.found c.deref.ensures.value
    (c.node.view_is ∙ c.index-node.ensures) within
    (sym c.is_before.ensures ∙ c.if-is_before.false)
