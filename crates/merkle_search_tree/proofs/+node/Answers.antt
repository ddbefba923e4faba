use Rattle.std.proofs.Common.{rules, Some, ap, sym, ◌∙◌, arith}
use Rattle.merkle_tree_theory.specs.Tree.{held_of, Node}
use Rattle.merkle_tree_theory.specs.Page.{pair_of}
use Rattle.merkle_tree_theory.specs.Upsert.{place}
use Rattle.merkle_tree_theory.proofs.Search.{page_nodes-ascend, page_high-map, page_gap-map, all_below, one_at, key_there, key_elsewhere}
use Rattle.merkle_tree_theory.proofs.Rows.{page_size-high, page_size-gap}
use Rattle.merkle_tree_theory.proofs.Seams.{page_entry-high, page_entry-equal, page_entry-gap, pair_at-is}
use Rattle.merkle_search_tree.proofs.+node.Goals as goal

pub page::PageOf::node_with-search-spot-requires : goal.page::PageOf::node_with-search-spot-requires
page::PageOf::node_with-search-spot-requires g t c =
    let s = c.self.inside in
    record { ascending = page_nodes-ascend g.K.Ord.cmp s.nodes.items (held_of s.high_page) c.self.view_is c.requires c.deref.ensures.value }

pub page::PageOf::node_with-node_below-requires : goal.page::PageOf::node_with-node_below-requires
page::PageOf::node_with-node_below-requires g t c κs within =
    let s = c.self.inside in
    let small = page_size-high s.nodes.items (held_of s.high_page) c.self.view_is in
    (omega (arith, small, c.decreases), (search rules, (search rules, page_high-map g.K.Ord.cmp s.nodes.items (held_of s.high_page) c.self.view_is c.requires)))

pub page::PageOf::node_with-node_below-requires-2 : goal.page::PageOf::node_with-node_below-requires-2
page::PageOf::node_with-node_below-requires-2 g t c κs bound =
    let s = c.self.inside in
    let i = c.search-spot.result.at in
    let x = c.index-node.result.now in
    let within = one_at c.search-spot.ensures.within c.deref.ensures.value c.if-at-len.false c.len.ensures s.nodes.ok.0 in
    let is = c.node.view_is ∙ c.index-node.ensures in
    let small = page_size-gap s.nodes.items (held_of s.high_page) c.self.view_is i x is within in
    (omega (arith, small, c.decreases), (search rules, (search rules, page_gap-map g.K.Ord.cmp s.nodes.items (held_of s.high_page) c.self.view_is c.requires i x is within)))

pub page::PageOf::node_with-returns-then-at-len : goal.page::PageOf::node_with-returns-then-at-len
page::PageOf::node_with-returns-then-at-len g t c =
    let s = c.self.inside in
    let all = all_below g.K.Ord.cmp c.args.key.now c.search-spot.ensures.found c.deref.ensures.value c.if-at-len.true c.len.ensures s.nodes.ok.0 in
    c.node_below.ensures ∙ page_entry-high g.K.Ord.cmp c.args.key.now s.nodes.items (held_of s.high_page) c.self.view_is all

pub page::PageOf::node_with-returns-then-spot : goal.page::PageOf::node_with-returns-then-spot
page::PageOf::node_with-returns-then-spot g t c =
    let s = c.self.inside in
    let i = c.search-spot.result.at in
    let x = c.index-node.result.now in
    let at = c.search-spot.ensures.found ∙ ap (place g.K.Ord.cmp c.args.key.now) c.deref.ensures.value in
    let within = one_at c.search-spot.ensures.within c.deref.ensures.value c.if-at-len.false c.len.ensures s.nodes.ok.0 in
    let same = key_there g.K.Ord.cmp c.args.key.now i c.search-spot.ensures.there c.deref.ensures.value c.if-spot.true x within in
    ap (λ (n : Node g.row.K.Denot g.row.D.Denot). Some (pair_of n)) c.index-node.ensures ∙ sym (pair_at-is s.nodes.items i x within)
    ∙ page_entry-equal g.K.Ord.cmp c.args.key.now s.nodes.items (held_of s.high_page) c.self.view_is i x at within same

pub page::PageOf::node_with-returns : goal.page::PageOf::node_with-returns
page::PageOf::node_with-returns g t c =
    let s = c.self.inside in
    let i = c.search-spot.result.at in
    let x = c.index-node.result.now in
    let at = c.search-spot.ensures.found ∙ ap (place g.K.Ord.cmp c.args.key.now) c.deref.ensures.value in
    let within = one_at c.search-spot.ensures.within c.deref.ensures.value c.if-at-len.false c.len.ensures s.nodes.ok.0 in
    let is = c.node.view_is ∙ c.index-node.ensures in
    let other = key_elsewhere g.K.Ord.cmp c.args.key.now i c.search-spot.ensures.there c.deref.ensures.value c.if-spot.false x within in
    c.node_below-2.ensures ∙ page_entry-gap g.K.Ord.cmp c.args.key.now s.nodes.items (held_of s.high_page) c.self.view_is i x at within is other
