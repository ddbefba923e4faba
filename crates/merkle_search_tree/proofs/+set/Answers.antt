use Rattle.std.proofs.Common.{◌≡◌, slice_set, None, arith, ap, sym, ◌∙◌, rules}
use Rattle.merkle_tree_theory.specs.Tree.{page, Node, row, held_of}
use Rattle.merkle_tree_theory.specs.Upsert.{place, level_order, held_set, held_finds, tree_set, lifted}
use Rattle.merkle_tree_theory.proofs.NodeParts.{lt_back, lt_changed, on_err_always, on_ok_map}
use Rattle.merkle_tree_theory.proofs.Gaps.{page_set-high, page_set-equal, page_set-at, page_finds-high, page_finds-at, set_greater, with_digest}
use Rattle.merkle_tree_theory.proofs.Search.{page_nodes-ascend, page_high-map, page_gap-map, all_below, one_at, key_there, key_elsewhere}
use Rattle.merkle_tree_theory.proofs.Rows.{page_size-high, page_size-gap}
use Rattle.merkle_search_tree.proofs.+set.Goals as goal

pub page::PageOf::set-returns-in_err-set_below-in-Less-clause-absent : goal.page::PageOf::set-returns-in_err-set_below-in-Less-clause-absent
page::PageOf::set-returns-in_err-set_below-in-Less-clause-absent g t c =
    let s = c.self.inside in
    let all = all_below g.K.Ord.cmp c.args.key c.search-spot.ensures.found c.deref.ensures.value c.if-at-len.true c.len.ensures s.nodes.ok.0 in
    on_err_always _ _ (page_finds-high g.K.Ord.cmp c.args.level c.args.key c.args.digest s.nodes.items
    (held_of s.high_page) c.self.view_is c.compare_level.ensures c.in-Less.is all ∙ c.in_err-set_below-in-Less.ensures.absent)

pub page::PageOf::set-returns-then-at-len-clause-done : goal.page::PageOf::set-returns-then-at-len-clause-done
page::PageOf::set-returns-then-at-len-clause-done g t c =
    let s = c.self.inside in
    let all = all_below g.K.Ord.cmp c.args.key c.search-spot.ensures.found c.deref.ensures.value c.if-at-len.true c.len.ensures s.nodes.ok.0 in
    ap (λ o. page s.level None (row s.nodes.items o)) c.in_ok-set_below-in-Less.ensures.done
    ∙ page_set-high g.K.Ord.cmp c.args.level c.args.key c.args.digest s.nodes.items (held_of s.high_page) c.self.view_is c.compare_level.ensures c.in-Less.is all

pub page::PageOf::set-returns-then-spot-clause-done : goal.page::PageOf::set-returns-then-spot-clause-done
page::PageOf::set-returns-then-spot-clause-done g t c =
    let s = c.self.inside in
    let i = c.search-spot.result.at in
    let x = c.index_mut-found.result.now in
    let at = c.search-spot.ensures.found ∙ ap (place g.K.Ord.cmp c.args.key) c.deref.ensures.value in
    let within = one_at c.search-spot.ensures.within c.deref.ensures.value c.if-at-len.false c.len.ensures s.nodes.ok.0 in
    let same = key_there g.K.Ord.cmp c.args.key i c.search-spot.ensures.there c.deref.ensures.value c.if-spot.true x within in
    ap (λ (e : Node g.row.K.Denot g.row.D.Denot). page s.level None (row (slice_set s.nodes.items i (with_digest e c.args.digest)) (held_of s.high_page)))
    (c.found.view_is ∙ c.index_mut-found.ensures.value)
    ∙ page_set-equal g.K.Ord.cmp c.args.level c.args.key c.args.digest s.nodes.items (held_of s.high_page) c.self.view_is c.compare_level.ensures c.in-Less.is i x at within same

pub page::PageOf::set-returns-in_err-set_below-in-Less-2-clause-unchanged : goal.page::PageOf::set-returns-in_err-set_below-in-Less-2-clause-unchanged
page::PageOf::set-returns-in_err-set_below-in-Less-2-clause-unchanged g t c =
    let s = c.self.inside in
    let n = c.behind-self.inside in
    let within = one_at c.search-spot.ensures.within c.deref.ensures.value c.if-at-len.false c.len.ensures s.nodes.ok.0 in
    let back = lt_back s.nodes.items c.search-spot.result.at n.key n.value_hash within c.index_mut.ensures.value c.behind-self.view_is c.in_err-set_below-in-Less-2.ensures.unchanged in
    on_err_always _ _ (ap (λ ys. page s.level s.tree_hash (row ys (held_of s.high_page))) back ∙ c.self.view_is)

pub page::PageOf::set-returns-in_err-set_below-in-Less-2-clause-absent : goal.page::PageOf::set-returns-in_err-set_below-in-Less-2-clause-absent
page::PageOf::set-returns-in_err-set_below-in-Less-2-clause-absent g t c =
    let s = c.self.inside in
    let i = c.search-spot.result.at in
    let x = c.index_mut.result.now in
    let at = c.search-spot.ensures.found ∙ ap (place g.K.Ord.cmp c.args.key) c.deref.ensures.value in
    let within = one_at c.search-spot.ensures.within c.deref.ensures.value c.if-at-len.false c.len.ensures s.nodes.ok.0 in
    let other = key_elsewhere g.K.Ord.cmp c.args.key i c.search-spot.ensures.there c.deref.ensures.value c.if-spot.false x within in
    on_err_always _ _ (page_finds-at g.K.Ord.cmp c.args.level c.args.key c.args.digest s.nodes.items (held_of s.high_page) c.self.view_is c.compare_level.ensures c.in-Less.is i x at within other
    ∙ ap (λ (e : Node g.row.K.Denot g.row.D.Denot). held_finds g.K.Ord.cmp c.args.level c.args.key c.args.digest e.lt) (sym (c.behind-self.view_is ∙ c.index_mut.ensures.value))
    ∙ c.in_err-set_below-in-Less-2.ensures.absent)

pub page::PageOf::set-returns-in-Greater-clause-done : goal.page::PageOf::set-returns-in-Greater-clause-done
page::PageOf::set-returns-in-Greater-clause-done g t c =
    let s = c.self.inside in
    let is = ap (level_order c.args.level) c.self.view_is ∙ sym c.compare_level.ensures ∙ c.in-Greater.is in
    let f : c.lift.new.self ≡ lifted g.K.Ord.cmp c.args.level c.args.key c.args.digest c.args.self.now → c.lift.new.self ≡ tree_set g.K.Ord.cmp c.args.level c.args.key c.args.digest c.args.self.now =
    λ e. e ∙ ap (lifted g.K.Ord.cmp c.args.level c.args.key c.args.digest) (sym c.self.view_is)
    ∙ sym (set_greater g.K.Ord.cmp c.args.level c.args.key c.args.digest s.level s.tree_hash s.nodes.items (held_of s.high_page) is)
    ∙ ap (tree_set g.K.Ord.cmp c.args.level c.args.key c.args.digest) c.self.view_is in
    on_ok_map _ _ _ f c.lift.ensures.done

pub page::PageOf::set-returns-in_ok-set_below-in-Less-2-clause-done : goal.page::PageOf::set-returns-in_ok-set_below-in-Less-2-clause-done
page::PageOf::set-returns-in_ok-set_below-in-Less-2-clause-done g t c =
    let s = c.self.inside in
    let n = c.behind-self.inside in
    let i = c.search-spot.result.at in
    let x = c.index_mut.result.now in
    let at = c.search-spot.ensures.found ∙ ap (place g.K.Ord.cmp c.args.key) c.deref.ensures.value in
    let within = one_at c.search-spot.ensures.within c.deref.ensures.value c.if-at-len.false c.len.ensures s.nodes.ok.0 in
    let other = key_elsewhere g.K.Ord.cmp c.args.key i c.search-spot.ensures.there c.deref.ensures.value c.if-spot.false x within in
    let new = lt_changed (held_set g.K.Ord.cmp c.args.level c.args.key c.args.digest) n.key n.value_hash (c.behind-self.view_is ∙ c.index_mut.ensures.value) c.in_ok-set_below-in-Less-2.ensures.done in
    (λ j. page s.level None (row (slice_set s.nodes.items i (new j)) (held_of s.high_page)))
    ∙ page_set-at g.K.Ord.cmp c.args.level c.args.key c.args.digest s.nodes.items (held_of s.high_page) c.self.view_is c.compare_level.ensures c.in-Less.is i x at within other

pub page::PageOf::set-search-spot-requires : goal.page::PageOf::set-search-spot-requires
page::PageOf::set-search-spot-requires g t c =
    let s = c.self.inside in
    record { ascending = page_nodes-ascend g.K.Ord.cmp s.nodes.items (held_of s.high_page) c.self.view_is c.requires.ascending c.deref.ensures.value }

pub page::PageOf::set-set_below-requires : goal.page::PageOf::set-set_below-requires
page::PageOf::set-set_below-requires g t c κs within =
    let s = c.self.inside in
    let small = page_size-high s.nodes.items (held_of s.high_page) c.self.view_is in
    (omega (arith, small, c.decreases), (search rules, (search rules, page_high-map g.K.Ord.cmp s.nodes.items (held_of s.high_page) c.self.view_is c.requires.ascending)))

pub page::PageOf::set-set_below-requires-in-Less : goal.page::PageOf::set-set_below-requires-in-Less
page::PageOf::set-set_below-requires-in-Less g t c κs bound =
    let s = c.self.inside in
    let i = c.search-spot.result.at in
    let x = c.index_mut.result.now in
    let within = one_at c.search-spot.ensures.within c.deref.ensures.value c.if-at-len.false c.len.ensures s.nodes.ok.0 in
    let is = c.behind-self.view_is ∙ c.index_mut.ensures.value in
    let small = page_size-gap s.nodes.items (held_of s.high_page) c.self.view_is i x is within in
    (omega (arith, small, c.decreases), (search rules, (search rules, page_gap-map g.K.Ord.cmp s.nodes.items (held_of s.high_page) c.self.view_is c.requires.ascending i x is within)))
