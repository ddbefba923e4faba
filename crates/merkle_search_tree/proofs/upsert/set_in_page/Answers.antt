use Rattle.std.proofs.Common.{◌<◌, [], ◌∷◌, ◌++◌, length, get_or, slice_set, false, arith, ap, sym, subst, ◌∙◌}
use Rattle.std.specs.List.{insert}
use Rattle.merkle_tree_theory.specs.Tree.{Node, nothing, row, held_of}
use Rattle.merkle_tree_theory.specs.Upsert.{place, held_lower, held_upper}
use Rattle.merkle_tree_theory.proofs.NodeParts.{new_node, lt_back, lt_changed}
use Rattle.merkle_tree_theory.proofs.Gaps.{put_at, put_equal, put_high, finds_at, finds_high, with_digest}
use Rattle.key_order.specs.Map.{IsMap}
use Rattle.merkle_tree_theory.specs.Page.{held_pairs}
use Rattle.merkle_tree_theory.specs.Search.{NodesAscend}
use Rattle.merkle_tree_theory.proofs.Search.{row-ascends, gap-map, high-map, all_below, one_at, key_there, key_elsewhere}
use Rattle.merkle_search_tree.proofs.upsert.set_in_page.Goals as goal

pub returns-then-is_err-clause-absent : goal.returns-then-is_err-clause-absent
returns-then-is_err-clause-absent g c =
    let all = all_below g.K.Ord.cmp c.args.key c.search-spot.ensures.found c.deref.ensures.value c.if-at-len.true c.len.ensures c.args.nodes.now.ok.0 in
    λ n. finds_high g.K.Ord.cmp n c.args.key c.args.digest false c.args.nodes.now.items (held_of c.args.high_page.now) all

pub returns-in_default-clause-absent : goal.returns-in_default-clause-absent
returns-in_default-clause-absent g c =
    let all = all_below g.K.Ord.cmp c.args.key c.search-spot.ensures.found c.deref.ensures.value c.if-at-len.true c.len.ensures c.args.nodes.now.ok.0 in
    λ n. finds_high g.K.Ord.cmp n c.args.key c.args.digest false c.args.nodes.now.items (held_of c.args.high_page.now) all

pub returns-then-at-len-clause-done : goal.returns-then-at-len-clause-done
returns-then-at-len-clause-done g c =
    let all = all_below g.K.Ord.cmp c.args.key c.search-spot.ensures.found c.deref.ensures.value c.if-at-len.true c.len.ensures c.args.nodes.now.ok.0 in
    let items = c.push_reserved.ensures.items ∙ (λ j. c.reserve.ensures.items j ++ new_node c.args.key c.args.digest (c.in-Ok.ensures.below j) ∷ []) in
    (λ j. row (items j) (c.in-Ok.ensures.rest j)) ∙ sym (put_high g.K.Ord.cmp c.args.key c.args.digest c.args.nodes.now.items (held_of c.args.high_page.now) all)

pub returns-then-spot-clause-done : goal.returns-then-spot-clause-done
returns-then-spot-clause-done g c =
    let es = c.args.nodes.now.items in
    let i = c.search-spot.result.at in
    let x = c.index_mut-found.result.now in
    let at = c.search-spot.ensures.found ∙ ap (place g.K.Ord.cmp c.args.key) c.deref.ensures.value in
    let within = one_at c.search-spot.ensures.within c.deref.ensures.value c.if-at-len.false c.len.ensures c.args.nodes.now.ok.0 in
    let same = key_there g.K.Ord.cmp c.args.key i c.search-spot.ensures.there c.deref.ensures.value c.if-spot.true x within in
    ap (λ (e : Node g.row.K.Denot g.row.D.Denot). row (slice_set es i (with_digest e c.args.digest)) (held_of c.args.high_page.now)) (c.found.view_is ∙ c.index_mut-found.ensures.value)
    ∙ sym (put_equal g.K.Ord.cmp c.args.key c.args.digest es (held_of c.args.high_page.now) i x at within same)

pub returns-then-is_err-2-clause-unchanged : goal.returns-then-is_err-2-clause-unchanged
returns-then-is_err-2-clause-unchanged g c = ap (λ ys. row ys (held_of c.args.high_page.now)) c.reserve-2.ensures.items

pub returns-then-is_err-2-clause-absent : goal.returns-then-is_err-2-clause-absent
returns-then-is_err-2-clause-absent g c =
    let i = c.search-spot.result.at in
    let x = new_node c.args.key c.args.digest nothing in
    let at = c.search-spot.ensures.found ∙ ap (place g.K.Ord.cmp c.args.key) c.deref.ensures.value in
    let within = one_at c.search-spot.ensures.within c.deref.ensures.value c.if-at-len.false c.len.ensures c.args.nodes.now.ok.0 in
    let other = key_elsewhere g.K.Ord.cmp c.args.key i c.search-spot.ensures.there c.deref.ensures.value c.if-spot.false x within in
    λ n. finds_at g.K.Ord.cmp n c.args.key c.args.digest false c.args.nodes.now.items (held_of c.args.high_page.now) i x at within other

pub returns-in_default-split_off_lt-clause-unchanged : goal.returns-in_default-split_off_lt-clause-unchanged
returns-in_default-split_off_lt-clause-unchanged g c =
    let n = c.behind-nodes.inside in
    let within = one_at c.search-spot.ensures.within c.deref.ensures.value c.if-at-len.false c.len.ensures c.args.nodes.now.ok.0 in
    let back = c.reserve-2.ensures.items in
    let within' : c.search-spot.result.at < length c.reserve-2.new.self.items = omega (arith, within, ap length back) in
    let same = lt_back c.reserve-2.new.self.items c.search-spot.result.at n.key n.value_hash within' c.index_mut.ensures.value c.behind-nodes.view_is c.in_default-split_off_lt.ensures.unchanged in
    ap (λ ys. row ys (held_of c.args.high_page.now)) (same ∙ back)

pub returns-in_default-split_off_lt-clause-absent : goal.returns-in_default-split_off_lt-clause-absent
returns-in_default-split_off_lt-clause-absent g c =
    let i = c.search-spot.result.at in
    let x = c.index_mut.result.now in
    let at = c.search-spot.ensures.found ∙ ap (place g.K.Ord.cmp c.args.key) c.deref.ensures.value in
    let within = one_at c.search-spot.ensures.within c.deref.ensures.value c.if-at-len.false c.len.ensures c.args.nodes.now.ok.0 in
    let other = key_elsewhere g.K.Ord.cmp c.args.key i c.search-spot.ensures.there c.deref.ensures.value c.if-spot.false x within in
    λ n. finds_at g.K.Ord.cmp n c.args.key c.args.digest false c.args.nodes.now.items (held_of c.args.high_page.now) i x at within other

pub returns-clause-done : goal.returns-clause-done
returns-clause-done g c =
    let es = c.args.nodes.now.items in
    let i = c.search-spot.result.at in
    let n = c.behind-nodes.inside in
    let x = c.index_mut.result.now in
    let at = c.search-spot.ensures.found ∙ ap (place g.K.Ord.cmp c.args.key) c.deref.ensures.value in
    let within = one_at c.search-spot.ensures.within c.deref.ensures.value c.if-at-len.false c.len.ensures c.args.nodes.now.ok.0 in
    let other = key_elsewhere g.K.Ord.cmp c.args.key i c.search-spot.ensures.there c.deref.ensures.value c.if-spot.false x within in
    let back = c.reserve-2.ensures.items in
    let is = c.behind-nodes.view_is ∙ c.index_mut.ensures.value ∙ ap (λ ys. get_or ys i x) back in
    let new = lt_changed (held_upper g.K.Ord.cmp c.args.key) n.key n.value_hash is c.in-Ok-split_off_lt.ensures.rest in
    let low = c.in-Ok-split_off_lt.ensures.below ∙ ap (λ (e : Node g.row.K.Denot g.row.D.Denot). held_lower g.K.Ord.cmp c.args.key e.lt) is in
    ap (λ ys. row ys (held_of c.args.high_page.now)) (c.in-Ok-insert.ensures.items ∙ (λ j. insert (slice_set (back j) i (new j)) i (new_node c.args.key c.args.digest (low j))))
    ∙ sym (put_at g.K.Ord.cmp c.args.key c.args.digest es (held_of c.args.high_page.now) i x at within other)

pub search-spot-requires : goal.search-spot-requires
search-spot-requires g c = record {
  ascending =
      subst (NodesAscend g.K.Ord.cmp) (sym c.deref.ensures.value) (row-ascends g.K.Ord.cmp c.args.nodes.now.items (held_of c.args.high_page.now) c.requires.ascending);
}

pub split_off_lt-requires : goal.split_off_lt-requires
split_off_lt-requires g c = record { ascending = high-map g.K.Ord.cmp c.args.nodes.now.items (held_of c.args.high_page.now) c.requires.ascending }

pub split_off_lt-requires-2 : goal.split_off_lt-requires-2
split_off_lt-requires-2 g c =
    let i = c.search-spot.result.at in
    let x = c.index_mut.result.now in
    let within = one_at c.search-spot.ensures.within c.deref.ensures.value c.if-at-len.false c.len.ensures c.args.nodes.now.ok.0 in
    let is = c.behind-nodes.view_is ∙ c.index_mut.ensures.value ∙ ap (λ ys. get_or ys i x) c.reserve-2.ensures.items in
    record {
      ascending = subst (λ (e : Node g.row.K.Denot g.row.D.Denot). IsMap g.K.Ord.cmp (held_pairs e.lt)) (sym is)
          (gap-map g.K.Ord.cmp c.args.nodes.now.items (held_of c.args.high_page.now) i x c.requires.ascending within);
    }
