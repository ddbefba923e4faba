use Rattle.std.proofs.Common.{◌≡◌, Some, length, ap, sym, ◌∙◌, arith}
use Rattle.std.specs.Prelude.{◌≢◌}
use Rattle.std.proofs.lemmas.Bool.{eqb-false}
use Rattle.merkle_diff.specs.PageRange.{entry}
use Rattle.merkle_tree_theory.specs.Tree.{Tree, held_of}
use Rattle.merkle_tree_theory.specs.Page.{pairs}
use Rattle.merkle_tree_theory.specs.CachedRanges.{first_key_of, last_key_of, range_of}
use Rattle.merkle_tree_theory.proofs.RangeEnds.{range-ends, made-range}
use Rattle.merkle_search_tree.proofs.page.PageOf.page_range.Goals as goal

pub returns : goal.returns
returns g c =
    let s = c.self.inside in
    let cmp = g.K.Ord.cmp in
    let a = c.in_ok-first.first.now in
    let b = c.in_ok-last.last.now in
    let d = c.new.result in
    let empty = eqb-false _ 0 (sym c.is_empty.ensures ∙ c.if-is_empty.false) in
    let some : length s.nodes.items ≢ 0 = λ e. empty (omega (arith, e, s.nodes.ok.0)) in
    let digest : s.tree_hash ≡ Some d = sym c.in_ok-digest.ensures.value ∙ ap Some (sym (c.new.ensures ∙ c.as_bytes.ensures)) in
    let first : Some a ≡ first_key_of (pairs c.args.self.now) = c.in_ok-first.ensures in
    let last : Some b ≡ last_key_of (pairs c.args.self.now) = c.in_ok-last.ensures in
    made-range cmp entry c.try_new.result a b d c.try_new.ensures.in_order c.try_new.ensures.range
    ∙ range-ends cmp s.level s.tree_hash s.nodes.items (held_of s.high_page) d a b digest some
    (first ∙ ap (λ (n : Tree g.row.K.Denot g.row.D.Denot). first_key_of (pairs n)) (sym c.self.view_is))
    (last ∙ ap (λ (n : Tree g.row.K.Denot g.row.D.Denot). last_key_of (pairs n)) (sym c.self.view_is))
    ∙ ap (range_of cmp) c.self.view_is
