use Rattle.std.proofs.Common.{◌≡◌, ◌-◌, ap, sym, ◌∙◌, length, Some}
use Rattle.std.specs.Prelude.{slice_get}
use Rattle.merkle_tree_theory.specs.Tree.{Tree, Node, held_of}
use Rattle.merkle_tree_theory.specs.Page.{pairs}
use Rattle.merkle_tree_theory.specs.CachedRanges.{last_key_of}
use Rattle.merkle_tree_theory.proofs.RangeEnds.{last-high, last-own}
use Rattle.merkle_search_tree.proofs.page_ranges.+last.Goals as goal

pub last_key-returns-in-Some : goal.last_key-returns-in-Some
last_key-returns-in-Some g t c =
    let s = c.page.inside in
    sym (last-high s.nodes.items (held_of s.high_page) c.in-Some.key.now (sym c.in-Some.ensures)) ∙ ap (λ (n : Tree g.row.K.Denot g.row.D.Denot). last_key_of (pairs n)) c.page.view_is

pub last_key-returns-in-Some-last : goal.last_key-returns-in-Some-last
last_key-returns-in-Some-last g t c =
    let s = c.page.inside in
    let x = c.in-Some-last.node.now in
    let at : slice_get s.nodes.items (length s.nodes.items - 1) ≡ Some x = ap (λ xs. slice_get xs (length xs - 1)) (sym c.deref.ensures.value) ∙ sym c.in-Some-last.ensures.value in
    ap (λ (n : Node g.row.K.Denot g.row.D.Denot). Some n.key) c.node.view_is ∙ sym (last-own s.nodes.items (held_of s.high_page) x at (sym c.in-None.ensures))
    ∙ ap (λ (n : Tree g.row.K.Denot g.row.D.Denot). last_key_of (pairs n)) c.page.view_is
