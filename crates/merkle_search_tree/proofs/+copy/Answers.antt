use Rattle.std.proofs.Common.{◌≡◌, ◌+◌, ◌<◌, ◌≤◌, List, [], ◌∷◌, ◌++◌, length, take, refl, ap, sym, subst, ◌∙◌, arith}
use Rattle.std.proofs.lemmas.List.{take_all, take_more}
use Rattle.std.proofs.lemmas.List.Elements.{AllZip-push}
use Rattle.std.specs.List.{AllZip}
use Rattle.merkle_tree_theory.specs.Tree.{Tree, Node, page, row, held_of}
use Rattle.merkle_tree_theory.specs.Copy.{IsCopy, NodeIsCopy}
use Rattle.merkle_tree_theory.proofs.Copies.{copy-row}
use Rattle.merkle_search_tree.proofs.+copy.Goals as goal

pub page::PageOf::copied-returns : goal.page::PageOf::copied-returns
page::PageOf::copied-returns g t c =
    let s = c.self.inside in
    let R = g.K.Clone.is_clone in
    let S = g.D.Clone.is_clone in
    let end : length s.nodes.items ≤ c.nodes.i = omega (arith, c.nodes-test.false, c.len-i-end.ensures, s.nodes.ok.0) in
    let zip = subst (λ (es : List (Node g.row.K.Denot g.row.D.Denot)). AllZip (NodeIsCopy R S) es c.nodes.nodes.items) (take_all c.nodes.i s.nodes.items end) c.nodes.invariant in
    subst (λ (u : Tree g.row.K.Denot g.row.D.Denot). IsCopy R S u (page s.level c.in_ok-copy_digest.field-0 (row c.nodes.nodes.items (held_of c.in_ok-high_page.high_page)))) c.self.view_is
    (refl, sym c.in_ok-copy_digest.ensures, copy-row R S s.nodes.items c.nodes.nodes.items (held_of s.high_page) (held_of c.in_ok-high_page.high_page) zip c.in_ok-high_page.ensures)

pub page::PageOf::copied-nodes-preserved : goal.page::PageOf::copied-nodes-preserved
page::PageOf::copied-nodes-preserved g t c =
    let es = c.self.inside.nodes.items in
    let R : Node g.row.K.Denot g.row.D.Denot → Node g.row.K.Denot g.row.D.Denot → Type 0 = NodeIsCopy g.K.Clone.is_clone g.D.Clone.is_clone in
    let x = c.index-node.result.now in
    let copy = c.in_ok-copied.field-0 in
    let within : c.nodes.i < length es = omega (arith, c.nodes-test.true, c.len-i-end.ensures, c.self.inside.nodes.ok.0) in
    let zip = AllZip-push R (take c.nodes.i es) c.nodes.nodes.items x copy c.nodes.invariant c.in_ok-copied.ensures in
    let more : take c.nodes.i es ++ x ∷ [] ≡ take (c.nodes.i + 1) es =
    ap (λ (y : Node g.row.K.Denot g.row.D.Denot). take c.nodes.i es ++ y ∷ []) c.index-node.ensures ∙ sym (take_more es c.nodes.i x within) in
    subst (λ (ys : List (Node g.row.K.Denot g.row.D.Denot)). AllZip R (take (c.nodes.i + 1) es) ys) (sym c.in_ok-push.ensures.items)
    (subst (λ (xs : List (Node g.row.K.Denot g.row.D.Denot)). AllZip R xs (c.nodes.nodes.items ++ copy ∷ [])) more zip)
