use Rattle.std.proofs.Common.{◌≡◌, length, ap, sym, subst, ◌∙◌, arith}
use Rattle.std.specs.Box.{with_value}
use Rattle.merkle_tree_theory.specs.Tree.{Tree, nothing}
use Rattle.merkle_tree_theory.specs.Chain.{page_length, high_of, first_of, with_high, with_first, row_drop, row_take, row_of_page, page_with_row}
use Rattle.merkle_search_tree.specs.Parting.{PartsNodes, PartingFits}
use Rattle.merkle_tree_theory.proofs.PageChains.{page_length-is, remade-first, first-remade, length_remade}
use Rattle.merkle_search_tree.proofs.Partings.{gap-all, gap-at}
use Rattle.merkle_search_tree.proofs.SplitPages.{parts-start, parts-end, parts-inside}
use Rattle.merkle_search_tree.proofs.split.Sides.part_page.Goals as goal

pub take_first-first-requires-in-Inside : goal.take_first-first-requires-in-Inside
take_first-first-requires-in-Inside g c =
    let t = c.args.page.value in
    let i = c.in-Inside.at in
    let parting = subst (PartsNodes (page_length t)) c.in-Inside.is c.requires.parting in
    let goes = c.deref_mut-in-Inside-2.ensures.value ∙ c.part-upper.ensures.goes
    ∙ ap (λ (x : Tree g.row.K.Denot g.row.D.Denot). page_with_row 1 x (row_drop i (row_of_page x))) c.deref_mut-in-Inside.ensures.value in
    omega (arith, ap page_length goes, length_remade t i, parting.1)

pub returns-in-Start-clause-parts : goal.returns-in-Start-clause-parts
returns-in-Start-clause-parts g c = λ cmp key whole fits inv.
    let t = c.args.page.value in
    let at = (subst (PartingFits cmp key (row_of_page t)) c.in-Start.is fits).1 in
    let page = c.deref_mut.ensures.value in
    let left = c.take_first-first.ensures.taken ∙ ap (λ (x : Tree g.row.K.Denot g.row.D.Denot). first_of (row_of_page x)) page ∙ sym (gap-at cmp key (row_of_page t) 0 at) in
    parts-start cmp key whole _ t left _ _ _ _ _ _ _ _ (with_value c.args.page c.take_first-first.new.self) at (subst (PartsNodes (page_length t)) c.in-Start.is c.requires.parting)
    (c.take_first-first.ensures.left ∙ ap (λ (x : Tree g.row.K.Denot g.row.D.Denot). page_with_row 0 x (with_first nothing (row_of_page x))) page)
    (ap (λ p. p.items) c.forget.ensures.pages) (omega (arith, c.forget.ensures.stale, c.args.self.now.below.pages.ok.0)) c.push.ensures.pages c.push.ensures.stale inv

pub returns-in-Inside-clause-gap : goal.returns-in-Inside-clause-gap
returns-in-Inside-clause-gap g c = λ cmp key fits.
    let t = c.args.page.value in
    let i = c.in-Inside.at in
    let at = (subst (PartingFits cmp key (row_of_page t)) c.in-Inside.is fits).1 in
    let goes = c.deref_mut-in-Inside-2.ensures.value ∙ c.part-upper.ensures.goes
    ∙ ap (λ (x : Tree g.row.K.Denot g.row.D.Denot). page_with_row 1 x (row_drop i (row_of_page x))) c.deref_mut-in-Inside.ensures.value in
    c.take_first-first-in-Inside.ensures.taken ∙ ap (λ (x : Tree g.row.K.Denot g.row.D.Denot). first_of (row_of_page x)) goes ∙ first-remade t i ∙ sym (gap-at cmp key (row_of_page t) i at)

pub returns-in-Inside-clause-parts : goal.returns-in-Inside-clause-parts
returns-in-Inside-clause-parts g c = λ cmp key whole fits inv.
    let t = c.args.page.value in
    let i = c.in-Inside.at in
    let parting = subst (PartingFits cmp key (row_of_page t)) c.in-Inside.is fits in
    let page = c.deref_mut-in-Inside.ensures.value in
    let goes : c.deref_mut-in-Inside-2.result.now ≡ page_with_row 1 t (row_drop i (row_of_page t)) = c.deref_mut-in-Inside-2.ensures.value
    ∙ c.part-upper.ensures.goes ∙ ap (λ (x : Tree g.row.K.Denot g.row.D.Denot). page_with_row 1 x (row_drop i (row_of_page x))) page in
    let left = c.take_first-first-in-Inside.ensures.taken ∙ ap (λ (x : Tree g.row.K.Denot g.row.D.Denot). first_of (row_of_page x)) goes ∙ first-remade t i
    ∙ sym (gap-at cmp key (row_of_page t) i parting.1) in
    let bs = ap (λ p. p.items) c.forget-in-Inside.ensures.pages in
    let rs = ap (λ p. p.items) c.forget-in-Inside-2.ensures.pages in
    parts-inside cmp key whole _ t left _ _ _ _ _ _ _ _ (with_value c.args.page c.part-upper.new.self)
    (with_value c.part-upper.result c.take_first-first-in-Inside.new.self) i parting.1 parting.0.0 (omega (arith, parting.0.1, page_length-is t))
    (c.part-upper.ensures.stays ∙ ap (λ (x : Tree g.row.K.Denot g.row.D.Denot). page_with_row 1 x (row_take i (row_of_page x))) page)
    (c.take_first-first-in-Inside.ensures.left ∙ ap (λ (x : Tree g.row.K.Denot g.row.D.Denot). page_with_row 0 x (with_first nothing (row_of_page x))) goes ∙ remade-first t i)
    (bs ∙ c.push-in-Inside.ensures.pages) (omega (arith, c.forget-in-Inside.ensures.stale, ap length bs, c.push-in-Inside.new.self.pages.ok.0))
    (rs ∙ c.push-in-Inside-2.ensures.pages) (omega (arith, c.forget-in-Inside-2.ensures.stale, ap length rs, c.push-in-Inside-2.new.self.pages.ok.0)) inv

pub returns-in-End-clause-gap : goal.returns-in-End-clause-gap
returns-in-End-clause-gap g c = λ cmp key fits.
    let t = c.args.page.value in
    let at = (subst (PartingFits cmp key (row_of_page t)) c.in-End.is fits).1 in
    c.take_high-high.ensures.taken ∙ ap (λ (x : Tree g.row.K.Denot g.row.D.Denot). high_of (row_of_page x)) c.deref_mut-in-End.ensures.value ∙ sym (gap-all cmp key (row_of_page t) (sym at))

pub returns-in-End-clause-parts : goal.returns-in-End-clause-parts
returns-in-End-clause-parts g c = λ cmp key whole fits inv.
    let t = c.args.page.value in
    let at = (subst (PartingFits cmp key (row_of_page t)) c.in-End.is fits).1 in
    let page = c.deref_mut-in-End.ensures.value in
    let left = c.take_high-high.ensures.taken ∙ ap (λ (x : Tree g.row.K.Denot g.row.D.Denot). high_of (row_of_page x)) page ∙ sym (gap-all cmp key (row_of_page t) (sym at)) in
    parts-end cmp key whole _ t left _ _ _ _ _ _ _ _ (with_value c.args.page c.take_high-high.new.self) (page_length-is t ∙ at)
    (c.take_high-high.ensures.left ∙ ap (λ (x : Tree g.row.K.Denot g.row.D.Denot). page_with_row 0 x (with_high nothing (row_of_page x))) page)
    c.push-in-End.ensures.pages c.push-in-End.ensures.stale (ap (λ p. p.items) c.forget-in-End.ensures.pages) (omega (arith, c.forget-in-End.ensures.stale, c.args.self.now.rest.pages.ok.0)) inv
