use Rattle.std.proofs.Common.{◌<◌, ap, sym, subst, ◌∙◌, arith}
use Rattle.merkle_tree_theory.specs.Tree.{Tree, below, held_of}
use Rattle.merkle_tree_theory.specs.Chain.{with_first, page_chain, page_with_row, row_of_page, page_length, HaveNodes}
use Rattle.merkle_tree_theory.proofs.PageChains.{hang_stale, hang_kept, have-last}
use Rattle.merkle_search_tree.proofs.chain.Chain.hang_rest.Goals as goal
use Rattle.merkle_search_tree.proofs.chain.Chain.hang_rest.Goals.{then-len-stale, else-len-stale}

pub hang_first-requires : goal.hang_first-requires
hang_first-requires g c =
    subst (λ (t : Tree g.row.K.Denot g.row.D.Denot). 0 < page_length t) (sym c.deref_mut.ensures.value)
    (have-last c.pop.new.self.items c.in-Some.page (subst HaveNodes c.in-Some.ensures.items c.hang.invariant.1)).1

pub hang-preserved : goal.hang-preserved
hang-preserved g c =
    let n = c.args.self.stale in
    let bs = c.pop.new.self.items in (
      elim c.if-len-stale.branch [
        | then-len-stale w ↦
            ap (λ b. page_chain with_first n bs (below b.value)) w.page-is
            ∙ hang_stale with_first n bs c.in-Some.page (held_of c.hang.held) c.deref_mut.result.now c.hang_first.new.self w.drop_digest.new.self c.deref_mut.ensures.value c.hang_first.ensures
            (w.drop_digest.ensures ∙ ap (λ (x : Tree g.row.K.Denot g.row.D.Denot). page_with_row 1 x (row_of_page x)) w.deref_mut-then-len-stale.ensures.value)
            (omega (arith, w.if-len-stale.true, c.len.ensures, c.pop.new.self.ok.0))
            ∙ ap (λ xs. page_chain with_first n xs (held_of c.hang.held)) (sym c.in-Some.ensures.items) ∙ c.hang.invariant.0
        | else-len-stale w ↦
            ap (λ b. page_chain with_first n bs (below b.value)) w.page-is
            ∙ hang_kept with_first n bs c.in-Some.page
            (held_of c.hang.held) c.deref_mut.result.now c.hang_first.new.self c.deref_mut.ensures.value c.hang_first.ensures
            (omega (arith, w.if-len-stale.false, c.len.ensures, c.pop.new.self.ok.0))
            ∙ ap (λ xs. page_chain with_first n xs (held_of c.hang.held)) (sym c.in-Some.ensures.items) ∙ c.hang.invariant.0
      ],
      (have-last bs c.in-Some.page (subst HaveNodes c.in-Some.ensures.items c.hang.invariant.1)).0,
    )
