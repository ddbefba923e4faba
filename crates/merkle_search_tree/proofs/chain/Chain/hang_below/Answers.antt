use Rattle.std.proofs.Common.{ap, sym, ◌∙◌, arith}
use Rattle.merkle_tree_theory.specs.Tree.{Tree, below, held_of}
use Rattle.merkle_tree_theory.specs.Chain.{with_high, page_chain, page_with_row, row_of_page}
use Rattle.merkle_tree_theory.proofs.PageChains.{hang_stale, hang_kept}
use Rattle.merkle_search_tree.proofs.chain.Chain.hang_below.Goals as goal
use Rattle.merkle_search_tree.proofs.chain.Chain.hang_below.Goals.{then-len-stale, else-len-stale}

pub hang-preserved : goal.hang-preserved
hang-preserved g c =
    let n = c.args.self.stale in
    let bs = c.pop.new.self.items in
    elim c.if-len-stale.branch [
      | then-len-stale w ↦
          ap (λ b. page_chain with_high n bs (below b.value)) w.page-is
          ∙ hang_stale with_high n bs c.in-Some.page (held_of c.hang.held) c.deref_mut.result.now c.hang_high.new.self w.drop_digest.new.self c.deref_mut.ensures.value c.hang_high.ensures
          (w.drop_digest.ensures ∙ ap (λ (x : Tree g.row.K.Denot g.row.D.Denot). page_with_row 1 x (row_of_page x)) w.deref_mut-then-len-stale.ensures.value)
          (omega (arith, w.if-len-stale.true, c.len.ensures, c.pop.new.self.ok.0))
          ∙ ap (λ xs. page_chain with_high n xs (held_of c.hang.held)) (sym c.in-Some.ensures.items) ∙ c.hang.invariant
      | else-len-stale w ↦
          ap (λ b. page_chain with_high n bs (below b.value)) w.page-is
          ∙ hang_kept with_high n bs c.in-Some.page
          (held_of c.hang.held) c.deref_mut.result.now c.hang_high.new.self c.deref_mut.ensures.value c.hang_high.ensures
          (omega (arith, w.if-len-stale.false, c.len.ensures, c.pop.new.self.ok.0))
          ∙ ap (λ xs. page_chain with_high n xs (held_of c.hang.held)) (sym c.in-Some.ensures.items) ∙ c.hang.invariant
    ]
