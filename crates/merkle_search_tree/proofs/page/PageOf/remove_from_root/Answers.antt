use Rattle.std.proofs.Common.{◌≡◌, length, arith, ap, sym, ◌∙◌}
use Rattle.std.proofs.lemmas.Bool.{eqb-true, eqb-false}
use Rattle.std.specs.Vec.{vec_len}
use Rattle.merkle_tree_theory.specs.Tree.{page, row, held_of}
use Rattle.merkle_tree_theory.specs.TreeOf.{root_of}
use Rattle.merkle_tree_theory.specs.Remove.{tree_del, tree_without}
use Rattle.merkle_tree_theory.proofs.Seams.{at_some, gives_way, way_none, way_some, without_gives}
use Rattle.merkle_search_tree.proofs.page.PageOf.remove_from_root.Goals as goal
use Rattle.merkle_search_tree.proofs.page.PageOf.remove_from_root.Goals.{then-is_empty+in-None+in-Some-1, then-is_empty+in-None+in-None-1, then-is_empty+in-Some-replace, else-is_empty}

pub returns-clause-done : goal.returns-clause-done
returns-clause-done g c =
    let cmp = g.K.Ord.cmp in
    let k = c.args.key.now in
    let b = c.self.inside in
    let h = held_of b.high_page in
    let done : c.remove.new.self ≡ tree_without cmp k c.args.self.now = at_some _ _ _ c.in-Some.entry c.in-Some.is c.in_ok-entry.ensures.done in
    let way : gives_way (page b.level b.tree_hash (row b.nodes.items h)) ≡ tree_del cmp k c.args.self.now = ap gives_way (c.self.view_is ∙ done) ∙ sym (without_gives cmp k c.args.self.now) in
    elim c.if-is_empty.branch [
      | then-is_empty+in-None+in-Some-1 w ↦
          let zero : length b.nodes.items ≡ 0 = omega (arith, eqb-true (vec_len b.nodes) 0 (sym c.is_empty.ensures ∙ w.if-is_empty.true), b.nodes.ok.0) in
          w.self-is ∙ w.drop.view_is ∙ w.empty.ensures
          ∙ ap root_of (sym (ap held_of w.in-None.is) ∙ ap held_of w.replace.ensures.value ∙ sym (way_none b.level b.tree_hash b.nodes.items h zero) ∙ way)
      | then-is_empty+in-None+in-None-1 w ↦
          let zero : length b.nodes.items ≡ 0 = omega (arith, eqb-true (vec_len b.nodes) 0 (sym c.is_empty.ensures ∙ w.if-is_empty.true), b.nodes.ok.0) in
          w.self-is ∙ w.drop.view_is ∙ w.empty.ensures
          ∙ ap root_of (sym (ap held_of w.in-None.is) ∙ ap held_of w.replace.ensures.value ∙ sym (way_none b.level b.tree_hash b.nodes.items h zero) ∙ way)
      | then-is_empty+in-Some-replace w ↦
          let zero : length b.nodes.items ≡ 0 = omega (arith, eqb-true (vec_len b.nodes) 0 (sym c.is_empty.ensures ∙ w.if-is_empty.true), b.nodes.ok.0) in
          w.self-is ∙ w.drop-in-Some-replace.view_is ∙ w.replace-in-Some-replace.ensures.value ∙ w.deref_mut.ensures.value
          ∙ ap root_of (sym (ap held_of w.in-Some-replace.is) ∙ ap held_of w.replace.ensures.value ∙ sym (way_none b.level b.tree_hash b.nodes.items h zero) ∙ way)
      | else-is_empty w ↦
          let ne = eqb-false (vec_len b.nodes) 0 (sym c.is_empty.ensures ∙ w.if-is_empty.false) in
          w.self-is ∙ sym c.self.view_is ∙ ap root_of (sym (way_some b.level b.tree_hash b.nodes.items h (λ z. ne (omega (arith, z, b.nodes.ok.0)))) ∙ way)
    ]
