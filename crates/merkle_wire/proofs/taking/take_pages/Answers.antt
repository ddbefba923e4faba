use Rattle.std.proofs.Common.{◌++◌, ◌∷◌, [], take, Some, refl, ap, sym, subst, ◌∙◌}
use Rattle.std.proofs.lemmas.List.{take_all, take_more}
use Rattle.merkle_search_tree.specs.Items.{bound_of}
use Rattle.merkle_wire.specs.Gaps.{owned_gap}
use Rattle.merkle_wire.specs.ItsRows.{ForRowsOf, side_of}
use Rattle.merkle_wire.proofs.NewGaps.{AreGapsSoFar, gaps_none, gaps_more_of, gaps_end}
use Rattle.merkle_wire.proofs.taking.take_pages.Goals as goal
use Rattle.merkle_wire.specs.Steps.{AddsGaps}
use Rattle.merkle_wire.specs.Taking.{IsNewGap}

pub nodes-init : goal.nodes-init
nodes-init g c =
    let laws = g.H.RowHasher.laws in
    let gap = owned_gap c.args.gap.now in
    record {
      steady = λ sound. sound;
      kept = λ _. refl;
      so = λ _ rows of. let local = side_of (g.T.KeptTree.kept c.args.tree.now).digests rows in
          subst (λ b. AreGapsSoFar laws local gap b [] c.args.work.now c.args.work.now) (sym c.as_ref-after.ensures.value) (gaps_none laws local gap c.args.work.now);
    }

pub nodes-preserved : goal.nodes-preserved
nodes-preserved g c =
    let laws = g.H.RowHasher.laws in
    let gap = owned_gap c.args.gap.now in
    let kept = c.nodes.invariant in
    let below = c.args.below.now in
    let i = c.nodes.node-index in
    let node = c.node-item.result in
    let before = c.take_below.ensures.steady in
    record {
      steady = λ sound. kept.steady (before sound);
      kept = λ sound. c.take_below.ensures.kept sound ∙ kept.kept (before sound);
      so = λ sound rows of.
          let added = subst (λ t. ForRowsOf laws t.digests
          (λ local. AddsGaps (IsNewGap laws local (record { after = bound_of c.nodes.after; before = Some node.1.key }) node.0) c.nodes.work c.take_below.new.work))
          (kept.kept (before sound)) (c.in_ok-take_below.ensures.added sound) in
          let local = side_of (g.T.KeptTree.kept c.args.tree.now).digests rows in
          subst (λ bs. AreGapsSoFar laws local gap (Some node.1.key) bs c.args.work.now c.take_below.new.work)
          (sym (take_more below i node c.nodes-test.true ∙ ap (λ z. take i below ++ z ∷ []) (sym c.node-item.is)))
          (gaps_more_of laws local gap (bound_of c.nodes.after) (take i below) node c.args.work.now c.nodes.work c.take_below.new.work (kept.so (before sound) rows of) (added rows of));
    }

pub returns-clause-added : goal.returns-clause-added
returns-clause-added g c = λ sound rows of.
    let before = c.take_below-2.ensures.steady sound in
    let laws = g.H.RowHasher.laws in
    let gap = owned_gap c.args.gap.now in
    let local = side_of (g.T.KeptTree.kept c.args.tree.now).digests rows in
    let below = c.args.below.now in
    let last = c.args.last.now in
    let added = subst (λ t. ForRowsOf laws t.digests
    (λ local. AddsGaps (IsNewGap laws local (record { after = bound_of c.nodes.after; before = c.args.gap.now.before }) last) c.nodes.work c.take_below-2.new.work)) (c.nodes.invariant.kept before)
    (rw c.as_ref.ensures.value at (c.in_ok-take_below-2.ensures.added sound)) in
    gaps_end laws local gap (bound_of c.nodes.after) below last c.args.work.now c.nodes.work c.take_below-2.new.work
    (subst (λ bs. AreGapsSoFar laws local gap (bound_of c.nodes.after) bs c.args.work.now c.nodes.work) (take_all c.nodes.node-index below c.nodes-test.false)
    (c.nodes.invariant.so before rows of)) (added rows of)
