use Rattle.std.proofs.Common.{take, ap, sym, ◌∙◌, ◌++◌}
use Rattle.std.proofs.lemmas.List.{map-append, take_all}
use Rattle.std.specs.List.{flat_map}
use Rattle.merkle_tree_theory.specs.Outline.{outline_over}
use Rattle.merkle_search_tree.specs.Items.{lent_gap, item, items}
use Rattle.merkle_replica.specs.Descent.{gaps_of}
use Rattle.merkle_replica.proofs.Descents.{flat_step}
use Rattle.merkle_replica.proofs.replica.Replica.outlines.Goals as goal

pub gaps-init : goal.gaps-init
gaps-init g c = ap items c.new-all.ensures.items

pub gaps-preserved : goal.gaps-preserved
gaps-preserved g c =
    let tree = c.args.self.now.tree in
    let outline = outline_over tree.format g.K.KeyBytes.bytes_of g.K.Ord.cmp tree.root in
    let one = (rw c.tree.ensures.tree at (rw c.in-Some.is at c.in_ok-outline.ensures.items)).1 ∙ ap outline c.copied.ensures in
    ap items c.in_ok-append-in-Some.ensures.items ∙ map-append item c.gaps.all.items c.in-Some.outline.items
    ∙ ap (λ es. es ++ items c.in-Some.outline.items) c.gaps.invariant ∙ ap (λ es. flat_map outline (gaps_of (take c.gaps.gap-index c.args.gaps.now)) ++ es) one
    ∙ sym (flat_step lent_gap outline c.args.gaps.now c.gaps.gap-index c.gap-item.result c.gaps-test.true c.gap-item.is)

pub returns : goal.returns
returns g c =
    let tree = c.args.self.now.tree in
    c.gaps.invariant ∙ ap (λ gs. flat_map (outline_over tree.format g.K.KeyBytes.bytes_of g.K.Ord.cmp tree.root) (gaps_of gs)) (take_all c.gaps.gap-index c.args.gaps.now c.gaps-test.false)
