use Rattle.std.proofs.Common.{◌≡◌, suc, ap, subst, refl, arith, rules}
use Rattle.sqlite_trees.specs.Tree.{Trees}
use Rattle.store_file.specs.Logs.{IsClean, trees_of}
use Rattle.store_file.specs.declared.catalog.TheConstants.{CELLS}
use Rattle.store_file.proofs.Walking.{uncommitted_then}
use Rattle.store_tree.specs.Cells.{KeyDigests}
use Rattle.store_tree.specs.Filling.{FillsPage}
use Rattle.store_tree.specs.Overs.{FindsLeaf}
use Rattle.store_tree.specs.Pages.{gap_between}
use Rattle.store_tree.specs.Rows.{bound_bytes}
use Rattle.store_tree.specs.declared.over.PageOver.{PageOver}
use Rattle.store_tree.proofs.Overs.{over_above, over_leaf, over_none}
use Rattle.store_tree.proofs.over.page_over.Goals as goal

pub returns-then-place-eq0-clause-over : goal.returns-then-place-eq0-clause-over
returns-then-place-eq0-clause-over g c clean =
    let s = g.S.Store in
    let start = c.args.trees.now in
    over_none (g.P.Pairs.hold c.args.pairs.now (trees_of s start)) (gap_between (bound_bytes c.args.after.now) (bound_bytes c.args.before.now)) (trees_of s start CELLS)
    (trees_of s c.place_over.new.trees CELLS) c.in_ok-place.place
    (c.in_ok-place.ensures.found clean) (search rules) (ap (λ v. v.trees CELLS) (c.in_ok-place.ensures.same clean))

pub returns-then-place-eq1-clause-over : goal.returns-then-place-eq1-clause-over
returns-then-place-eq1-clause-over g c clean =
    let s = g.S.Store in
    let start = c.args.trees.now in
    let mid = c.place_over.new.trees in
    let new = c.leaf_over.new.trees in
    let pairs = c.args.pairs.now in
    let Holds : KeyDigests → Type 0 = g.P.Pairs.hold pairs (trees_of s start) in
    let gap = gap_between (bound_bytes c.args.after.now) (bound_bytes c.args.before.now) in
    let place = c.in_ok-place.place in
    let later : IsClean s mid = omega (arith, c.leaf_over.ensures.uncommitted.quiet.clean, clean) in
    let same : trees_of s mid ≡ trees_of s start = ap (λ v. v.trees) (c.in_ok-place.ensures.same later) in
    let leaf : FindsLeaf Holds gap (trees_of s start CELLS) (trees_of s new CELLS) place c.in_ok-leaf.leaf =
    subst (λ (trees : Trees). FindsLeaf (g.P.Pairs.hold pairs trees) gap (trees CELLS) (trees_of s new CELLS) place c.in_ok-leaf.leaf) same (c.in_ok-leaf.ensures.found clean) in
    over_leaf Holds gap (trees_of s start CELLS) (trees_of s new CELLS) place c.in_ok-leaf.leaf (c.in_ok-place.ensures.found later) (search rules) leaf

pub returns-then-place-eq1-clause-uncommitted : goal.returns-then-place-eq1-clause-uncommitted
returns-then-place-eq1-clause-uncommitted g c =
    uncommitted_then g.S.Store c.args.trees.now c.place_over.new.trees c.leaf_over.new.trees c.place_over.ensures.uncommitted c.leaf_over.ensures.uncommitted

pub returns-clause-over : goal.returns-clause-over
returns-clause-over g c clean =
    let s = g.S.Store in
    let start = c.args.trees.now in
    let mid = c.place_over.new.trees in
    let new = c.page_below.new.trees in
    let pairs = c.args.pairs.now in
    let Holds : KeyDigests → Type 0 = g.P.Pairs.hold pairs (trees_of s start) in
    let gap = gap_between (bound_bytes c.args.after.now) (bound_bytes c.args.before.now) in
    let place = c.in_ok-place.place in
    let level = c.in-Ok.level in
    let page = c.in_ok-page.page in
    let later : IsClean s mid = omega (arith, c.page_below.ensures.uncommitted.quiet.clean, clean) in
    let same : trees_of s mid ≡ trees_of s start = ap (λ v. v.trees) (c.in_ok-place.ensures.same later) in
    let over : PageOver = record { level = level; place = place; page = page } in
    let fills : FillsPage Holds (trees_of s start CELLS) (trees_of s new CELLS) level (bound_bytes place.front) (bound_bytes place.before) page =
    subst (λ (trees : Trees). FillsPage (g.P.Pairs.hold pairs trees) (trees CELLS) (trees_of s new CELLS) level (bound_bytes place.front) (bound_bytes place.before) page) same
    (c.in_ok-page.ensures.filled clean) in
    let at : place.level ≡ suc level = search rules in
    over_above Holds gap (trees_of s start CELLS) (trees_of s new CELLS) place level over (c.in_ok-place.ensures.found later) at (search rules) refl refl fills
