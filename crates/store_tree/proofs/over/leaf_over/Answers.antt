use Rattle.std.proofs.Common.{◌≡◌, ◌∙◌, sym, ap, refl, true, false, rules}
use Rattle.store_file.specs.Logs.{trees_of}
use Rattle.store_file.specs.declared.catalog.TheConstants.{CELLS}
use Rattle.store_tree.specs.Cells.{KeyDigests}
use Rattle.store_tree.specs.Overs.{is_first_in}
use Rattle.store_tree.specs.Pages.{gap_between}
use Rattle.store_tree.specs.Rows.{bound_bytes}
use Rattle.store_tree.specs.declared.over.PageOver.{PageOver}
use Rattle.store_tree.proofs.Overs.{leaf_none, leaf_some}
use Rattle.store_tree.proofs.over.leaf_over.Goals as goal

pub returns-then-not-is_first_in-clause-found : goal.returns-then-not-is_first_in-clause-found
returns-then-not-is_first_in-clause-found g c clean =
    let s = g.S.Store in
    let start = c.args.trees.now in
    let Holds : KeyDigests → Type 0 = g.P.Pairs.hold c.args.pairs.now (trees_of s start) in
    let gap = gap_between (bound_bytes c.args.after.now) (bound_bytes c.args.before.now) in
    let found = c.in_ok-found.found in
    let not_first : is_first_in gap found.items ≡ false = ap (is_first_in gap) (sym c.deref.ensures.value) ∙ sym c.is_first_in.ensures ∙ search rules in
    leaf_none Holds gap (trees_of s start CELLS) (trees_of s c.within.new.trees CELLS) c.args.place found (ap (λ v. v.trees CELLS) (c.in_ok-found.ensures.same clean))
    (c.in_ok-found.ensures.pairs clean) not_first

pub returns-clause-found : goal.returns-clause-found
returns-clause-found g c clean =
    let s = g.S.Store in
    let start = c.args.trees.now in
    let Holds : KeyDigests → Type 0 = g.P.Pairs.hold c.args.pairs.now (trees_of s start) in
    let gap = gap_between (bound_bytes c.args.after.now) (bound_bytes c.args.before.now) in
    let found = c.in_ok-found.found in
    let first : is_first_in gap found.items ≡ true = ap (is_first_in gap) (sym c.deref.ensures.value) ∙ sym c.is_first_in.ensures ∙ search rules in
    let over : PageOver = record { level = 0; place = c.args.place; page = c.in_ok-page.page } in
    leaf_some Holds gap (trees_of s start CELLS) (trees_of s c.within.new.trees CELLS) c.args.place found (ap (λ v. v.trees CELLS) (c.in_ok-found.ensures.same clean))
    (c.in_ok-found.ensures.pairs clean) over first refl refl
    c.in_ok-page.ensures
