use Rattle.std.proofs.Common.{◌≡◌, ◌∙◌, List, [], ◌∷◌, length, None, refl, sym, ap, subst, rules}
use Rattle.std.specs.Vec.{vec_len}
use Rattle.std.proofs.lemmas.Bool.{eqb-false}
use Rattle.store_file.specs.Logs.{trees_of}
use Rattle.store_file.specs.declared.catalog.TheConstants.{CELLS}
use Rattle.store_tree.specs.Cells.{KeyDigests}
use Rattle.store_tree.specs.Overs.{FindsOver}
use Rattle.store_tree.specs.Pages.{gap_between}
use Rattle.store_tree.specs.Rows.{bound_bytes}
use Rattle.store_tree.proofs.Outlining.{none_told, page_told_over}
use Rattle.store_tree.proofs.Overs.{none_else}
use Rattle.store_tree.proofs.outline.outline_over.Goals as goal

first_and_rest : {X : Type 0} (xs : List X) → (xs ≡ [] → ⊥) → (x : X) × (rest : List X) × (xs ≡ x ∷ rest)
first_and_rest [] some = absurd (some refl)
first_and_rest (x ∷ xs) some = (x, xs, refl)

pub returns-in_default-clause-outline : goal.returns-in_default-clause-outline
returns-in_default-clause-outline g c clean =
    let s = g.S.Store in
    let start = c.args.trees.now in
    let Holds : KeyDigests → Type 0 = g.P.Pairs.hold c.args.pairs.now (trees_of s start) in
    let gap = gap_between (bound_bytes c.args.after.now) (bound_bytes c.args.before.now) in
    let old = trees_of s start CELLS in
    let new = trees_of s c.page_over.new.trees CELLS in
    let none : c.in_ok-over.field-0 ≡ None = none_else c.in_ok-over.field-0 c.in_default.not-Some in
    none_told Holds gap old new (subst (FindsOver Holds gap old new) none (c.in_ok-over.ensures.over clean))

pub returns-clause-outline : goal.returns-clause-outline
returns-clause-outline g c clean =
    let s = g.S.Store in
    let start = c.args.trees.now in
    let Holds : KeyDigests → Type 0 = g.P.Pairs.hold c.args.pairs.now (trees_of s start) in
    let gap = gap_between (bound_bytes c.args.after.now) (bound_bytes c.args.before.now) in
    let old = trees_of s start CELLS in
    let new = trees_of s c.page_over.new.trees CELLS in
    let over = c.in-Some.over in
    let nodes = over.page.nodes in
    let some : nodes.items ≡ [] → ⊥ = λ none. eqb-false (vec_len nodes) 0 (sym c.is_empty.ensures ∙ c.if-is_empty.false) (nodes.ok.0 ∙ ap length none) in
    let (n, ns, are) = first_and_rest nodes.items some in
    page_told_over Holds gap old new over n ns c.in_ok-told.told (search rules) are c.in_ok-told.ensures
    (subst (FindsOver Holds gap old new) c.in-Some.is (c.in_ok-over.ensures.over clean))
