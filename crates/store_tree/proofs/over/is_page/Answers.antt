use Rattle.std.proofs.Common.{◌≡◌, ◌∙◌, None, sym, subst, rules}
use Rattle.store_file.specs.Logs.{trees_of}
use Rattle.store_file.specs.declared.catalog.TheConstants.{CELLS}
use Rattle.store_tree.specs.Cells.{KeyDigests}
use Rattle.store_tree.specs.Overs.{FindsOver}
use Rattle.store_tree.specs.Pages.{gap_between, known_of}
use Rattle.store_tree.specs.Rows.{bound_bytes}
use Rattle.store_tree.specs.declared.cell.Known.TheVariants.{Page as ThePage}
use Rattle.store_tree.proofs.Overs.{none_else, no_page, page_is, page_isn't}
use Rattle.store_tree.proofs.over.is_page.Goals as goal

pub returns-in_default-clause-page : goal.returns-in_default-clause-page
returns-in_default-clause-page g c clean =
    let s = g.S.Store in
    let start = c.args.trees.now in
    let new = c.page_over.new.trees in
    let Holds : KeyDigests → Type 0 = g.P.Pairs.hold c.args.pairs.now (trees_of s start) in
    let gap = gap_between (bound_bytes c.args.after.now) (bound_bytes c.args.before.now) in
    let none : c.in_ok-over.field-0 ≡ None = none_else c.in_ok-over.field-0 c.in_default.not-Some in
    no_page Holds gap (trees_of s start CELLS) (trees_of s new CELLS) c.args.digest.now
    (subst (FindsOver Holds gap (trees_of s start CELLS) (trees_of s new CELLS)) none (c.in_ok-over.ensures.over clean))

pub returns-in_default-known : goal.returns-in_default-known
returns-in_default-known g c =
    let s = g.S.Store in
    let start = c.args.trees.now in
    let new = c.page_over.new.trees in
    let Holds : KeyDigests → Type 0 = g.P.Pairs.hold c.args.pairs.now (trees_of s start) in
    let gap = gap_between (bound_bytes c.args.after.now) (bound_bytes c.args.before.now) in
    let over = c.in-Some.over in
    record {
      page = λ clean. page_isn't Holds gap (trees_of s start CELLS) (trees_of s new CELLS) c.args.digest.now over c.in_ok-known.known (search rules) (sym c.in_ok-known.ensures)
          (λ e n is. c.in_default-known.not-Page e n is)
          (subst (FindsOver Holds gap (trees_of s start CELLS) (trees_of s new CELLS)) c.in-Some.is (c.in_ok-over.ensures.over clean));
      others = c.in_ok-over.ensures.others;
      uncommitted = c.page_over.ensures.uncommitted;
    }

pub returns-clause-page : goal.returns-clause-page
returns-clause-page g c clean =
    let s = g.S.Store in
    let start = c.args.trees.now in
    let new = c.page_over.new.trees in
    let Holds : KeyDigests → Type 0 = g.P.Pairs.hold c.args.pairs.now (trees_of s start) in
    let gap = gap_between (bound_bytes c.args.after.now) (bound_bytes c.args.before.now) in
    let over = c.in-Some.over in
    let known : known_of over.level over.page ≡ ThePage c.in-Page.found c.in-Page.count = sym c.in_ok-known.ensures ∙ c.in-Page.is in
    page_is Holds gap (trees_of s start CELLS) (trees_of s new CELLS) c.args.digest.now over c.in-Page.found c.in-Page.count c.eq.result (search rules) known (λ e. search rules) (λ e. search rules)
    (subst (FindsOver Holds gap (trees_of s start CELLS) (trees_of s new CELLS)) c.in-Some.is (c.in_ok-over.ensures.over clean))
