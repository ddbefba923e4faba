use Rattle.std.proofs.Common.{sym, ◌∙◌, rules}
use Rattle.store_file.specs.Logs.{trees_of}
use Rattle.store_side.specs.Answered.{IsFileOutline}
use Rattle.store_rows.specs.Digests.{HoldsDigests}
use Rattle.store_side.proofs.Files.{search_stays, settled_clean, settled_keeps, settled_tells, tree_found}
use Rattle.store_side.proofs.filed.find_outline.Goals as goal
use Rattle.store_tree.specs.Calls.{FindsInTree}
use Rattle.store_tree.specs.Outlines.{IsOutlineAt}
use Rattle.store_tree.specs.Pages.{text_gap}

pub returns-clause-outline : goal.returns-clause-outline
returns-clause-outline g c =
    let s = g.S.Store in
    let old = c.args.trees.now in
    let call = c.outline_over-found in
    let mid = call.new.trees in
    let gap = text_gap c.args.after.now c.args.before.now in
    let hash_key = c.args.digests.now in
    settled_tells s g.met.S.Store.broken_if_shut old mid call.ensures.uncommitted c.settle.new.trees c.settle.result call.result c.settle.ensures.same c.settle.ensures.kept
    (λ clean. sym (c.is_broken.ensures clean) ∙ (search rules)) hash_key (FindsInTree (HoldsDigests hash_key) (IsOutlineAt gap) (trees_of s old) (trees_of s mid))
    (IsFileOutline hash_key gap) call.ensures.outline
    (λ found finds rows has. tree_found hash_key rows (IsOutlineAt gap) (trees_of s old) (trees_of s mid) found finds has)

pub returns-clause-kept : goal.returns-clause-kept
returns-clause-kept g c rows was =
    let s = g.S.Store in
    let old = c.args.trees.now in
    let call = c.outline_over-found in
    let mid = call.new.trees in
    let gap = text_gap c.args.after.now c.args.before.now in
    settled_keeps s g.met.S.Store.broken_if_shut old mid call.ensures.uncommitted c.settle.new.trees c.settle.result call.result c.settle.ensures.same c.settle.ensures.kept
    c.settle.ensures.undone c.settle.ensures.quiet (λ clean. sym (c.is_broken.ensures clean) ∙ (search rules)) c.args.digests.now rows
    (search_stays s old mid call.result c.args.digests.now (IsOutlineAt gap) call.ensures.outline
    call.ensures.others rows) was

pub returns-clause-steady : goal.returns-clause-steady
returns-clause-steady g c clean =
    let call = c.outline_over-found in
    settled_clean g.S.Store g.met.S.Store.broken_if_shut c.args.trees.now call.new.trees call.ensures.uncommitted c.settle.new.trees c.settle.result c.settle.ensures.kept
    c.settle.ensures.quiet clean
