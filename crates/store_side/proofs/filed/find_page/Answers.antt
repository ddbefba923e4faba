use Rattle.std.proofs.Common.{sym, ◌∙◌, rules}
use Rattle.store_file.specs.Logs.{trees_of}
use Rattle.store_rows.specs.Digests.{HoldsDigests}
use Rattle.store_side.specs.FileTrees.{SaysFilePage}
use Rattle.store_side.proofs.Files.{search_stays, settled_clean, settled_keeps, settled_tells, tree_found}
use Rattle.store_rows.proofs.Holding.{digests_ascend}
use Rattle.store_side.proofs.filed.find_page.Goals as goal
use Rattle.store_tree.specs.Calls.{FindsInTree, SaysPage}
use Rattle.store_tree.specs.Pages.{text_gap}

pub returns-clause-page : goal.returns-clause-page
returns-clause-page g c =
    let s = g.S.Store in
    let old = c.args.trees.now in
    let mid = c.is_page-found.new.trees in
    let gap = text_gap c.args.after.now c.args.before.now in
    let hash_key = c.args.digests.now in
    settled_tells s g.met.S.Store.broken_if_shut old mid c.is_page-found.ensures.uncommitted c.settle.new.trees c.settle.result c.is_page-found.result c.settle.ensures.same c.settle.ensures.kept
    (λ clean. sym (c.is_broken.ensures clean) ∙ (search rules)) hash_key (FindsInTree (HoldsDigests hash_key) (SaysPage gap c.args.digest.now) (trees_of s old) (trees_of s mid))
    (SaysFilePage hash_key gap c.args.digest.now) c.is_page-found.ensures.page
    (λ is finds rows has. (digests_ascend hash_key rows has.latest.ascending, tree_found hash_key rows (SaysPage gap c.args.digest.now) (trees_of s old) (trees_of s mid) is finds has))

pub returns-clause-kept : goal.returns-clause-kept
returns-clause-kept g c rows was =
    let s = g.S.Store in
    let old = c.args.trees.now in
    let mid = c.is_page-found.new.trees in
    settled_keeps s g.met.S.Store.broken_if_shut old mid c.is_page-found.ensures.uncommitted c.settle.new.trees c.settle.result c.is_page-found.result c.settle.ensures.same c.settle.ensures.kept
    c.settle.ensures.undone c.settle.ensures.quiet (λ clean. sym (c.is_broken.ensures clean) ∙ (search rules)) c.args.digests.now rows
    (search_stays s old mid c.is_page-found.result c.args.digests.now (SaysPage (text_gap c.args.after.now c.args.before.now) c.args.digest.now) c.is_page-found.ensures.page
    c.is_page-found.ensures.others rows) was

pub returns-clause-steady : goal.returns-clause-steady
returns-clause-steady g c clean =
    settled_clean g.S.Store g.met.S.Store.broken_if_shut c.args.trees.now c.is_page-found.new.trees c.is_page-found.ensures.uncommitted c.settle.new.trees c.settle.result c.settle.ensures.kept
    c.settle.ensures.quiet clean
