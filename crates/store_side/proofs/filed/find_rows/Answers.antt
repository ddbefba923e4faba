use Rattle.std.proofs.Common.{sym, ◌∙◌, rules}
use Rattle.store_file.specs.Logs.{trees_of}
use Rattle.store_file.specs.Ranges.{AreLatestBetween}
use Rattle.store_side.specs.Answered.{AreRowsBetween}
use Rattle.store_side.proofs.Answering.{rows_between}
use Rattle.store_side.proofs.Files.{reads_stay, settled_clean, settled_keeps, settled_tells}
use Rattle.store_side.proofs.filed.find_rows.Goals as goal

pub returns-clause-rows : goal.returns-clause-rows
returns-clause-rows g c =
    let s = g.S.Store in
    let old = c.args.trees.now in
    let mid = c.rows_of-found.new.trees in
    let hash_key = c.args._digests.now in
    settled_tells s g.met.S.Store.broken_if_shut old mid c.rows_of-found.ensures.uncommitted c.settle.new.trees c.settle.result c.rows_of-found.result c.settle.ensures.same c.settle.ensures.kept
    (λ clean. sym (c.is_broken.ensures clean) ∙ (search rules)) hash_key (λ found. AreLatestBetween c.args.after.now c.args.before.now (trees_of s old) found.items)
    (λ rows found. AreRowsBetween c.args.after.now c.args.before.now rows found.items) c.rows_of-found.ensures.latest
    (λ found latest rows has. rows_between c.args.after.now c.args.before.now (trees_of s old) rows found.items has.latest latest)

pub returns-clause-kept : goal.returns-clause-kept
returns-clause-kept g c rows was =
    let s = g.S.Store in
    let old = c.args.trees.now in
    let mid = c.rows_of-found.new.trees in
    settled_keeps s g.met.S.Store.broken_if_shut old mid c.rows_of-found.ensures.uncommitted c.settle.new.trees c.settle.result c.rows_of-found.result c.settle.ensures.same c.settle.ensures.kept
    c.settle.ensures.undone c.settle.ensures.quiet (λ clean. sym (c.is_broken.ensures clean) ∙ (search rules)) c.args._digests.now rows
    (reads_stay s old mid c.rows_of-found.result c.rows_of-found.ensures.same c.args._digests.now rows) was

pub returns-clause-steady : goal.returns-clause-steady
returns-clause-steady g c clean =
    settled_clean g.S.Store g.met.S.Store.broken_if_shut c.args.trees.now c.rows_of-found.new.trees c.rows_of-found.ensures.uncommitted c.settle.new.trees c.settle.result c.settle.ensures.kept
    c.settle.ensures.quiet clean
