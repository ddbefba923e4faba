use Rattle.std.proofs.Common.{sym, ◌∙◌, rules}
use Rattle.store_file.specs.Logs.{trees_of}
use Rattle.store_file.specs.Ranges.{HasVisited}
use Rattle.store_side.specs.Answered.{HasVisitedRows}
use Rattle.store_side.proofs.Answering.{visited_rows}
use Rattle.store_side.proofs.Files.{reads_stay, settled_clean, settled_keeps, settled_tells}
use Rattle.store_side.proofs.filed.visit_rows.Goals as goal

pub returns-clause-rows : goal.returns-clause-rows
returns-clause-rows g c =
    let s = g.S.Store in
    let old = c.args.trees.now in
    let call = c.visit_rows_of-whole in
    let mid = call.new.trees in
    let hash_key = c.args._digests.now in
    let took = g.T.RowVisitor.took in
    settled_tells s g.met.S.Store.broken_if_shut old mid call.ensures.uncommitted c.settle.new.trees c.settle.result call.result c.settle.ensures.same c.settle.ensures.kept
    (λ clean. sym (c.is_broken.ensures clean) ∙ (search rules)) hash_key (HasVisited took c.args.visitor.now call.new.visitor c.args.after.now c.args.before.now (trees_of s old))
    (HasVisitedRows took c.args.visitor.now call.new.visitor c.args.after.now c.args.before.now) call.ensures.visited
    (λ whole visited rows has. visited_rows took c.args.visitor.now call.new.visitor c.args.after.now c.args.before.now (trees_of s old) rows whole has.latest visited)

pub returns-clause-kept : goal.returns-clause-kept
returns-clause-kept g c rows was =
    let s = g.S.Store in
    let old = c.args.trees.now in
    let call = c.visit_rows_of-whole in
    let mid = call.new.trees in
    settled_keeps s g.met.S.Store.broken_if_shut old mid call.ensures.uncommitted c.settle.new.trees c.settle.result call.result c.settle.ensures.same c.settle.ensures.kept
    c.settle.ensures.undone c.settle.ensures.quiet (λ clean. sym (c.is_broken.ensures clean) ∙ (search rules)) c.args._digests.now rows
    (reads_stay s old mid call.result call.ensures.same c.args._digests.now rows) was

pub returns-clause-steady : goal.returns-clause-steady
returns-clause-steady g c clean =
    let call = c.visit_rows_of-whole in
    settled_clean g.S.Store g.met.S.Store.broken_if_shut c.args.trees.now call.new.trees call.ensures.uncommitted c.settle.new.trees c.settle.result c.settle.ensures.kept
    c.settle.ensures.quiet clean
