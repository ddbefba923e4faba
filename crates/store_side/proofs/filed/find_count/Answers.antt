use Rattle.std.proofs.Common.{◌≡◌, ◌∙◌, length, sym, rules}
use Rattle.store_file.specs.Logs.{trees_of}
use Rattle.store_rows.specs.Digests.{HoldsDigests}
use Rattle.store_side.proofs.Files.{count_stays, rows_counted, settled_clean, settled_keeps, settled_tells}
use Rattle.store_side.proofs.filed.find_count.Goals as goal
use Rattle.store_tree.specs.Calls.{CountsKeys}

pub returns-clause-count : goal.returns-clause-count
returns-clause-count g c =
    let s = g.S.Store in
    let old = c.args.trees.now in
    let call = c.count_keys-found in
    let mid = call.new.trees in
    let hash_key = c.args.digests.now in
    settled_tells s g.met.S.Store.broken_if_shut old mid call.ensures.uncommitted c.settle.new.trees c.settle.result call.result c.settle.ensures.same c.settle.ensures.kept
    (λ clean. sym (c.is_broken.ensures clean) ∙ (search rules)) hash_key (CountsKeys (HoldsDigests hash_key) (trees_of s old) (trees_of s mid)) (λ rows count. count ≡ length rows)
    call.ensures.count (λ count counts rows has. rows_counted hash_key rows (trees_of s old) (trees_of s mid) count counts has)

pub returns-clause-kept : goal.returns-clause-kept
returns-clause-kept g c rows was =
    let s = g.S.Store in
    let old = c.args.trees.now in
    let call = c.count_keys-found in
    let mid = call.new.trees in
    settled_keeps s g.met.S.Store.broken_if_shut old mid call.ensures.uncommitted c.settle.new.trees c.settle.result call.result c.settle.ensures.same c.settle.ensures.kept
    c.settle.ensures.undone c.settle.ensures.quiet (λ clean. sym (c.is_broken.ensures clean) ∙ (search rules)) c.args.digests.now rows
    (count_stays s old mid call.result c.args.digests.now call.ensures.count call.ensures.others rows) was

pub returns-clause-steady : goal.returns-clause-steady
returns-clause-steady g c clean =
    let call = c.count_keys-found in
    settled_clean g.S.Store g.met.S.Store.broken_if_shut c.args.trees.now call.new.trees call.ensures.uncommitted c.settle.new.trees c.settle.result c.settle.ensures.kept
    c.settle.ensures.quiet clean
