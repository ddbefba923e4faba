use Rattle.std.proofs.Common.{sym, ◌∙◌, rules}
use Rattle.store_file.specs.Logs.{trees_of}
use Rattle.store_side.specs.Answered.{IsFileRoot}
use Rattle.store_rows.specs.Digests.{HoldsDigests, digest_rows}
use Rattle.store_side.proofs.Answering.{root_told}
use Rattle.store_side.proofs.Files.{search_stays, settled_clean, settled_keeps, settled_tells, tree_found}
use Rattle.store_side.proofs.filed.find_root.Goals as goal
use Rattle.store_tree.specs.Calls.{FindsInTree, IsRootDigest}

pub returns-clause-digest : goal.returns-clause-digest
returns-clause-digest g c =
    let s = g.S.Store in
    let old = c.args.trees.now in
    let call = c.root_digest-found in
    let mid = call.new.trees in
    let hash_key = c.args.digests.now in
    settled_tells s g.met.S.Store.broken_if_shut old mid call.ensures.uncommitted c.settle.new.trees c.settle.result call.result c.settle.ensures.same c.settle.ensures.kept
    (λ clean. sym (c.is_broken.ensures clean) ∙ (search rules)) hash_key (FindsInTree (HoldsDigests hash_key) IsRootDigest (trees_of s old) (trees_of s mid))
    (IsFileRoot hash_key) call.ensures.root
    (λ digest finds rows has. root_told hash_key (digest_rows hash_key rows) digest (tree_found hash_key rows IsRootDigest (trees_of s old) (trees_of s mid) digest finds has))

pub returns-clause-kept : goal.returns-clause-kept
returns-clause-kept g c rows was =
    let s = g.S.Store in
    let old = c.args.trees.now in
    let call = c.root_digest-found in
    let mid = call.new.trees in
    settled_keeps s g.met.S.Store.broken_if_shut old mid call.ensures.uncommitted c.settle.new.trees c.settle.result call.result c.settle.ensures.same c.settle.ensures.kept
    c.settle.ensures.undone c.settle.ensures.quiet (λ clean. sym (c.is_broken.ensures clean) ∙ (search rules)) c.args.digests.now rows
    (search_stays s old mid call.result c.args.digests.now IsRootDigest call.ensures.root call.ensures.others rows) was

pub returns-clause-steady : goal.returns-clause-steady
returns-clause-steady g c clean =
    let call = c.root_digest-found in
    settled_clean g.S.Store g.met.S.Store.broken_if_shut c.args.trees.now call.new.trees call.ensures.uncommitted c.settle.new.trees c.settle.result c.settle.ensures.kept
    c.settle.ensures.quiet clean
