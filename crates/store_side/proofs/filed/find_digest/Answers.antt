use Rattle.std.proofs.Common.{◌≡◌, sym, ◌∙◌, rules}
use Rattle.key_order.specs.Map.{get}
use Rattle.key_order.specs.Text.{text_order}
use Rattle.store_file.specs.Logs.{trees_of}
use Rattle.store_side.specs.Asked.{IsDigestOf}
use Rattle.store_rows.specs.Digests.{TextRows, digest_rows}
use Rattle.store_side.proofs.Files.{reads_stay, settled_clean, settled_keeps, settled_tells}
use Rattle.store_rows.proofs.Holding.{latest_digests}
use Rattle.store_side.proofs.filed.find_digest.Goals as goal

pub returns-clause-digest : goal.returns-clause-digest
returns-clause-digest g c =
    let s = g.S.Store in
    let old = c.args.trees.now in
    let mid = c.digest_of-found.new.trees in
    settled_tells s g.met.S.Store.broken_if_shut old mid c.digest_of-found.ensures.uncommitted c.settle.new.trees c.settle.result c.digest_of-found.result c.settle.ensures.same c.settle.ensures.kept
    (λ clean. sym (c.is_broken.ensures clean) ∙ (search rules)) c.args.digests.now (IsDigestOf c.args.digests.now (trees_of s old) c.args.key.now)
    (λ (rows : TextRows) found. found ≡ get text_order (digest_rows c.args.digests.now rows) c.args.key.now) c.digest_of-found.ensures.digest
    (λ found told rows has. told (digest_rows c.args.digests.now rows) (latest_digests c.args.digests.now (trees_of s old) rows has.latest))

pub returns-clause-kept : goal.returns-clause-kept
returns-clause-kept g c rows was =
    let s = g.S.Store in
    let old = c.args.trees.now in
    let mid = c.digest_of-found.new.trees in
    settled_keeps s g.met.S.Store.broken_if_shut old mid c.digest_of-found.ensures.uncommitted c.settle.new.trees c.settle.result c.digest_of-found.result c.settle.ensures.same c.settle.ensures.kept
    c.settle.ensures.undone c.settle.ensures.quiet (λ clean. sym (c.is_broken.ensures clean) ∙ (search rules)) c.args.digests.now rows
    (reads_stay s old mid c.digest_of-found.result c.digest_of-found.ensures.same c.args.digests.now rows) was

pub returns-clause-steady : goal.returns-clause-steady
returns-clause-steady g c clean =
    settled_clean g.S.Store g.met.S.Store.broken_if_shut c.args.trees.now c.digest_of-found.new.trees c.digest_of-found.ensures.uncommitted c.settle.new.trees c.settle.result c.settle.ensures.kept
    c.settle.ensures.quiet clean
