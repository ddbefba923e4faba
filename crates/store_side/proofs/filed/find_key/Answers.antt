use Rattle.std.proofs.Common.{ℕ, List, sym, ◌∙◌, rules}
use Rattle.key_order.specs.Text.{text_order}
use Rattle.merkle_bytes.specs.Options.{IsOption}
use Rattle.merkle_wire.specs.Sessions.{IsKeyOf}
use Rattle.store_file.specs.Logs.{trees_of}
use Rattle.store_side.specs.Asked.{IsSomeKey}
use Rattle.store_rows.specs.Digests.{TextRows, digest_rows}
use Rattle.store_side.proofs.Files.{reads_stay, settled_clean, settled_keeps, settled_tells}
use Rattle.store_rows.proofs.Holding.{latest_digests}
use Rattle.store_side.proofs.filed.find_key.Goals as goal

pub returns-clause-key : goal.returns-clause-key
returns-clause-key g c =
    let s = g.S.Store in
    let old = c.args.trees.now in
    let mid = c.some_key-found.new.trees in
    settled_tells s g.met.S.Store.broken_if_shut old mid c.some_key-found.ensures.uncommitted c.settle.new.trees c.settle.result c.some_key-found.result c.settle.ensures.same c.settle.ensures.kept
    (λ clean. sym (c.is_broken.ensures clean) ∙ (search rules)) c.args._digests.now (λ found. (hash_key : List ℕ) → IsSomeKey hash_key (trees_of s old) found)
    (λ (rows : TextRows). IsOption (IsKeyOf text_order (digest_rows c.args._digests.now rows))) c.some_key-found.ensures.key
    (λ found told rows has. told c.args._digests.now (digest_rows c.args._digests.now rows) (latest_digests c.args._digests.now (trees_of s old) rows has.latest))

pub returns-clause-kept : goal.returns-clause-kept
returns-clause-kept g c rows was =
    let s = g.S.Store in
    let old = c.args.trees.now in
    let mid = c.some_key-found.new.trees in
    settled_keeps s g.met.S.Store.broken_if_shut old mid c.some_key-found.ensures.uncommitted c.settle.new.trees c.settle.result c.some_key-found.result c.settle.ensures.same c.settle.ensures.kept
    c.settle.ensures.undone c.settle.ensures.quiet (λ clean. sym (c.is_broken.ensures clean) ∙ (search rules)) c.args._digests.now rows
    (reads_stay s old mid c.some_key-found.result c.some_key-found.ensures.same c.args._digests.now rows) was

pub returns-clause-steady : goal.returns-clause-steady
returns-clause-steady g c clean =
    settled_clean g.S.Store g.met.S.Store.broken_if_shut c.args.trees.now c.some_key-found.new.trees c.some_key-found.ensures.uncommitted c.settle.new.trees c.settle.result c.settle.ensures.kept
    c.settle.ensures.quiet clean
