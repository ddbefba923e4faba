use Rattle.std.proofs.Common.{ℕ, [], sym, ◌∙◌}
use Rattle.merkle_digest.specs.Level.{level_of}
use Rattle.merkle_digest.specs.SipHash.{zero_key}
use Rattle.test_trees.proofs.Scan.{tree-digest, tree-empty}
use Rattle.test_trees.proofs.defined.defined_root_hash.Goals as goal

pub returns-in-Some : goal.returns-in-Some
returns-in-Some g c =
    let lev : g.row.K.Denot → ℕ = λ key. level_of (g.H.Hasher.digest_of c.args.hasher.now key) 16 in
    c.new.ensures ∙ tree-digest c.args.format g.K.KeyBytes.bytes_of lev c.args.pairs.now c.in-Some.digest (sym c.defined_digest.ensures ∙ c.in-Some.is)

pub returns-in-None : goal.returns-in-None
returns-in-None g c =
    let lev : g.row.K.Denot → ℕ = λ key. level_of (g.H.Hasher.digest_of c.args.hasher.now key) 16 in
    c.new-in-None-2.ensures ∙ (c.new-in-None.ensures
    ∙ (c.finish128.ensures zero_key _ (c.write_gap.ensures zero_key _ (c.write_head.ensures zero_key [] c.new-sip.ensures))
    ∙ tree-empty c.args.format g.K.KeyBytes.bytes_of lev c.args.pairs.now (sym c.defined_digest.ensures ∙ c.in-None.is)))
