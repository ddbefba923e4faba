use Rattle.std.proofs.Common.{ℕ, List, ◌∙◌, subst}
use Rattle.key_order.specs.Text.{Text}
use Rattle.merkle_digest.specs.Level.{level_of}
use Rattle.merkle_tree_theory.specs.Canonical.{IsCanonicalRoot}
use Rattle.merkle_tree_theory.specs.State.{State}
use Rattle.merkle_digest.specs.SipDigests.{text_digest}
use Rattle.examples.proofs.store.root_hash.Goals as goal

-- the root page is the tree of the rows
pub returns-clause-digest : goal.returns-clause-digest
returns-clause-digest c =
    let P : State Text (List ℕ) → Type 0 = λ t. IsCanonicalRoot (λ k. level_of (text_digest t.hasher k) t.base) t.root in
    let canonical : P c.args.store.now.tree = subst P c.tree.ensures.tree c.every_tree_is_sound.ensures.sound.canonical in
    (c.args.store.now.tree.root, (canonical, c.tree.ensures.digests), c.in_ok-digest.ensures.cases ∙ c.root_hash.ensures.digest)
