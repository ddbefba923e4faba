use Rattle.std.proofs.Common.{[], ◌∷◌, ap, ◌∙◌}
use Rattle.std.specs.Int.NonZero.{non_zero_u8_get}
use Rattle.merkle_digest.specs.Level.{level_of}
use Rattle.merkle_tree_theory.specs.Outline.{of_page, whole_item}
use Rattle.merkle_tree_theory.specs.State.{State}
use Rattle.merkle_tree_theory.proofs.Inside.{whole_is}
use Rattle.merkle_search_tree.proofs.tree.MerkleSearchTree.whole.Goals as goal

pub returns : goal.returns
returns g c = λ hashed.
    let s = c.self.inside in
    let b = g.K.KeyBytes.bytes_of in
    let lev = λ (k : g.row.K.Denot). level_of (g.H.Hasher.digest_of s.hasher k) (non_zero_u8_get s.level_base) in
    let digest = c.in_ok-digest.digest.now in
    let (some, cached) = c.in_ok-digest.ensures.some in
    ap (λ gap. of_page gap digest ∷ []) c.everywhere.ensures
    ∙ whole_is g.K.Ord.cmp g.met.K.Ord.total lev s.page_format b s.root digest some c.self.invariant.caches cached
    ∙ ap (λ (v : State g.row.K.Denot g.row.H.Denot). whole_item v.format b v.root) c.self.view_is
