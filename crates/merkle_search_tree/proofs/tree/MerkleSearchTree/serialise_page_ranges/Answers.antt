use Rattle.std.proofs.Common.{◌≡◌, ◌++◌, length, true, not, ap, sym, ◌∙◌}
use Rattle.std.specs.Int.NonZero.{non_zero_u8_get}
use Rattle.std.specs.Prelude.{is_some}
use Rattle.std.proofs.lemmas.Bool.{eqb-false}
use Rattle.merkle_digest.specs.Level.{level_of}
use Rattle.merkle_diff.specs.PageRange.{entries}
use Rattle.merkle_tree_theory.specs.CachedRanges.{cached_ranges}
use Rattle.merkle_tree_theory.specs.Ranges.{ranges_of}
use Rattle.merkle_tree_theory.specs.State.{State, map_of}
use Rattle.merkle_tree_theory.proofs.FallingLevels.{root-falls}
use Rattle.merkle_tree_theory.proofs.CachedRanges.{hashed_listed, no_nodes}
use Rattle.merkle_search_tree.proofs.tree.MerkleSearchTree.serialise_page_ranges.Goals as goal

pub list_ranges-requires : goal.list_ranges-requires
list_ranges-requires g c =
    let s = c.self.inside in
    root-falls (λ k. level_of (g.H.Hasher.digest_of s.hasher k) (non_zero_u8_get s.level_base)) s.root c.self.invariant.canonical

pub returns-in_err-list_ranges-clause-empty : goal.returns-in_err-list_ranges-clause-empty
returns-in_err-list_ranges-clause-empty g c = λ e.
    let s = c.self.inside in
    let some = eqb-false _ 0 (sym c.is_empty.ensures ∙ c.if-is_empty.false) in
    absurd (some (ap length (c.nodes.ensures ∙ no_nodes s.root (ap map_of c.self.view_is ∙ e))))

pub returns-clause-ranges : goal.returns-clause-ranges
returns-clause-ranges g c =
    let s = c.self.inside in
    let h = c.self.invariant in
    let b = g.K.KeyBytes.bytes_of in
    let cmp = g.K.Ord.cmp in
    let hashed : is_some s.root_hash ≡ true = c.is_none.ensures ∙ ap not c.if-is_none.false in
    c.in_ok-list_ranges.ensures ∙ ap (λ xs. entries xs ++ cached_ranges cmp s.root) c.new-list.ensures.items
    ∙ hashed_listed cmp g.met.K.Ord.total
    (λ k. level_of (g.H.Hasher.digest_of s.hasher k)
    (non_zero_u8_get s.level_base)) s.page_format b s.root_hash s.root hashed h.root_hash_holds h.caches h.canonical h.ascending
    ∙ ap (λ (v : State g.row.K.Denot g.row.H.Denot). ranges_of v.format b v.root) c.self.view_is
