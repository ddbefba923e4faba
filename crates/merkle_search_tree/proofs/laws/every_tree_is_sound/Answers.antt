use Rattle.std.proofs.Common.{subst}
use Rattle.key_order.proofs.SameMaps.{same_map-own}
use Rattle.merkle_digest.specs.Level.{level_of}
use Rattle.merkle_tree_theory.specs.Sound.{IsSound}
use Rattle.merkle_tree_theory.specs.TreeOf.{tree_of}
use Rattle.merkle_tree_theory.specs.State.{map_of}
use Rattle.merkle_tree_theory.proofs.Same.{same_digest}
use Rattle.merkle_tree_theory.proofs.SameRanges.{same_ranges}
use Rattle.merkle_tree_theory.proofs.Sound.{sound_defined, same_bytes}
use Rattle.merkle_search_tree.proofs.laws.every_tree_is_sound.Goals as goal

pub returns-clause-sound : goal.returns-clause-sound
returns-clause-sound g c = subst (IsSound g.K.Ord.cmp g.H.Hasher.digest_of g.K.KeyBytes.bytes_of) c.tree.view_is c.tree.invariant

pub returns-clause-tree : goal.returns-clause-tree
returns-clause-tree g c = ((returns-clause-sound g c).canonical, same_map-own g.K.Ord.cmp g.met.K.Ord.total (map_of c.args.tree.now))

pub returns-clause-defined : goal.returns-clause-defined
returns-clause-defined g c = sound_defined g.K.Ord.cmp g.met.K.Ord.total g.K.PartialEq.eq g.met.K.Ord.matches_eq g.H.Hasher.digest_of g.met.H.Hasher.respects_eq
    g.K.KeyBytes.bytes_of c.args.tree.now (returns-clause-sound g c)

pub returns-clause-digest : goal.returns-clause-digest
returns-clause-digest g c =
    let s = c.args.tree.now in
    same_digest g.K.Ord.cmp s.format g.K.KeyBytes.bytes_of (same_bytes g.K.Ord.cmp g.K.PartialEq.eq g.met.K.Ord.matches_eq g.K.KeyBytes.bytes_of g.met.K.KeyBytes.bytes_respect_eq)
    s.root (tree_of (λ k. level_of (g.H.Hasher.digest_of s.hasher k) s.base) (map_of s)) (returns-clause-defined g c)

pub returns-clause-ranges : goal.returns-clause-ranges
returns-clause-ranges g c =
    let s = c.args.tree.now in
    same_ranges g.K.Ord.cmp s.format g.K.KeyBytes.bytes_of (same_bytes g.K.Ord.cmp g.K.PartialEq.eq g.met.K.Ord.matches_eq g.K.KeyBytes.bytes_of g.met.K.KeyBytes.bytes_respect_eq)
    s.root (tree_of (λ k. level_of (g.H.Hasher.digest_of s.hasher k) s.base) (map_of s)) (returns-clause-defined g c)
