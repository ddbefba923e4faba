use Rattle.std.proofs.Common.{ap, ◌∙◌}
use Rattle.std.specs.Ordering.{is_eq}
use Rattle.merkle_digest.specs.Level.{level_of}
use Rattle.merkle_tree_theory.proofs.Depths.{root_depth, root_deepest}
use Rattle.merkle_tree_theory.proofs.Same.{same_digest}
use Rattle.merkle_tree_theory.proofs.SameRanges.{same_ranges}
use Rattle.merkle_tree_theory.proofs.Sound.{level_low, same_bytes}
use Rattle.merkle_tree_theory.proofs.TreeOf.{tree_of-is, is_tree_of, same-tree_of, same_pairs}
use Rattle.merkle_tree_theory.proofs.Unique.{unique_root}
use Rattle.merkle_tree_theory.proofs.laws.a_map_has_one_tree.Goals as goal

pub returns-clause-defined : goal.returns-clause-defined
returns-clause-defined g c hasher base m =
    tree_of-is (λ k. level_of (g.H.Hasher.digest_of hasher k) base) (λ k. level_low (g.H.Hasher.digest_of hasher k) base) g.K.Ord.cmp
    (λ x y q. ap (λ d. level_of d base) (g.met.H.Hasher.respects_eq hasher x y (g.met.K.Ord.matches_eq x y ∙ ap is_eq q))) g.met.K.Ord.total m

pub returns-clause-only : goal.returns-clause-only
returns-clause-only g c hasher base m t f =
    is_tree_of (λ k. level_of (g.H.Hasher.digest_of hasher k) base) (λ k. level_low (g.H.Hasher.digest_of hasher k) base) g.K.Ord.cmp
    (λ x y q. ap (λ d. level_of d base) (g.met.H.Hasher.respects_eq hasher x y (g.met.K.Ord.matches_eq x y ∙ ap is_eq q))) t m f.0 f.1

pub returns-clause-enough : goal.returns-clause-enough
returns-clause-enough g c hasher base m t s =
    same-tree_of (λ k. level_of (g.H.Hasher.digest_of hasher k) base) (λ k. level_low (g.H.Hasher.digest_of hasher k) base) g.K.Ord.cmp
    (λ x y q. ap (λ d. level_of d base) (g.met.H.Hasher.respects_eq hasher x y (g.met.K.Ord.matches_eq x y ∙ ap is_eq q))) g.met.K.Ord.total t m s

pub returns-clause-pages : goal.returns-clause-pages
returns-clause-pages g c hasher base a b t u h f e =
    unique_root (λ k. level_of (g.H.Hasher.digest_of hasher k) base) g.K.Ord.cmp
    (λ x y q. ap (λ d. level_of d base) (g.met.H.Hasher.respects_eq hasher x y (g.met.K.Ord.matches_eq x y ∙ ap is_eq q))) t u f.0 e.0
    (same_pairs g.K.Ord.cmp g.met.K.Ord.total (g.H.Hasher.digest_of hasher) base a b t u h f e)

pub returns-clause-digests : goal.returns-clause-digests
returns-clause-digests g c hasher base format a b t u h f e =
    same_digest g.K.Ord.cmp format g.K.KeyBytes.bytes_of
    (same_bytes g.K.Ord.cmp g.K.PartialEq.eq g.met.K.Ord.matches_eq g.K.KeyBytes.bytes_of g.met.K.KeyBytes.bytes_respect_eq) t u
    (returns-clause-pages g c hasher base a b t u h f e)

pub returns-clause-ranges : goal.returns-clause-ranges
returns-clause-ranges g c hasher base format a b t u h f e =
    same_ranges g.K.Ord.cmp format g.K.KeyBytes.bytes_of
    (same_bytes g.K.Ord.cmp g.K.PartialEq.eq g.met.K.Ord.matches_eq g.K.KeyBytes.bytes_of g.met.K.KeyBytes.bytes_respect_eq) t u
    (returns-clause-pages g c hasher base a b t u h f e)

pub returns-clause-by_level : goal.returns-clause-by_level
returns-clause-by_level g c hasher base m t f = root_depth (λ k. level_of (g.H.Hasher.digest_of hasher k) base) t f.0

pub returns-clause-deepest : goal.returns-clause-deepest
returns-clause-deepest g c hasher base m t f = root_deepest (λ k. level_of (g.H.Hasher.digest_of hasher k) base) (λ k. level_low (g.H.Hasher.digest_of hasher k) base) t f.0
