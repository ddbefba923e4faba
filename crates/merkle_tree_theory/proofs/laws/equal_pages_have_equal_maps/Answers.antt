use Rattle.merkle_tree_theory.proofs.Same.{same_digest}
use Rattle.merkle_tree_theory.proofs.SameRanges.{same-pairs, same_ranges}
use Rattle.merkle_tree_theory.proofs.Sound.{same_bytes}
use Rattle.merkle_tree_theory.proofs.laws.equal_pages_have_equal_maps.Goals as goal

pub returns-clause-maps : goal.returns-clause-maps
returns-clause-maps g c t u same = same-pairs g.K.Ord.cmp t u same

pub returns-clause-digests : goal.returns-clause-digests
returns-clause-digests g c format t u same =
    same_digest g.K.Ord.cmp format g.K.KeyBytes.bytes_of (same_bytes g.K.Ord.cmp g.K.PartialEq.eq g.met.K.Ord.matches_eq g.K.KeyBytes.bytes_of g.met.K.KeyBytes.bytes_respect_eq) t u same

pub returns-clause-ranges : goal.returns-clause-ranges
returns-clause-ranges g c format t u same =
    same_ranges g.K.Ord.cmp format g.K.KeyBytes.bytes_of (same_bytes g.K.Ord.cmp g.K.PartialEq.eq g.met.K.Ord.matches_eq g.K.KeyBytes.bytes_of g.met.K.KeyBytes.bytes_respect_eq) t u same
