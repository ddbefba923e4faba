use Rattle.merkle_tree_theory.proofs.Sound.{same_bytes}
use Rattle.merkle_tree_theory.proofs.laws.equal_keys_have_equal_bytes.Goals as goal

pub returns : goal.returns
returns g c a b e = same_bytes g.K.Ord.cmp g.K.PartialEq.eq g.met.K.Ord.matches_eq g.K.KeyBytes.bytes_of g.met.K.KeyBytes.bytes_respect_eq a b e
