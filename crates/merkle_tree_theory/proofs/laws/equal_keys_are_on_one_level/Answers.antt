use Rattle.std.proofs.Common.{ap, ◌∙◌, arith}
use Rattle.std.specs.Ordering.{is_eq}
use Rattle.merkle_digest.specs.Level.{level_of}
use Rattle.merkle_tree_theory.proofs.Sound.{level_low}
use Rattle.merkle_tree_theory.proofs.laws.equal_keys_are_on_one_level.Goals as goal

pub returns-clause-level : goal.returns-clause-level
returns-clause-level g c hasher base a b e = ap (λ d. level_of d base) (g.met.H.Hasher.respects_eq hasher a b (g.met.K.Ord.matches_eq a b ∙ ap is_eq e))

pub returns-clause-most : goal.returns-clause-most
returns-clause-most g c digest base = omega (arith, level_low digest base)
