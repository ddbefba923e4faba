use Rattle.std.proofs.Common.{Option, Some, None, MatchOption, ap, ◌∙◌}
use Rattle.std.specs.Prelude.{◌-◌, ◌^◌, IsSome, min, ⊤}
use Rattle.std.proofs.lemmas.Bool.{false≢true}
use Rattle.examples.proofs.hashing.hash_again.Goals as goal

-- of a value that is there, what holds of it where it is
holds : {A : Type 0} (P : A → Type 0) (Q : Type 0) (o : Option A) → IsSome o → MatchOption o ⊤ P → ((a : A) → P a → Q) → Q
holds P Q None is p f = absurd (false≢true is)
holds P Q (Some a) is p f = f a p

pub returns : goal.returns
returns c = c.root_hash_counted-pages.ensures.count ∙ ap (λ n. min n (2 ^ 64 - 1)) (holds _ _ _ c.requires.hashed c.a_hashed_tree_has_every_digest.ensures (λ digest whole. whole.1))
