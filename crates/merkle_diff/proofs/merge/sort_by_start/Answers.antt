use Rattle.std.proofs.Common.{◌≡◌, rules}
use Rattle.std.proofs.lemmas.Fn.{always_returns_same}
use Rattle.merkle_diff.proofs.merge.sort_by_start.Goals as goal

pub returns-clause-sorted : goal.returns-clause-sorted
returns-clause-sorted g c = c.sort_unstable_by_key.ensures.sorted (λ r. r.start) (always_returns_same _ (λ a r. r ≡ a.0.now.start) _ (λ a r f h. search rules))
