use Rattle.std.proofs.Common.{ℕ, ap, rules, ◌∙◌}
use Rattle.sqlite_trees.specs.Memory.{memory_is_unaltered}
use Rattle.sqlite_trees.specs.declared.store.Shape.{Shape}
use Rattle.store_side_tests.proofs.Made.{made_log}
use Rattle.store_side_tests.proofs.logs.empty.Goals as goal

pub over-requires : goal.over-requires
over-requires c =
    made_log _ (λ s sound. memory_is_unaltered s) c.in_ok-trees.trees (ap (λ (shape : ℕ → Shape). shape 0) c.in_ok-trees.ensures.shape ∙ search rules)
    (ap (λ (shape : ℕ → Shape). shape 1) c.in_ok-trees.ensures.shape ∙ search rules) (ap (λ (shape : ℕ → Shape). shape 2) c.in_ok-trees.ensures.shape ∙ search rules)
    c.in_ok-trees.ensures.clean c.in_ok-trees.ensures.sound
