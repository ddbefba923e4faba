-- What holds of two sides that kept rows and settings held of them before.
use Rattle.std.proofs.Common.{◌≡◌, subst}
use Rattle.merkle_replica.specs.Contents.{Contents, Side, side}
use Rattle.merkle_replica.proofs.SideLaws.{same_side}
use Rattle.merkle_tree_theory.specs.State.{SameSettings}

pub as_before : {K V H : Type 0} (a b met_a met_b : Contents K V H) → met_a.rows ≡ a.rows → SameSettings a.tree met_a.tree → met_b.rows ≡ b.rows → SameSettings b.tree met_b.tree
    → (P : Side K V H → Side K V H → Type 0) → P (side met_a) (side met_b) → P (side a) (side b)
as_before a b met_a met_b rows_a settings_a rows_b settings_b P p =
    subst (λ s. P s (side b)) (same_side a met_a rows_a settings_a) (subst (P (side met_a)) (same_side b met_b rows_b settings_b) p)
