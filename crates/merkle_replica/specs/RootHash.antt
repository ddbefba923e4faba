-- What a replica ends as whose root hash was lent.
use Rattle.std.specs.Prelude.{◌≡◌, ℕ, ⊤}
use Rattle.std.specs.Borrow.{Fml, MutBor, RattleType}
use mathlib.Core.Option.{none}
use denote.Follow.{follows_so}
use denote.Param.{number}
use Rattle.merkle_tree_theory.specs.Hashed.{hashed_tree}
use Rattle.merkle_replica.specs.contracts.replica.Replica.{the_row}

-- once the root hash is let go, the rows are as before, and the tree is hashed
abbrev pub ends_hashed : (K V H : RattleType) (n : ℕ) (ord eq partial clone bytes value_eq hasher values : _)
    → MutBor (the_row K V H (number n) ord eq partial clone bytes value_eq hasher values).Denot → Fml
ends_hashed K V H n ord eq partial clone bytes value_eq hasher values replica =
    let row = the_row K V H (number n) ord eq partial clone bytes value_eq hasher values in
    follows_so row row replica.ghost_name none (λ _ _. ⊤) (λ t. (t.rows ≡ replica.now.rows) × (t.tree ≡ hashed_tree bytes.bytes_of replica.now.tree))
