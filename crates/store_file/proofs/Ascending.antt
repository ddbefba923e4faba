-- What holds at a place of a list that ascends.
use Rattle.std.proofs.Common.{List, [], ◌∷◌, ◌++◌}
use Rattle.std.specs.List.{AllByRecursion}
use Rattle.sqlite_trees.specs.Tree.{IsAscending}

-- what holds of each element holds of one between two parts
pub all-middle : {X : Type 0} (P : X → Type 0) (xs : List X) (x : X) (ys : List X) → AllByRecursion P (xs ++ x ∷ ys) → P x
all-middle P [] x ys all = all.0
all-middle P (y ∷ xs) x ys all = all-middle P xs x ys all.1

-- the elements before one are below it
pub ascending-middle : {X : Type 0} (R : X → X → Type 0) (xs : List X) (x : X) (ys : List X) → IsAscending R (xs ++ x ∷ ys) → AllByRecursion (λ y. R y x) xs
ascending-middle R [] x ys up = tt
ascending-middle R (y ∷ xs) x ys up = (all-middle (R y) xs x ys up.0, ascending-middle R xs x ys up.1)
