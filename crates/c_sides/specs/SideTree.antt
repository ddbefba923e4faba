-- The tree of a side.
use Rattle.std.specs.Prelude.{ℕ, List}
use Rattle.std.specs.Global.{Vec}
use Rattle.merkle_tree_theory.specs.State.{State}

-- a tree whose keys are byte strings under SipHash, which is seen as its key
abbrev pub SyncState : Type 0
SyncState = State (Vec ℕ) (List ℕ)
