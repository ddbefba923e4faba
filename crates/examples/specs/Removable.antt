-- Values that can be removed.
use Rattle.std.specs.Prelude.{ℕ, List, ◌∷◌, ◌++◌, cond}
use Rattle.std.specs.Int.{w64, to_le_bytes}
use Rattle.examples.specs.declared.removable.Removable.{Removable}

-- the bytes of its time, of whether it is removed, and of its value
abbrev pub removable_bytes : Removable → List ℕ
removable_bytes r = to_le_bytes w64 r.time ++ (cond r.removed 1 0 ∷ to_le_bytes w64 r.value)
