-- Registers that keep what was written last.
use Rattle.std.specs.Prelude.{◌≡◌, ℕ, List, [], ◌∷◌, ◌++◌}
use Rattle.std.specs.Int.{w64, to_le_bytes}
use Rattle.std.specs.Ordering.{ord_max}
use Rattle.std.specs.declared.cmp.Ordering.{Ordering}
use Rattle.key_order.specs.Map.{get}
use Rattle.key_order.specs.Join.{joined}
use Rattle.key_order.specs.Text.{Text, text_order}
use Rattle.examples.specs.declared.register.Register.{Register}

-- the bytes of its three numbers
abbrev pub bytes_of_register : Register → List ℕ
bytes_of_register r = to_le_bytes w64 r.time ++ to_le_bytes w64 r.writer ++ to_le_bytes w64 r.value

-- this name has then the later of the register that it had, if any, and the one that is written, and each other name what it had
abbrev pub IsWritten : (Register → Register → Ordering) → List (Text × Register) → Text → Register → List (Text × Register) → Type 0
IsWritten cmp rows name register after =
    (k : Text) → get text_order after k ≡ joined (ord_max cmp) (get text_order rows k) (get text_order ((name, register) ∷ []) k)
