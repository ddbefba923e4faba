-- Registers as bytes that a digest is of.
use Rattle.std.specs.Prelude.{ℕ, List, [], ◌∷◌, ◌++◌, length, string_bytes, Option, Some, None}
use Rattle.std.specs.Int.{w64, to_le_bytes}
use Rattle.store_file.specs.Values.{bytes_of_value, kind_mark}
use Rattle.store_file.specs.declared.register.Register.{Register}
use Rattle.store_file.specs.declared.value.Value.{Value}

-- 0, or the mark of the value's kind and its bytes
abbrev pub value_bytes : Option Value → List ℕ
value_bytes None = 0 ∷ []
value_bytes (Some value) = kind_mark value ∷ bytes_of_value value

-- the time, the length of the writer's name and the name, and the value
abbrev pub register_bytes : Register → List ℕ
register_bytes r = to_le_bytes w64 r.time ++ (to_le_bytes w64 (length (string_bytes r.writer)) ++ (string_bytes r.writer ++ value_bytes r.value))
