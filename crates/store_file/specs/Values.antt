-- Values: bytes, of which those in UTF-8 are texts.
use Rattle.std.specs.Prelude.{◌≡◌, ⊤, ℕ, List, Bool, nat_eq, string_bytes, IsUtf8}
use Rattle.std.specs.Cmp.Lexicographic.{pointwise, slice_cmp}
use Rattle.std.specs.Ordering.{nat_cmp, on, then_cmp, eq_of_both}
use Rattle.std.specs.declared.cmp.Ordering.{Ordering}
use Rattle.store_file.specs.declared.value.Value.{Value}
use Rattle.store_file.specs.declared.value.Value.TheVariants.{Text, Bytes}

-- the bytes of a value
abbrev pub bytes_of_value : Value → List ℕ
bytes_of_value (Text text) = string_bytes text
bytes_of_value (Bytes bytes) = bytes.items

-- the mark of its kind: 1 of a text, 2 of other bytes
abbrev pub kind_mark : Value → ℕ
kind_mark (Text text) = 1
kind_mark (Bytes bytes) = 2

-- a value is in the one form of its bytes: a text, or bytes that aren't UTF-8
abbrev pub IsFormed : Value → Type 0
IsFormed (Text text) = ⊤
IsFormed (Bytes bytes) = ¬ (IsUtf8 bytes.items)

-- the value of these bytes
pub record IsValueOf (bytes : List ℕ) (value : Value) : Type 0 where
  pub same : bytes_of_value value ≡ bytes
  pub formed : IsFormed value

-- equal are values of one kind with the same bytes
abbrev pub value_eq : Value → Value → Bool
value_eq = eq_of_both (on kind_mark nat_eq) (on bytes_of_value (pointwise nat_eq))

-- by the kind, a text first, then by the bytes
abbrev pub value_order : Value → Value → Ordering
value_order = then_cmp (on kind_mark nat_cmp) (on bytes_of_value (slice_cmp nat_cmp))
