-- Registers as bytes that go over a wire: the bytes of the triple of time, writer and value.
use Rattle.std.specs.Prelude.{◌≡◌, ℕ, ◌<◌, ◌≤◌, ◌^◌, Bool, true, ◌&&◌, nat_eq, List, [], ◌∷◌, ◌++◌, length, string_bytes, Option, Some, None, IfSome}
use Rattle.std.specs.Option.{option_eq}
use Rattle.std.specs.Cmp.Lexicographic.{pointwise}
use Rattle.std.proofs.Common.{refl, sym, ap₂, arith}
use Rattle.std.proofs.lemmas.Bool.{eq-eqb}
use Rattle.key_order.specs.Text.{Text}
use Rattle.merkle_bytes.specs.Counts.{count_bytes, count_some}
use Rattle.merkle_bytes.specs.Encodings.{string_encoding}
use Rattle.merkle_bytes.specs.Telling.{text_told, number_told, pair_some, pair_told}
use Rattle.store_file.specs.Values.{bytes_of_value, kind_mark, value_eq, IsFormed}
use Rattle.store_file.specs.declared.register.Register.{Register}
use Rattle.store_file.specs.declared.value.Value.{Value}
use Rattle.store_file.specs.declared.value.Value.TheVariants as form

abbrev text_bytes : Text → List ℕ
text_bytes text = string_encoding (string_bytes text)

abbrev text_eq : Text → Text → Bool
text_eq a b = pointwise nat_eq (string_bytes a) (string_bytes b)

-- a byte 0 of a removal, or the mark of the value's kind and its bytes, as many as there are
abbrev pub said_encoding : Option Value → List ℕ
said_encoding None = 0 ∷ []
said_encoding (Some value) = kind_mark value ∷ string_encoding (bytes_of_value value)

-- a removal, or a value in its one form
abbrev pub IsSaid : Option Value → Type 0
IsSaid said = IfSome said IsFormed

-- the writer, and what is said
abbrev said_bytes : Register → List ℕ
said_bytes r = text_bytes r.writer ++ said_encoding r.value

-- the time, the writer and what is said
abbrev pub register_encoding : Register → List ℕ
register_encoding r = count_bytes r.time ++ said_bytes r

-- its time is a number of 64 bits, its writer is a text that a wire can bring, and its value has its one form
abbrev pub IsRegister : (Text → Type 0) → Register → Type 0
IsRegister is_text r = (r.time < 2 ^ 64) × (is_text r.writer × IsSaid r.value)

pub said_some : (said : Option Value) → 1 ≤ length (said_encoding said)
said_some None = omega arith
said_some (Some value) = omega arith

pub register_some : (r : Register) → 1 ≤ length (register_encoding r)
register_some r = pair_some (count_bytes r.time) (said_bytes r) (count_some r.time)

one_text_told : (a b : Text) (r s : List ℕ) → text_bytes a ++ r ≡ text_bytes b ++ s → (text_eq a b ≡ true) × (r ≡ s)
one_text_told a b r s e = text_told (string_bytes a) (string_bytes b) r s e

-- a mark is no 0
no_mark : (value : Value) (xs ys : List ℕ) → 0 ∷ xs ≡ kind_mark value ∷ ys → ⊥
no_mark (form.Text text) xs ys e = let k = e in cc
no_mark (form.Bytes bytes) xs ys e = let k = e in cc

value_told : (a b : Value) (r s : List ℕ) → kind_mark a ∷ (string_encoding (bytes_of_value a) ++ r) ≡ kind_mark b ∷ (string_encoding (bytes_of_value b) ++ s) → (value_eq a b ≡ true) × (r ≡ s)
value_told a b r s e =
    let kind : kind_mark a ≡ kind_mark b = cc in
    let rest : string_encoding (bytes_of_value a) ++ r ≡ string_encoding (bytes_of_value b) ++ s = cc in
    let told = text_told (bytes_of_value a) (bytes_of_value b) r s rest in
    (ap₂ (λ x y. x && y) (eq-eqb (kind_mark a) (kind_mark b) kind) told.0, told.1)

-- bytes that begin with those of what is said tell it, and where it ends
pub said_told : (a b : Option Value) (r s : List ℕ) → said_encoding a ++ r ≡ said_encoding b ++ s → (option_eq value_eq a b ≡ true) × (r ≡ s)
said_told None None r s e =
    let flat : 0 ∷ r ≡ 0 ∷ s = e in
    (refl, cc)
said_told None (Some b) r s e = absurd (no_mark b r (string_encoding (bytes_of_value b) ++ s) e)
said_told (Some a) None r s e = absurd (no_mark a s (string_encoding (bytes_of_value a) ++ r) (sym e))
said_told (Some a) (Some b) r s e = value_told a b r s e

-- bytes that begin with those of a register tell it, and where it ends
pub register_told : (a b : Register) (r s : List ℕ) → register_encoding a ++ r ≡ register_encoding b ++ s
    → (nat_eq a.time b.time && (text_eq a.writer b.writer && option_eq value_eq a.value b.value) ≡ true) × (r ≡ s)
register_told a b r s =
    let value_a = said_encoding a.value in
    let value_b = said_encoding b.value in
    pair_told (count_bytes a.time) (said_bytes a) (count_bytes b.time) (said_bytes b) r s (nat_eq a.time b.time) (text_eq a.writer b.writer && option_eq value_eq a.value b.value)
    (number_told a.time b.time (said_bytes a ++ r) (said_bytes b ++ s))
    (pair_told (text_bytes a.writer) value_a (text_bytes b.writer) value_b r s (text_eq a.writer b.writer) (option_eq value_eq a.value b.value)
    (one_text_told a.writer b.writer (value_a ++ r) (value_b ++ s))
    (said_told a.value b.value r s))
