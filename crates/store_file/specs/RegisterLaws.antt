-- Equal registers feed equal bytes.
use Rattle.std.proofs.Common.{◌≡◌, ℕ, List, Bool, true, ◌&&◌, nat_eq, ap, ap₂, Option, Some, None, refl, string_bytes, ◌++◌, ◌∷◌, length, sym}
use Rattle.std.specs.Int.{w64, to_le_bytes}
use Rattle.std.specs.Option.{option_eq}
use Rattle.std.specs.Cmp.Lexicographic.{same_text, pointwise}
use Rattle.std.proofs.lemmas.Bool.{eqb-true, and_parts}
use Rattle.key_order.specs.Text.{Text}
use Rattle.store_file.specs.RegisterBytes.{register_bytes, value_bytes}
use Rattle.store_file.specs.Values.{bytes_of_value, kind_mark, value_eq}
use Rattle.store_file.specs.declared.register.Register.{Register}
use Rattle.store_file.specs.declared.value.Value.{Value}

abbrev text_eq : Text → Text → Bool
text_eq a b = pointwise nat_eq (string_bytes a) (string_bytes b)

same_value : (a b : Option Value) → option_eq value_eq a b ≡ true → value_bytes a ≡ value_bytes b
same_value None None h = refl
same_value None (Some b) h = absurd (let e = h in cc)
same_value (Some a) None h = absurd (let e = h in cc)
same_value (Some a) (Some b) h =
    let (kind, bytes) = and_parts (nat_eq (kind_mark a) (kind_mark b)) (pointwise nat_eq (bytes_of_value a) (bytes_of_value b)) h in
    ap₂ (λ (mark : ℕ) (text : List ℕ). mark ∷ text) (eqb-true (kind_mark a) (kind_mark b) kind) (same_text (bytes_of_value a) (bytes_of_value b) (sym bytes))

pub same_bytes : (a b : Register) → nat_eq a.time b.time && (text_eq a.writer b.writer && option_eq value_eq a.value b.value) ≡ true → register_bytes a ≡ register_bytes b
same_bytes a b h =
    let (t, rest) = and_parts (nat_eq a.time b.time) (text_eq a.writer b.writer && option_eq value_eq a.value b.value) h in
    let (w, v) = and_parts (text_eq a.writer b.writer) (option_eq value_eq a.value b.value) rest in
    let writer : string_bytes a.writer ≡ string_bytes b.writer = same_text (string_bytes a.writer) (string_bytes b.writer) (sym w) in
    ap₂ (λ x y. x ++ y) (ap (to_le_bytes w64) (eqb-true a.time b.time t))
    (ap₂ (λ (name rest : List ℕ). to_le_bytes w64 (length name) ++ (name ++ rest)) writer (same_value a.value b.value v))
