-- What is said of a key, at the front of bytes.
use Rattle.std.proofs.Common.{◌≡◌, ◌≢◌, ℕ, List, [], ◌∷◌, ◌++◌, length, get_or, Option, Some, None, refl, sym, ap, subst, ◌∙◌, arith}
use Rattle.std.specs.Str.{IsUtf8}
use Rattle.std.proofs.lemmas.Str.{IsUtf8-string_bytes}
use Rattle.merkle_bytes.specs.Encodings.{string_encoding}
use Rattle.merkle_bytes.specs.Telling.{string_told}
use Rattle.store_file.specs.Values.{bytes_of_value, kind_mark, IsFormed, IsValueOf}
use Rattle.store_file.specs.WireRegisters.{said_encoding, IsSaid}
use Rattle.store_file.specs.declared.value.Value.{Value}
use Rattle.store_file.specs.declared.value.Value.TheVariants.{Text, Bytes}

-- values of the same bytes, in their one form, are of one kind
one_kind : (a b : Value) → IsFormed a → IsFormed b → bytes_of_value a ≡ bytes_of_value b → kind_mark a ≡ kind_mark b
one_kind (Text s) (Text t) f g same = refl
one_kind (Text s) (Bytes t) f g same = absurd (g (subst IsUtf8 same (IsUtf8-string_bytes s)))
one_kind (Bytes s) (Text t) f g same = absurd (f (subst IsUtf8 (sym same) (IsUtf8-string_bytes t)))
one_kind (Bytes s) (Bytes t) f g same = refl

-- nothing is said where the mark before a byte string is not that of its value
not_its_own : (mark : ℕ) (bytes after : List ℕ) (value : Value) → mark ≢ 0 → IsValueOf bytes value → kind_mark value ≢ mark → (said : Option Value) (rest : List ℕ) → IsSaid said
    → mark ∷ (string_encoding bytes ++ after) ≢ said_encoding said ++ rest
not_its_own mark bytes after value other is differs None rest formed e =
    let flat : mark ∷ (string_encoding bytes ++ after) ≡ 0 ∷ rest = e in
    other cc
not_its_own mark bytes after value other is differs (Some v) rest formed e =
    let flat : mark ∷ (string_encoding bytes ++ after) ≡ kind_mark v ∷ (string_encoding (bytes_of_value v) ++ rest) = e in
    let tails : string_encoding bytes ++ after ≡ string_encoding (bytes_of_value v) ++ rest = cc in
    let kind : mark ≡ kind_mark v = cc in
    let told = string_told bytes (bytes_of_value v) after rest tails in
    differs (one_kind value v is.formed formed (is.same ∙ told.0) ∙ sym kind)

-- so it is where both were read
pub other_kind : (left front mid bytes after : List ℕ) (value : Value) → length front ≡ 1 → left ≡ front ++ mid → mid ≡ string_encoding bytes ++ after → get_or front 0 0 ≢ 0
    → IsValueOf bytes value → kind_mark value ≢ get_or front 0 0 → (said : Option Value) (rest : List ℕ) → IsSaid said → left ≢ said_encoding said ++ rest
other_kind left (mark ∷ []) mid bytes after value one read next other is differs said rest formed e =
    not_its_own mark bytes after value other is differs said rest formed (ap (λ (more : List ℕ). mark ∷ more) (sym next) ∙ sym read ∙ e)
other_kind left [] mid bytes after value one read next other is differs said rest formed e = absurd (omega (arith, one))
other_kind left (a ∷ b ∷ more) mid bytes after value one read next other is differs said rest formed e = absurd (omega (arith, one))
