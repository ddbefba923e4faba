-- Texts of CSV that are refused.
use Rattle.std.proofs.Common.{◌≡◌, ℕ, Bool, ◌^◌, ◌<◌, ◌≤◌, true, false, List, [], ◌∷◌, length, Option, Some, None, Result, Ok, Err, inl, inr, refl, ap, sym, subst, ◌∙◌, string_bytes, arith}
use Rattle.std.specs.Prelude.{IfErr, IfSome, IsErrAnd, IsSomeAnd}
use Rattle.std.specs.Str.{IsUtf8}
use Rattle.std.specs.Str.Parse.{IsNumeral, digits_value, without_leading_plus}
use Rattle.std.proofs.lemmas.Str.{IsUtf8-string_bytes}
use Rattle.key_order.specs.Text.{Text as Key}
use Rattle.csv.specs.Reading.{reader_state}
use Rattle.csv.specs.Records.{field_at}
use Rattle.csv.specs.declared.reader.Reader.{Reader}
use Rattle.store_file.specs.Values.{bytes_of_value}
use Rattle.store_file.specs.declared.value.Value.{Value}
use Rattle.mst_commands.specs.Malformed.{BeginsWithRecords, EndsFor, IsBadText, IsImportRefused, IsNoName, IsParseRefused, LacksHeader, SaysNone, SaysNoChange}
use Rattle.mst_commands.specs.Records.{change_fields, field_or_empty, HasRead, IsPairOf}
use Rattle.mst_commands.specs.declared.fault.Fault.{Fault}
use Rattle.mst_commands.specs.declared.fault.Fault.TheVariants as fault

-- what an end for one reason says, it says of what follows from the reason
ends-for : {P Q R S : Type 0} (why : Fault) → (P → R) → (Q → S) → EndsFor P Q why → EndsFor R S why
ends-for (fault.NoHeader names) f g h = f h
ends-for (fault.BadLine line why) f g h = g h
ends-for (fault.Store why) f g h = tt
ends-for (fault.Device error) f g h = tt
ends-for fault.NoStore f g h = absurd h
ends-for fault.Exists f g h = absurd h
ends-for fault.InUse f g h = absurd h
ends-for fault.NoKey f g h = absurd h
ends-for fault.Unmet f g h = absurd h
ends-for (fault.TooLong what) f g h = absurd h
ends-for (fault.Future entry) f g h = absurd h
ends-for (fault.Damaged rows) f g h = absurd h
ends-for fault.System f g h = absurd h

-- what a `?` returns ends for what follows from the reason of the call
pub ends-with : {A P Q R S : Type 0} (result : Result A Fault) (why : Fault) → IsErrAnd result (λ end. end ≡ why) → (P → R) → (Q → S) → EndsFor P Q why
    → IfErr result (EndsFor R S)
ends-with (Ok done) why same f g h = absurd same
ends-with {R = R} {S = S} (Err end) why same f g h = subst (EndsFor R S) (sym same) (ends-for why f g h)

module _ {R : Type 0} (remaining : R → Option (List ℕ)) where
  -- the text begins with the records that a reader has read of it
  pub begins : (text : Option (List ℕ)) (records : List (List (List ℕ))) (reader : Reader R) → HasRead remaining text records reader → IfSome text (λ bytes. BeginsWithRecords bytes records)
  begins None records reader had = tt
  begins (Some bytes) records reader had = let was = had.reached bytes refl in (reader_state reader, was.0, was.2)

-- what holds of a text that is known follows from what else holds of it
pub if-known : {P Q : List ℕ → Type 0} (text : Option (List ℕ)) → ((bytes : List ℕ) → P bytes → Q bytes) → IfSome text P → IfSome text Q
if-known None f h = tt
if-known (Some bytes) f h = f bytes h

-- what holds of the bytes that were read holds of a text that is known, which these are
of-all : (Q : List ℕ → Type 0) (text : Option (List ℕ)) (all : List ℕ) → IfSome text (λ bytes. all ≡ bytes) → Q all → IfSome text Q
of-all Q None all same h = tt
of-all Q (Some bytes) all same h = subst Q same h

-- where the records of the bytes that were read end an import, so do those of the text
import-refused : (is_log : Bool) (text : Option (List ℕ)) (all : List ℕ) (why : Fault) → IfSome text (λ bytes. all ≡ bytes) → IsParseRefused is_log (Some all) why → IsImportRefused is_log text why
import-refused is_log text all why same refused =
    ends-for why (λ lacks. of-all (LacksHeader is_log) text all same lacks) (λ bad. of-all (IsBadText is_log) text all same (inl bad)) refused

pub refused-as : {A : Type 0} (is_log : Bool) (text : Option (List ℕ)) (all : List ℕ) (result : Result A Fault) → IfSome text (λ bytes. all ≡ bytes)
    → IfErr result (IsParseRefused is_log (Some all)) → IfErr result (IsImportRefused is_log text)
refused-as is_log text all (Ok entries) same refused = tt
refused-as is_log text all (Err why) same refused = import-refused is_log text all why same refused

-- a record of keys and values that says an entry has two fields
of-pair : (row : List (List ℕ)) (key : List ℕ) (said : Option Value) → IsSomeAnd said (λ value. IsPairOf row (key, value))
    → (value : Value) × (said ≡ Some value) × (row ≡ key ∷ bytes_of_value value ∷ [])
of-pair row key None says = absurd says
of-pair row key (Some value) says = (value, refl, says.0)

-- a text of 1 MiB at most is a name
is-name : (field : List ℕ) (text : Key) → field ≡ string_bytes text → length (string_bytes text) ≤ 1048576 → IsNoName field → ⊥
is-name field text same short (inl long) = omega (arith, long, short, ap length same)
is-name field text same short (inr other) = other (subst IsUtf8 (sym same) (IsUtf8-string_bytes text))

module _ (row : List (List ℕ)) where
  pub no-key : IsNoName (field_or_empty row 0) → SaysNone false row
  unfolding field_at
  no-key none number entry says within =
      let p = of-pair row (string_bytes entry.0) entry.1.value says.fields in
      is-name (field_or_empty row 0) entry.0 (ap (λ (r : List (List ℕ)). field_or_empty r 0) p.2) within.key none

  pub long-text : 1048576 < length (field_or_empty row 1) → SaysNone false row
  unfolding field_at
  long-text long number entry says within =
      let p = of-pair row (string_bytes entry.0) entry.1.value says.fields in
      let same : field_or_empty row 1 ≡ bytes_of_value p.0 = ap (λ (r : List (List ℕ)). field_or_empty r 1) p.2 in
      let short : length (bytes_of_value p.0) ≤ 1048576 = rw p.1 at within.value in
      omega (arith, long, short, ap length same)

too-long : (said : Option Value) → IsSomeAnd said (λ value. 1048576 < length (bytes_of_value value)) → IfSome said (λ value. length (bytes_of_value value) ≤ 1048576) → ⊥
too-long None long short = absurd long
too-long (Some value) long short = omega (arith, long, short)

change-of : (said : Option Value) → change_fields said ≡ field_or_empty (change_fields said) 0 ∷ field_or_empty (change_fields said) 1 ∷ []
unfolding field_at
change-of None = refl
change-of (Some value) = refl

module _ (row : List (List ℕ)) where
  pub no-log-key : IsNoName (field_or_empty row 0) → SaysNone true row
  unfolding field_at
  no-log-key none number entry says within = is-name (field_or_empty row 0) entry.0 (ap (λ (r : List (List ℕ)). field_or_empty r 0) says.2) within.key none

  pub no-writer : IsNoName (field_or_empty row 2) → SaysNone true row
  unfolding field_at
  no-writer none number entry says within = is-name (field_or_empty row 2) entry.1.writer (ap (λ (r : List (List ℕ)). field_or_empty r 2) says.2) within.writer none

  pub no-digits : ¬ (IsUtf8 (field_or_empty row 1)) → SaysNone true row
  unfolding field_at
  no-digits none number entry says within =
      let same : field_or_empty row 1 ≡ says.0 = ap (λ (r : List (List ℕ)). field_or_empty r 1) says.2 in
      none (subst IsUtf8 (sym same) says.1.0)

  pub no-time : ¬ (IsNumeral 10 (without_leading_plus (field_or_empty row 1)) × (digits_value 10 (without_leading_plus (field_or_empty row 1)) < 2 ^ 64)) → SaysNone true row
  unfolding field_at
  no-time none number entry says within =
      let same : field_or_empty row 1 ≡ says.0 = ap (λ (r : List (List ℕ)). field_or_empty r 1) says.2 in
      let small : entry.1.time < 2 ^ 64 = omega (arith, within.time) in
      none (rw same (says.1.1, rw (← says.1.2) small))

  pub late-time : (time : ℕ) → time ≡ digits_value 10 (without_leading_plus (field_or_empty row 1)) → 2 ^ 63 ≤ time → SaysNone true row
  unfolding field_at
  late-time time is late number entry says within =
      let same : field_or_empty row 1 ≡ says.0 = ap (λ (r : List (List ℕ)). field_or_empty r 1) says.2 in
      let told : time ≡ entry.1.time = is ∙ ap (λ (digits : List ℕ). digits_value 10 (without_leading_plus digits)) same ∙ sym says.1.2 in
      omega (arith, late, within.time, told)

  pub no-change : SaysNoChange row → SaysNone true row
  unfolding field_at
  no-change none number entry says within =
      let said = entry.1.value in
      let third : field_or_empty row 3 ≡ field_or_empty (change_fields said) 0 = ap (λ (r : List (List ℕ)). field_or_empty r 3) says.2 in
      let fourth : field_or_empty row 4 ≡ field_or_empty (change_fields said) 1 = ap (λ (r : List (List ℕ)). field_or_empty r 4) says.2 in
      too-long said (none said (change-of said ∙ sym (λ i. third i ∷ fourth i ∷ []), says.3)) within.value
