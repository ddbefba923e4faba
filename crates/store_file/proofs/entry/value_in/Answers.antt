use Rattle.std.proofs.Common.{◌≢◌, ℕ, List, Option, Some, None, IfSome, rules, string_bytes}
use Rattle.std.proofs.lemmas.Str.{IsUtf8-string_bytes}
use Rattle.sqlite_value.specs.declared.value.Value.TheVariants.{Text as Words}
use Rattle.store_file.specs.Entries.{value_cell}
use Rattle.store_file.specs.Sifting.{IsNoText}
use Rattle.store_file.specs.Values.{IsFormed}
use Rattle.store_file.specs.declared.value.Value.{Value}
use Rattle.store_file.specs.declared.value.Value.TheVariants.{Text, Bytes}
use Rattle.store_file.proofs.entry.value_in.Goals as goal

-- bytes that are no text are no value where a text stands
no_value : (bytes : List ℕ) → IsNoText (Words bytes) → (said : Option Value) → IfSome said IsFormed → Words bytes ≢ value_cell said
no_value bytes none None formed is = let e = is in cc
no_value bytes none (Some (Text text)) formed is = none (string_bytes text) (IsUtf8-string_bytes text) is
no_value bytes none (Some (Bytes own)) formed is = let e = is in cc

pub returns-in_err-text_in-in-Text-clause-none : goal.returns-in_err-text_in-in-Text-clause-none
returns-in_err-text_in-in-Text-clause-none c malformed =
    rw c.in-Text.is (no_value c.in-Text.field-0.now (rw c.in-Text.is at (c.text_in.ensures.none (search rules))))
