-- A row of the program that is taken out.
use Rattle.std.specs.Prelude.{Result, Ok, Err, IfOk, OnOk, string_bytes}
use Rattle.std.proofs.Common.{◌≡◌, ℕ, Bool, List}
use Rattle.key_order.specs.Map.{has_key, del}
use Rattle.key_order.specs.Text.{Text, text_order}
use Rattle.mst_pair.specs.Replicas.{TextRow, DeletesRow}

-- a row of texts and numbers, taken out or not
pub deleted : {E : Type 0} (r : Result Bool E) (old new : List TextRow) (text : Text) (key : List ℕ) → string_bytes text ≡ key
    → OnOk r (new ≡ del text_order old text) → IfOk r (λ found. found ≡ has_key text_order old text)
    → IfOk r (λ found. DeletesRow old new key found)
deleted (Ok found) old new text key e rows there = (text, e, rows, there)
deleted (Err x) old new text key e rows there = tt
