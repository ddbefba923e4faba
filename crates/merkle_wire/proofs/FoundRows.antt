-- Rows at keys, one key after the other, as they are found and written.
use Rattle.std.proofs.Common.{◌≡◌, ℕ, ◌+◌, ◌≤◌, List, [], ◌∷◌, ◌++◌, length, refl, ◌∙◌, inl, inr, arith}
use Rattle.std.proofs.lemmas.List.{length-append}
use Rattle.std.specs.Cmp.{IsTotalOrder}
use Rattle.std.proofs.lemmas.Cmp.{tied_itself}
use Rattle.std.specs.declared.cmp.Ordering.{Ordering}
use Rattle.merkle_bytes.specs.Runs.{entries_bytes, row_behind, row_key, state_behind}
use Rattle.merkle_bytes.proofs.Listed.{written_next}
use Rattle.merkle_wire.specs.Steps.{AddsRowAt}
use Rattle.merkle_wire.specs.declared.nodes.ToldRows.{ToldRows}
use Rattle.merkle_wire.proofs.RowsMore.{rows_more}
use Rattle.merkle_wire.specs.Outlines.{AreRowsAt}

module _ {K V : Type 0} (cmp : K → K → Ordering) (encoding : K → List ℕ) (values : V → List ℕ) (rows : List (K × V)) (start : List ℕ) where
  -- the rows at some keys are found, and written after a key
  abbrev pub AreFound : List K → ℕ → ToldRows → List ℕ → Type 0
  AreFound keys most told last = (found : List (K × V)) × AreRowsAt cmp rows keys found × (told.count ≡ length found) × (told.count ≤ most)
      × (told.bytes.items ≡ entries_bytes (row_behind encoding values) (row_key encoding) start found)
      × (last ≡ state_behind (row_behind encoding values) (row_key encoding) start found)

  pub found_more : IsTotalOrder cmp → (keys : List K) (k : K) (most : ℕ) (old new : ToldRows) (last last' : List ℕ) → AreFound keys most old last
      → AddsRowAt cmp encoding values rows k last last' old new
      → AreFound (keys ++ k ∷ []) (most + 1) new last'
  found_more o keys k most old new last last' (found, at, count, few, bytes, behind) (inl none) = (
    found,
    rows_more cmp rows keys k found found at (inl (none.0, refl)),
    none.2 ∙ count,
    omega (arith, none.2, few),
    none.3 ∙ bytes,
    none.1 ∙ behind,
  )
  found_more o keys k most old new last last' (found, at, count, few, bytes, behind) (inr some) =
      let row : K × V = (k, some.0) in
      let more = found ++ row ∷ [] in
      let both = written_next (row_behind encoding values) (row_key encoding) start last last' found more row [] old.bytes.items new.bytes.items refl bytes behind some.4 some.2 in (
        more,
        rows_more cmp rows keys k found more at (inr (row, tied_itself o k, some.1, refl)),
        some.3 ∙ omega (arith, count, length-append found (row ∷ [])),
        omega (arith, some.3, few),
        both.0,
        both.1,
      )
