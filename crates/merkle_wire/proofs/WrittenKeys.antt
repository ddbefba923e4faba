-- Keys that are asked for are written as keys.
use Rattle.std.proofs.Common.{◌≡◌, ℕ, List, [], ◌∷◌, ◌++◌, map, refl, ap, ap₂, sym}
use Rattle.std.proofs.lemmas.List.{length-map}
use Rattle.merkle_bytes.specs.Counts.{count_bytes}
use Rattle.merkle_bytes.specs.Keys.{key_behind}
use Rattle.merkle_bytes.specs.Runs.{run_bytes, entries_bytes}
use Rattle.merkle_wire.specs.Outlines.{keys_told}
use Rattle.merkle_wire.specs.declared.wanted.Wanted.{Wanted}

module _ {K : Type 0} (encoding : K → List ℕ) where
  entries_as_keys : (last : List ℕ) (ws : List (Wanted K))
      → entries_bytes (λ last w. key_behind last (encoding w.key)) (λ last w. encoding w.key) last ws ≡ entries_bytes (λ last k. key_behind last (encoding k))
      (λ last k. encoding k) last (map (λ w. w.key) ws)
  entries_as_keys last [] = refl
  entries_as_keys last (w ∷ ws) = ap (λ t. key_behind last (encoding w.key) ++ t) (entries_as_keys (encoding w.key) ws)

  -- a list of wanted keys has the bytes of their list of keys
  pub told_as_keys : (last : List ℕ) (ws : List (Wanted K)) → run_bytes (λ last w. key_behind last (encoding w.key)) (λ last w. encoding w.key) last ws ≡ keys_told encoding last (map (λ w. w.key) ws)
  told_as_keys last ws = ap₂ (λ n t. count_bytes n ++ t) (sym (length-map ws (λ (w : Wanted K). w.key))) (entries_as_keys last ws)
