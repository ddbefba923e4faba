-- A part of the rows in a gap, as it is read.
use Rattle.std.proofs.Common.{◌≡◌, ℕ, Bool, cond, List, [], ◌∷◌, ◌++◌, ap, sym, ◌∙◌, append_assoc}
use Rattle.merkle_bytes.specs.Runs.{run_bytes, row_behind, row_key}
use Rattle.merkle_wire.specs.Replies.{part_bytes}

module _ {K V : Type 0} (encoding : K → List ℕ) (values : V → List ℕ) where
  pub part_read : (last run : List ℕ) (rows : List (K × V)) (flag whole : Bool) (begun mid left : List ℕ)
      → begun ≡ run_bytes (row_behind encoding values) (row_key encoding) run rows ++ mid → mid ≡ cond flag 1 0 ∷ left
      → run ≡ last → flag ≡ whole → begun ≡ part_bytes encoding values last (record { rows = rows; whole = whole }) ++ left
  part_read last run rows flag whole begun mid left b m r f =
      b ∙ ap (λ t. run_bytes (row_behind encoding values) (row_key encoding) run rows ++ t) (m ∙ ap (λ x. cond x 1 0 ∷ left) f)
      ∙ ap (λ t. run_bytes (row_behind encoding values) (row_key encoding) t rows ++ (cond whole 1 0 ∷ left)) r
      ∙ sym (append_assoc (run_bytes (row_behind encoding values) (row_key encoding) last rows) (cond whole 1 0 ∷ []) left)
