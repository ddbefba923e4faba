-- When two replicas are one side, and the laws as a record.
use Rattle.std.proofs.Common.{◌≡◌, ℕ, Bool, List}
use Rattle.std.specs.declared.cmp.Ordering.{Ordering}
use Rattle.merkle_tree_theory.specs.State.{SameSettings}
use Rattle.merkle_replica.specs.Laws.{Laws}
use Rattle.merkle_replica.specs.Contents.{Contents, side, with_rows}

abbrev pub laws_of : {K V H : Type 0} → (K → K → Ordering) → (K → List ℕ) → (H → K → List ℕ) → (V → V → Bool) → (V → V → V) → (H → V → List ℕ) → Laws K V H
laws_of cmp bytes_of key_digest eq join value_digest = record { cmp = cmp; bytes_of = bytes_of; key_digest = key_digest; eq = eq; join = join; value_digest = value_digest }

module _ {K V H : Type 0} (c d : Contents K V H) where
  -- settings and rows stayed
  pub same_side : d.rows ≡ c.rows → SameSettings c.tree d.tree → side d ≡ side c
  same_side r s = λ i. record { hasher = s.0 i; base = s.1 i; format = s.2 i; rows = r i }

  -- the settings stayed
  pub rows_alone : SameSettings c.tree d.tree → side d ≡ with_rows (side c) d.rows
  rows_alone s = λ i. record { hasher = s.0 i; base = s.1 i; format = s.2 i; rows = d.rows }
