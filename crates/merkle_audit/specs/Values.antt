-- Digests of values, row by row.
use Rattle.std.specs.Prelude.{◌≡◌, Bool, true, List, ℕ, Some}
use Rattle.std.specs.declared.cmp.Ordering.{Ordering}
use Rattle.key_order.specs.Map.{get}
use Rattle.merkle_replica.specs.Contents.{Contents}

module _ {K V H : Type 0} (cmp : K → K → Ordering) (eq : V → V → Bool) (digest_of : H → V → List ℕ) (a b : Contents K V H) where
  -- where b has a value at the key of the row, and the digests of both are equal, each by its own hasher, so are the values
  abbrev pub IsToldApart : K × V → Type 0
  IsToldApart row = (y : V) → get cmp b.rows row.0 ≡ Some y → digest_of a.tree.hasher row.1 ≡ digest_of b.tree.hasher y → eq row.1 y ≡ true

module _ {K V H : Type 0} (digest_of : H → V → List ℕ) (a b : Contents K V H) where
  -- the value of the row has one digest by both hashers
  abbrev pub HasOneDigest : K × V → Type 0
  HasOneDigest row = digest_of a.tree.hasher row.1 ≡ digest_of b.tree.hasher row.1
