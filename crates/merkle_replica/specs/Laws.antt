-- What pulls need to know of keys and values.
use Rattle.std.specs.Prelude.{ℕ, Bool, List}
use Rattle.std.specs.declared.cmp.Ordering.{Ordering}

-- the order of keys, their bytes, and their digests under a hasher; the equality of values, their join, and their digests under a hasher
pub record Laws (K V H : Type 0) : Type 0 where
  pub cmp : K → K → Ordering
  pub bytes_of : K → List ℕ
  pub key_digest : H → K → List ℕ
  pub eq : V → V → Bool
  pub join : V → V → V
  pub value_digest : H → V → List ℕ
