-- The join of values, and of maps by the values at each key.
use Rattle.std.specs.Prelude.{◌≡◌, Bool, true, List, Option, Some, None}
use Rattle.std.specs.declared.cmp.Ordering.{Ordering}
use Rattle.key_order.specs.Map.{SameValue, IsMap, get}

-- the laws of a join, by equality: the order, the grouping and the repetition of the joined values don't matter
pub record IsJoining {V : Type 0} (eq : V → V → Bool) (join : V → V → V) : Type 0 where
  pub idempotent : (a : V) → eq (join a a) a ≡ true
  pub commutative : (a b : V) → eq (join a b) (join b a) ≡ true
  pub associative : (a b c : V) → eq (join (join a b) c) (join a (join b c)) ≡ true
  pub respects : (a b c d : V) → eq a b ≡ true → eq c d ≡ true → eq (join a c) (join b d) ≡ true

-- the join of the values that are there
abbrev pub joined : {V : Type 0} → (V → V → V) → Option V → Option V → Option V
joined join None b = b
joined join (Some a) None = Some a
joined join (Some a) (Some b) = Some (join a b)

-- `rows` is a map that has each key of a and of b, with its value there, or with the join where both have it
pub record IsJoin {K V : Type 0} (cmp : K → K → Ordering) (eq : V → V → Bool) (join : V → V → V) (a b rows : List (K × V)) : Type 0 where
  pub ascending : IsMap cmp rows
  pub values : (k : K) → SameValue (λ x y. eq x y ≡ true) (get cmp rows k) (joined join (get cmp a k) (get cmp b k))
