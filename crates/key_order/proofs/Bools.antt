-- Tests, by cases.
use Rattle.std.proofs.Common.{◌≡◌, Bool, true, false, not, ◌&&◌, refl, ◌⊎◌, inl, inr}
use Rattle.std.specs.Ordering.{is_eq, is_lt, is_gt}
use Rattle.std.specs.declared.cmp.Ordering.{Ordering}
use Rattle.std.specs.declared.cmp.Ordering.TheVariants.{Less, Equal, Greater}

pub which : (b : Bool) → (b ≡ false) ⊎ (b ≡ true)
which false = inl refl
which true = inr refl

pub both_not : (a b : Bool) → not a && not b ≡ true → (a ≡ false) × (b ≡ false)
both_not false false h = (refl, refl)
both_not false true h = cc
both_not true b h = cc

pub and_not : (a b : Bool) → a ≡ false → b ≡ false → not a && not b ≡ true
and_not false false h k = refl
and_not false true h k = cc
and_not true b h k = cc

-- what a test of a comparison tells
pub is_less : (r : Ordering) → is_lt r ≡ true → r ≡ Less
is_less Less h = refl
is_less Equal h = cc
is_less Greater h = cc

pub is_equal : (r : Ordering) → is_eq r ≡ true → r ≡ Equal
is_equal Less h = cc
is_equal Equal h = refl
is_equal Greater h = cc

pub is_greater : (r : Ordering) → is_gt r ≡ true → r ≡ Greater
is_greater Less h = cc
is_greater Equal h = cc
is_greater Greater h = refl
