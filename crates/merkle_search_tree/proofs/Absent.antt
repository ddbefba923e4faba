-- What the else of a let-else knows: nothing is there.
use Rattle.std.proofs.Common.{◌≡◌, Option, None, Some, refl}

pub none_else : {T : Type 0} (o : Option T) → ((x : T) → o ≡ Some x → ⊥) → o ≡ None
none_else None n = refl
none_else (Some x) n = absurd (n x refl)
