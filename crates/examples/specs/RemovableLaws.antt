-- Equal values that can be removed are one, and so they feed equal bytes.
use Rattle.std.proofs.Common.{◌≡◌, true, ◌&&◌, nat_eq, ap}
use Rattle.std.proofs.Math.Bool.{beq}
use Rattle.std.proofs.lemmas.Bool.{eqb-true, and_parts}
use Rattle.std.specs.Cmp.{booleans_Decides}
use Rattle.examples.specs.Removable.{removable_bytes}
use Rattle.examples.specs.declared.removable.Removable.{Removable}

exact : (a b : Removable) → nat_eq a.time b.time && (beq a.removed b.removed && nat_eq a.value b.value) ≡ true → a ≡ b
exact a b h =
    let (t, rest) = and_parts (nat_eq a.time b.time) (beq a.removed b.removed && nat_eq a.value b.value) h in
    let (r, v) = and_parts (beq a.removed b.removed) (nat_eq a.value b.value) rest in
    λ i. record { time = eqb-true a.time b.time t i; removed = (booleans_Decides a.removed b.removed).0 r i; value = eqb-true a.value b.value v i }

pub same_removable_bytes : (a b : Removable) → nat_eq a.time b.time && (beq a.removed b.removed && nat_eq a.value b.value) ≡ true → removable_bytes a ≡ removable_bytes b
same_removable_bytes a b h = ap removable_bytes (exact a b h)
