-- Equal registers are one, and so they feed equal bytes.
use Rattle.std.proofs.Common.{◌≡◌, true, ◌&&◌, nat_eq, ap}
use Rattle.std.proofs.lemmas.Bool.{eqb-true, and_parts}
use Rattle.examples.specs.Register.{bytes_of_register}
use Rattle.examples.specs.declared.register.Register.{Register}

pub exact : (a b : Register) → nat_eq a.time b.time && (nat_eq a.writer b.writer && nat_eq a.value b.value) ≡ true → a ≡ b
exact a b h =
    let (t, rest) = and_parts (nat_eq a.time b.time) (nat_eq a.writer b.writer && nat_eq a.value b.value) h in
    let (w, v) = and_parts (nat_eq a.writer b.writer) (nat_eq a.value b.value) rest in
    λ i. record { time = eqb-true a.time b.time t i; writer = eqb-true a.writer b.writer w i; value = eqb-true a.value b.value v i }

pub same_register_bytes : (a b : Register) → nat_eq a.time b.time && (nat_eq a.writer b.writer && nat_eq a.value b.value) ≡ true → bytes_of_register a ≡ bytes_of_register b
same_register_bytes a b h = ap bytes_of_register (exact a b h)
