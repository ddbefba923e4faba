-- Room for the bits of counts.
use Rattle.std.proofs.Common.{◌≡◌, ℕ, zero, suc, ◌-◌, ◌*◌, ◌/◌, ◌^◌, ◌<◌, arith, sym, subst, pow-suc}

-- of a number with room its higher bits have room
pub fewer_bits : (more n : ℕ) → 0 < more → n < 2 * 128 ^ more → n / 128 < 2 * 128 ^ (more - 1)
fewer_bits zero n some low = absurd (omega arith)
fewer_bits (suc more) n some low =
    let less : suc more - 1 ≡ more = omega arith in
    subst (λ m. n / 128 < 2 * 128 ^ m) (sym less) (omega (arith, pow-suc 128 more))
