-- A refusal at the front of bytes, and after what was read.
use Rattle.std.proofs.Common.{◌≡◌, ℕ, ◌-◌, List, [], ◌++◌, length, ap, sym, subst, refl, ◌∙◌}
use Rattle.std.proofs.lemmas.List.{append_assoc}
use Rattle.merkle_bytes.specs.Refusals.{Lacks, IsRefusal}
use Rattle.merkle_bytes.specs.declared.error.Expected.{Expected}
use Rattle.merkle_bytes.specs.declared.error.ReadError.{ReadError}
use Rattle.merkle_bytes.specs.declared.error.ReadError.TheVariants.{Memory, Unexpected}

-- what doesn't stand at the front was refused
pub refused_here : (new total : ℕ) (left : List ℕ) (expected : Expected) (error : ReadError) → new ≡ total → error ≡ Unexpected (new - length left) expected → Lacks expected left
    → IsRefusal total left error
refused_here new total left expected error same is lacks =
    subst (IsRefusal total left) (sym is) ([], left, refl, ap (λ t. t - length left) same, lacks)

-- what was refused after the front was refused
pub refused_later : (total : ℕ) (all front left : List ℕ) (error : ReadError) → all ≡ front ++ left → IsRefusal total left error → IsRefusal total all error
refused_later total all front left Memory e refused = tt
refused_later total all front left (Unexpected offset expected) e (a, rest, is, place, lacks) =
    (front ++ a, rest, e ∙ ap (λ t. front ++ t) is ∙ sym (append_assoc front a rest), place, lacks)

-- where as many bytes there were in all
pub total_was : (new total : ℕ) (left : List ℕ) (error : ReadError) → new ≡ total → IsRefusal new left error → IsRefusal total left error
total_was new total left error same refused = subst (λ t. IsRefusal t left error) same refused
