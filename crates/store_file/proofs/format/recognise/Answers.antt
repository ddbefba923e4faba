use Rattle.std.proofs.Common.{◌≡◌, ◌≢◌, ◌∙◌, ℤ, Result, Ok, Err}
use Rattle.std.specs.Prelude.{IsErrOf, MatchResult}
use Rattle.store_file.specs.declared.fault.StoreFault.{StoreFault}
use Rattle.store_file.specs.declared.fault.StoreFault.TheVariants.{Format}
use Rattle.store_file.specs.declared.format.Note.{Note}
use Rattle.store_file.specs.declared.format.TheConstants.{FORMAT}
use Rattle.store_file.proofs.format.recognise.Goals as goal

other_format : (note : Note) (result : Result Note StoreFault)
    → MatchResult result (λ it. (it ≡ note) × (note.format ≡ FORMAT)) (λ why. (why ≡ Format note.format) × (note.format ≢ FORMAT))
    → (n : ℤ) → IsErrOf result (Format n) → (note.format ≡ n) × (note.format ≢ FORMAT)
other_format note (Ok it) told n is = let none : ⊥ = cc in absurd none
other_format note (Err why) told n is = let (named, other) = told in let same : note.format ≡ n = cc in (same, other)

-- the format is that of the note, and another
pub returns-clause-other : goal.returns-clause-other
returns-clause-other g c n clean is =
    let note = c.in_ok-note.note in
    let (same, another) = other_format note _ c.in_format.ensures n is in
    (note, c.in_ok-note.ensures.noted clean, same, λ e. another (same ∙ e))
