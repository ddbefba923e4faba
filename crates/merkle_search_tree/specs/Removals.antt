-- What a removal leaves.
use Rattle.std.specs.Prelude.{◌≡◌, Option, MatchOption}

-- where something was found, the old is changed so; else it stays
abbrev pub ChangesIfFound : {X Y : Type 0} → (X → X) → X → X → Option Y → Type 0
ChangesIfFound change old new found = MatchOption found (new ≡ old) (λ _. new ≡ change old)
