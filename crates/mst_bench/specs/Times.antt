-- The rounds in which a time is taken, and how it is shown.
use Rattle.std.specs.Prelude.{ℕ, ◌/◌, min, max}

-- how many rounds are made of this many things: 400,000 things in all, but at least 3 rounds and at most 200
abbrev pub rounds_of : ℕ → ℕ
rounds_of count = max 3 (min 200 (400000 / max count 1))
