-- Replies by deltas.
use Rattle.std.specs.Prelude.{◌≡◌, ℕ, ◌≤◌, List, length, ⊤}
use Rattle.merkle_delta.specs.Messages.{IsReplyOver}
use Rattle.merkle_delta.specs.declared.hearing.Heard.{Heard}
use Rattle.merkle_delta.specs.declared.hearing.Heard.TheVariants.{Reply, Again}

-- what the reply tells over the chunks has no more bytes than this
abbrev pub AreMostTold : List (List ℕ) → List ℕ → ℕ → Type 0
AreMostTold own reply most = (plain : List ℕ) → IsReplyOver own reply plain → length plain ≤ most

-- the plain reply was heard, or none
abbrev pub IsCarried : List ℕ → Heard → Type 0
IsCarried plain (Reply heard) = heard.items ≡ plain
IsCarried plain (Again question) = ⊤
