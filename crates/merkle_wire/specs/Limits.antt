-- How much a catch-up takes of its peer at most.
use Rattle.std.specs.Prelude.{◌≡◌, ℕ, ◌+◌, ◌≤◌, List, Option, Some, None, codes, ⊤}
use Rattle.merkle_wire.specs.declared.limits.Limit.{Limit}
use Rattle.merkle_wire.specs.declared.limits.Limit.TheVariants as limit
use Rattle.merkle_wire.specs.declared.limits.Limits.{Limits}
use Rattle.merkle_wire.specs.declared.session_error.SessionError.{SessionError}
use Rattle.merkle_wire.specs.declared.session_error.SessionError.TheVariants as session

-- no limit
abbrev pub no_limits : Limits
no_limits = record { replies = None; rows = None; bytes = None }

-- a limit allows this many
abbrev pub Allows : Option ℕ → ℕ → Type 0
Allows None number = ⊤
Allows (Some most) number = number ≤ most

-- after this many more, this is left of a limit
abbrev pub IsLeftOf : Option ℕ → ℕ → Option ℕ → Type 0
IsLeftOf None number left = left ≡ None
IsLeftOf (Some most) number left = (rest : ℕ) × (rest + number ≡ most) × (left ≡ Some rest)

-- a reply of this many bytes is one too many, or has too many bytes
abbrev pub IsOverLimit : ℕ → Limits → SessionError → Type 0
IsOverLimit reply limits (session.Limit limit.Replies) = ¬ Allows limits.replies 1
IsOverLimit reply limits (session.Limit limit.Bytes) = ¬ Allows limits.bytes reply
IsOverLimit reply limits _ = ⊥

-- what a limit is of
abbrev pub limit_text : Limit → List ℕ
limit_text limit.Replies = codes "replies"
limit_text limit.Rows = codes "rows"
limit_text limit.Bytes = codes "bytes"
