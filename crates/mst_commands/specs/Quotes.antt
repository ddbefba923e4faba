-- The quotes of a text of CSV, by RFC 4180.
use Rattle.std.specs.Prelude.{◌==◌, ◌||◌, ℕ, nat_eq, Bool, true, false, cond, List, [], ◌∷◌, drop, Option, Some, None, option_and_then, if◌then◌else◌}
use Rattle.std.specs.List.{starts_with}
use Rattle.mst_commands.specs.declared.quotes.Place.{Place}
use Rattle.mst_commands.specs.declared.quotes.Place.TheVariants.{Start, Plain, Quoted, Closed}

-- whether a byte ends a field that has no quote: a comma, a newline or a carriage return
abbrev pub ends_field : ℕ → Bool
ends_field b = b == 44 || (b == 10 || b == 13)

-- where the byte after this one stands, or none where this one can't stand there: a quote only at the start of a field or between quotes
abbrev pub next_place : Place → ℕ → Option Place
next_place Start b = cond (b == 34) (Some Quoted) (Some (cond (ends_field b) Start Plain))
next_place Plain b = cond (b == 34) None (Some (cond (ends_field b) Start Plain))
next_place Quoted b = Some (cond (b == 34) Closed Quoted)
next_place Closed b = cond (b == 34) (Some Quoted) (cond (ends_field b) (Some Start) None)

-- where the end of these bytes stands, or none where one of them can't stand where it does
abbrev pub end_place : List ℕ → Place → Option Place
end_place [] place = Some place
end_place (b ∷ bs) place = option_and_then (end_place bs) (next_place place b)

-- whether a text may end there: not between quotes
abbrev pub may_end : Option Place → Bool
may_end None = false
may_end (Some Quoted) = false
may_end (Some Start) = true
may_end (Some Plain) = true
may_end (Some Closed) = true

-- a text without the three bytes that say that it is in UTF-8
abbrev pub behind_bom : List ℕ → List ℕ
behind_bom text = if starts_with nat_eq text (239 ∷ 187 ∷ 191 ∷ []) then drop 3 text else text

-- whether each quote of a text stands where one may, and none is open at the end
abbrev pub is_quoted : List ℕ → Bool
is_quoted text = may_end (end_place (behind_bom text) Start)
