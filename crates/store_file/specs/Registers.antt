-- Registers that keep what was written last.
use Rattle.std.specs.Prelude.{ℕ, ◌+◌, ◌^◌, ◌≤◌, max, IsSomeAnd, Any, List, Option, Some, None, option_map, option_and_then, Bool, true}
use Rattle.std.specs.declared.cmp.Ordering.{Ordering}
use Rattle.std.specs.Option.{option_cmp}
use Rattle.std.specs.Ordering.{is_lt, nat_cmp, ordering_then}
use Rattle.key_order.specs.Text.{Text, text_order}
use Rattle.key_order.specs.Map.{get}
use Rattle.store_file.specs.Values.{bytes_of_value, value_order}
use Rattle.store_file.specs.declared.register.Register.{Register}

-- the time of a write over a register: the clock's, or one more than the register's, whichever is later
abbrev pub time_after : Option Register → ℕ → ℕ
time_after None now = now
time_after (Some r) now = max now (r.time + 1)

-- there is a register, and no time of 64 bits is above its own
abbrev pub HasLastTime : Option Register → Type 0
HasLastTime found = IsSomeAnd found (λ r. 2 ^ 64 ≤ r.time + 1)

-- so it is of the register that the rows have for the key
abbrev pub HasLastTimeAt : List (Text × Register) → Text → Type 0
HasLastTimeAt rows key = HasLastTime (get text_order rows key)

-- one of the entries has a time that the database can't hold
abbrev pub HaveLateTime : List (Text × Register) → Type 0
HaveLateTime entries = Any (λ entry. 2 ^ 63 ≤ entry.1.time) entries

-- the bytes of a key's value, where it is there and not removed
abbrev pub bytes_at : List (Text × Register) → Text → Option (List ℕ)
bytes_at rows key = option_and_then (λ r. option_map bytes_of_value r.value) (get text_order rows key)

-- by the time, then by the writer, then by the value, of which a removal is the least
abbrev pub register_order : Register → Register → Ordering
register_order a b = ordering_then (nat_cmp a.time b.time) (ordering_then (text_order a.writer b.writer) (option_cmp value_order a.value b.value))

-- whether a register is later than what the key has
abbrev pub is_later : Option Register → Register → Bool
is_later None r = true
is_later (Some own) r = is_lt (register_order own r)
