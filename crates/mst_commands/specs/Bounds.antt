-- Which keys a list shows.
use Rattle.std.specs.Prelude.{ℕ, nat_eq, Bool, true, ◌&&◌, List, Option}
use Rattle.std.specs.Cmp.Lexicographic.{slice_cmp}
use Rattle.std.specs.List.{starts_with}
use Rattle.std.specs.Option.{option_copied, option_map_or}
use Rattle.std.specs.Ordering.{is_le, nat_cmp}
use Rattle.mst_commands.specs.declared.bounds.Bounds.{Bounds}

-- whether a text is at most another, by the order of bytes
abbrev pub text_upto : List ℕ → List ℕ → Bool
text_upto a b = is_le (slice_cmp nat_cmp a b)

-- whether a key is at least the first, at most the last, and begins with the bytes of the prefix, where these are given
abbrev pub are_around : Option (List ℕ) → Option (List ℕ) → Option (List ℕ) → List ℕ → Bool
are_around first last prefix key =
    option_map_or (λ from. text_upto from key) first true && (option_map_or (λ to. text_upto key to) last true && option_map_or (λ front. starts_with nat_eq key front) prefix true)

-- whether a key is within the bounds
abbrev pub is_in_bounds : Bounds → List ℕ → Bool
is_in_bounds bounds key = are_around (option_copied bounds.first) (option_copied bounds.last) (option_copied bounds.prefix) key
