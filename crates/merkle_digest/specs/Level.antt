-- The level of a digest.
use Rattle.std.specs.Prelude.{ℕ, zero, suc, ◌+◌, ◌*◌, ◌%◌, ◌==◌, ◌&&◌, Bool, not, List, length, take, slice_index, min, if◌then◌else◌}
use Rattle.std.specs.List.{list_all}

-- the greatest number up to n that passes the test, or 0
abbrev pub greatest : (ℕ → Bool) → ℕ → ℕ
greatest test zero = 0
greatest test (suc n) = if test (suc n) then suc n else greatest test n

-- how many zero bytes there are at the front: the greatest z whose first z bytes are all zero
unfoldable pub zeros_at_front : List ℕ → ℕ
zeros_at_front bytes = greatest (λ z. list_all (λ byte. byte == 0) (take z bytes)) (length bytes)

-- whether there is a byte after the zero bytes at the front that the base divides
abbrev pub divides_next : List ℕ → ℕ → Bool
divides_next bytes base = not (zeros_at_front bytes == length bytes) && (slice_index bytes (zeros_at_front bytes) % base == 0)

-- the level of a digest in a base: two for each zero byte at the front, one more where the base divides the byte after them, and no more than 255
unfoldable pub level_of : List ℕ → ℕ → ℕ
level_of bytes base = min 255 (2 * zeros_at_front bytes + (if divides_next bytes base then 1 else 0))
