-- Byte strings cut into chunks by their bytes alone, so that stretches which two of them share are mostly cut alike.
use Rattle.std.specs.Prelude.{ℕ, ◌+◌, ◌-◌, ◌*◌, ◌%◌, ◌^◌, Bool, ◌&&◌, ◌||◌, nat_eq, nat_le, nat_lt, if◌then◌else◌, List, [], ◌∷◌, map, take, slice_range}
use Rattle.std.specs.Int.{w32, from_le_bytes}
use Rattle.merkle_digest.specs.SipHash.{siphash128, zero_key}

-- the last four bytes as a number, once one more came
abbrev pub window_with : ℕ → ℕ → ℕ
window_with window byte = ((window * 256) % 2 ^ 32 + byte) % 2 ^ 32

-- a chunk of this many bytes ends after these last four: where it has 96; or where it has 16, and four times out of 64
abbrev pub ends_chunk : ℕ → ℕ → Bool
ends_chunk window len = nat_le 96 len || (nat_le 16 len && nat_lt ((window * 2654435761) % 2 ^ 32) (2 ^ 28))

-- where the chunks of the bytes after a place begin and end, where one has begun at `start`
unfoldable pub ranges_from : ℕ → ℕ → ℕ → List ℕ → List (ℕ × ℕ)
ranges_from window start at [] = if (nat_eq start at) then [] else ((start, at) ∷ [])
ranges_from window start at (byte ∷ more) = let now = window_with window byte in
    if (ends_chunk now (at + 1 - start)) then ((start, at + 1) ∷ ranges_from now (at + 1) (at + 1) more) else (ranges_from now start (at + 1) more)

-- the chunks of bytes
abbrev pub chunks_of : List ℕ → List (List ℕ)
chunks_of bytes = map (λ range. slice_range bytes range.0 range.1) (ranges_from 0 0 0 bytes)

-- the digest of bytes: SipHash under the zero key
abbrev pub digest_of : List ℕ → List ℕ
digest_of bytes = siphash128 zero_key bytes

-- the checksum of a chunk: 28 bits of its digest, which as a count have four bytes at most
abbrev pub checksum : List ℕ → ℕ
checksum chunk = from_le_bytes w32 (take 4 (digest_of chunk)) % 2 ^ 28
