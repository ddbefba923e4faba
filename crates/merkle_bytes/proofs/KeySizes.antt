-- How many bytes a key has at most, by those that stand for it.
use Rattle.std.proofs.Common.{◌≡◌, ℕ, ◌+◌, ◌-◌, ◌*◌, ◌/◌, ◌≤◌, List, [], ◌∷◌, ◌++◌, length, drop, sum_by, refl, ap, inl, inr, arith}
use Rattle.std.proofs.lemmas.Bool.{cases_lt}
use Rattle.std.proofs.lemmas.List.{length-append, length-drop}
use Rattle.std.proofs.lemmas.List.Sums.{sum_by-cons}
use Rattle.merkle_bytes.specs.Counts.{count_bytes, bits_more, bits_some, count_some}
use Rattle.merkle_bytes.specs.Keys.{front_bytes, shareable, kept_of, key_behind}
use Rattle.merkle_bytes.specs.Runs.{entries_bytes, row_behind, row_key}
use Rattle.merkle_bytes.specs.RunTelling.{fit_or_not, front_few, front_long, shared_within}
use Rattle.merkle_bytes.proofs.KeyParts.{kept_few}

-- a count of 128 or more has two bytes
count_two : (n : ℕ) → 128 ≤ n → 2 ≤ length (count_bytes n)
unfolding count_bytes
count_two n high = omega (arith, ap length (bits_more 9 n (omega arith) high), bits_some 8 (n / 128))

-- at most 255 bytes that are kept are few beside the bytes of the counts
kept_bounded : (kept more : ℕ) → kept ≤ 255 → (kept ≤ 251 + length (front_bytes kept more)) × (kept ≤ 64 * length (front_bytes kept more))
kept_bounded kept more few = elim (fit_or_not kept more) [
  | inl short ↦ (let one = ap length (front_few kept more short.0 short.1) in (omega (arith, short.0, one), omega (arith, short.0, one)))
  | inr long ↦ (let both : length (front_bytes kept more) ≡ 1 + length (count_bytes kept) + length (count_bytes more) =
      omega (arith, ap length (front_long kept more long), length-append (count_bytes kept) (count_bytes more)) in
      elim (cases_lt kept 128) [
        | inl low ↦ (omega (arith, low, both), omega (arith, low, both, count_some kept, count_some more))
        | inr high ↦ (let two = count_two kept high in (omega (arith, few, both, two, count_some more), omega (arith, few, both, two, count_some more)))
      ])
]

-- a key has at most 251 bytes more than stand for it, and at most 64 times as many
pub key_bounded : (last key : List ℕ) → (length key ≤ 251 + length (key_behind last key)) × (length key ≤ 64 * length (key_behind last key))
unfolding key_behind
key_bounded last key =
    let kept = kept_of last key in
    let front = front_bytes kept (length key - kept) in
    let few = kept_bounded kept (length key - kept) (kept_few last key) in
    let parts : length (key_behind last key) ≡ length front + (length key - kept) = omega (arith, length-append front (drop kept key), length-drop kept key) in
    let within = (shared_within (shareable last) key).1 in
    (omega (arith, few.0, parts, within), omega (arith, few.1, parts, within))

-- the keys of rows have at most 64 times the bytes that stand for the rows
pub rows_bounded : {K V : Type 0} (encoding : K → List ℕ) (values : V → List ℕ) (last : List ℕ) (rows : List (K × V))
    → sum_by (λ row. length (encoding row.0)) rows ≤ 64 * length (entries_bytes (row_behind encoding values) (row_key encoding) last rows)
rows_bounded encoding values last [] = omega arith
rows_bounded encoding values last (row ∷ rows) =
    let key = key_behind last (encoding row.0) in
    let value = values row.1 in
    let rest = entries_bytes (row_behind encoding values) (row_key encoding) (encoding row.0) rows in
    let all : length (entries_bytes (row_behind encoding values) (row_key encoding) last (row ∷ rows)) ≡ length ((key ++ value) ++ rest) = refl in
    omega (
      arith,
      all,
      sum_by-cons (λ row. length (encoding row.0)) row rows,
      (key_bounded last (encoding row.0)).1,
      rows_bounded encoding values (encoding row.0) rows,
      length-append key value,
      length-append (key ++ value) rest,
    )
