-- What a key keeps of the one before, and the counts before its rest.
use Rattle.std.proofs.Common.{◌≡◌, ℕ, zero, suc, ◌+◌, ◌-◌, ◌*◌, ◌<◌, ◌≤◌, ◌^◌, ◌⊎◌, true, false, List, [], ◌∷◌, ◌++◌, length, take, drop, refl, ap, ap₂, sym, ◌∙◌, inl, inr, arith}
use Rattle.std.proofs.lemmas.Bool.{cases_eq, eq-eqb, ne_eqb}
use Rattle.std.proofs.lemmas.Bool.Decides.{nat_tests}
use Rattle.std.proofs.lemmas.List.{append_assoc, length-append, length-drop, length-take, take-take}
use Rattle.key_order.proofs.ListParts.{join_tells}
use Rattle.merkle_bytes.specs.Counts.{count_bytes}
use Rattle.merkle_bytes.specs.Keys.{shared, fit_a_byte, front_bytes, shareable, kept_of, key_behind, GoOnApart}
use Rattle.merkle_bytes.specs.RunTelling.{fit_or_not, front_few, front_long, front_told, key_parts, shared_within}

drop_all : (xs : List ℕ) (n : ℕ) → length xs ≤ n → drop n xs ≡ []
drop_all [] zero h = refl
drop_all [] (suc n) h = refl
drop_all (x ∷ xs) zero h = absurd (omega arith)
drop_all (x ∷ xs) (suc n) h = drop_all xs n (omega arith)

none_shared : (xs : List ℕ) → shared xs [] ≡ 0
none_shared [] = refl
none_shared (x ∷ xs) = refl

drop_first : (xs ys : List ℕ) → drop (length xs) (xs ++ ys) ≡ ys
drop_first [] ys = refl
drop_first (x ∷ xs) ys = drop_first xs ys

-- nothing more is shared where one of them has ended
pub shared_end : (xs ys : List ℕ) (n : ℕ) → (length xs ≤ n) ⊎ (length ys ≤ n) → shared xs ys ≡ n + shared (drop n xs) (drop n ys) → n ≡ shared xs ys
shared_end xs ys n (inl short) e = let ended : shared (drop n xs) (drop n ys) ≡ 0 = ap (λ t. shared t (drop n ys)) (drop_all xs n short) in omega (arith, e, ended)
shared_end xs ys n (inr short) e = let ended : shared (drop n xs) (drop n ys) ≡ 0 = ap (shared (drop n xs)) (drop_all ys n short) ∙ none_shared (drop n xs) in omega (arith, e, ended)

-- this many bytes are kept of a part, and no more could be: it ends there, or goes on otherwise than the rest
pub record SharesNoMore (part : List ℕ) (kept : ℕ) (rest : List ℕ) : Type 0 where
  pub within : kept ≤ length part
  pub ends : GoOnApart (drop kept part) rest

-- what is shared shares no more
pub shares_no_more : (part key : List ℕ) → SharesNoMore part (shared part key) (drop (shared part key) key)
shares_no_more part key = record { within = (shared_within part key).0; ends = apart part key }
  where
    apart : (xs ys : List ℕ) → GoOnApart (drop (shared xs ys) xs) (drop (shared xs ys) ys)
    apart [] ys = tt
    apart (x ∷ xs) [] = tt
    apart (x ∷ xs) (y ∷ ys) = elim (cases_eq x y) [
      | inl same ↦ (let rest = apart xs ys in let test = eq-eqb x y same in rw test rest)
      | inr other ↦ (let test = ne_eqb x y other in rw test other)
    ]

-- a key that keeps this many bytes of a part and goes on otherwise shares these
pub shared_kept : (part rest : List ℕ) (kept : ℕ) → SharesNoMore part kept rest → shared part (take kept part ++ rest) ≡ kept
shared_kept [] rest zero no_more = refl
shared_kept [] rest (suc kept) no_more = absurd (omega (arith, no_more.within))
shared_kept (x ∷ xs) [] zero no_more = refl
shared_kept (x ∷ xs) (y ∷ ys) zero no_more = let test = ne_eqb x y no_more.ends in rw test refl
shared_kept (x ∷ xs) rest (suc kept) no_more =
    let test = eq-eqb x x refl in
    rw test (ap suc (shared_kept xs rest kept (record { within = omega (arith, no_more.within); ends = no_more.ends })))

-- a key keeps at most as many bytes of the one before as may be shared
pub kept_few : (last key : List ℕ) → kept_of last key ≤ 255
unfolding shareable
kept_few last key = omega (arith, (shared_within (take 255 last) key).0, length-take 255 last)

-- what is kept of the part of a key that may be shared is kept of the key
pub take_shareable : (key : List ℕ) (kept : ℕ) → kept ≤ length (shareable key) → take kept (shareable key) ≡ take kept key
unfolding shareable
take_shareable key kept within = take-take kept 255 key (omega (arith, within, length-take 255 key))

-- what stands for a key that keeps this many bytes of the last one, and has this rest
pub kept_behind : (last rest : List ℕ) (kept : ℕ) → SharesNoMore (shareable last) kept rest → key_behind last (take kept last ++ rest) ≡ front_bytes kept (length rest) ++ rest
unfolding key_behind
kept_behind last rest kept no_more =
    let part = shareable last in
    let key = take kept last ++ rest in
    let same = take_shareable last kept no_more.within in
    let kept_is : kept_of last key ≡ kept = ap (λ t. shared part (t ++ rest)) (sym same) ∙ shared_kept part rest kept no_more in
    let long : length (take kept last) ≡ kept = omega (arith, ap length same, length-take kept part, no_more.within) in
    let more : length key - kept_of last key ≡ length rest = omega (arith, kept_is, long, length-append (take kept last) rest) in
    let left : drop (kept_of last key) key ≡ rest = ap (λ n. drop n key) (kept_is ∙ sym long) ∙ drop_first (take kept last) rest in
    ap (λ n. front_bytes n (length key - kept_of last key) ++ drop (kept_of last key) key) kept_is ∙ ap (λ m. front_bytes kept m ++ drop (kept_of last key) key) more
    ∙ ap (λ t. front_bytes kept (length rest) ++ t) left

-- the counts of a key begin with one byte, or with the byte 240
pub front_begins : (kept more byte : ℕ) (behind rest : List ℕ) → byte ∷ behind ≡ front_bytes kept more ++ rest
    → ((byte < 240) × (byte ≡ 16 * kept + more) × (behind ≡ rest)) ⊎ ((byte ≡ 240) × ((15 ≤ kept) ⊎ (16 ≤ more)) × (behind ≡ count_bytes kept ++ (count_bytes more ++ rest)))
front_begins kept more byte behind rest e = elim (fit_or_not kept more) [
  | inl few ↦ (let flat : byte ∷ behind ≡ (16 * kept + more) ∷ rest = e ∙ ap (λ t. t ++ rest) (front_few kept more few.0 few.1) in
      let same : byte ≡ 16 * kept + more = cc in inl (omega (arith, same, few.0, few.1), same, cc))
  | inr long ↦ (let flat : byte ∷ behind ≡ 240 ∷ ((count_bytes kept ++ count_bytes more) ++ rest) = e ∙ ap (λ t. t ++ rest) (front_long kept more long) in
      let left : behind ≡ (count_bytes kept ++ count_bytes more) ++ rest = cc in inr (cc, long, left ∙ append_assoc (count_bytes kept) (count_bytes more) rest))
]

-- there is a byte
pub front_some : (kept more : ℕ) → 1 ≤ length (front_bytes kept more)
front_some kept more = elim (fit_or_not kept more) [
  | inl few ↦ omega (arith, ap length (front_few kept more few.0 few.1))
  | inr long ↦ omega (arith, ap length (front_long kept more long))
]

-- both counts fit one byte where the test says so, and else not
pub fits_by_test : (kept more : ℕ) → fit_a_byte kept more ≡ true → (kept < 15) × (more < 16)
fits_by_test kept more e = elim (fit_or_not kept more) [ inl few ↦ few | inr long ↦ absurd (apart long) ]
  where
    apart : (15 ≤ kept) ⊎ (16 ≤ more) → ⊥
    apart (inl many) = grind (arith, nat_tests, e)
    apart (inr high) = grind (arith, nat_tests, e)

pub long_by_test : (kept more : ℕ) → fit_a_byte kept more ≡ false → (15 ≤ kept) ⊎ (16 ≤ more)
long_by_test kept more e = elim (fit_or_not kept more) [ inl few ↦ absurd (grind (arith, nat_tests, e, few.0, few.1)) | inr long ↦ long ]

-- a key after another stands there as its counts and its rest
pub behind_parts : (last key left rest : List ℕ) → left ≡ key_behind last key ++ rest → left ≡ front_bytes (kept_of last key) (length key - kept_of last key) ++ (drop (kept_of last key) key ++ rest)
unfolding key_behind
behind_parts last key left rest e = e ∙ append_assoc (front_bytes (kept_of last key) (length key - kept_of last key)) (drop (kept_of last key) key) rest

-- its counts are few enough for memory
pub counts_fit : (last key left rest : List ℕ) → length left < 2 ^ 64 → left ≡ key_behind last key ++ rest → (kept_of last key < 2 ^ 64) × (length key - kept_of last key < 2 ^ 64)
counts_fit last key left rest low e =
    let front = front_bytes (kept_of last key) (length key - kept_of last key) in
    let more = drop (kept_of last key) key in (
      omega (arith, kept_few last key),
      omega (arith, low, ap length (behind_parts last key left rest e), length-append front (more ++ rest), length-append more rest, length-drop (kept_of last key) key),
    )

-- counts and a rest that stand there are those of the key
pub parts_told : (last key left rest own behind : List ℕ) (kept more : ℕ) → length own ≡ more → left ≡ front_bytes kept more ++ (own ++ behind) → left ≡ key_behind last key ++ rest
    → (kept ≡ kept_of last key) × (own ≡ drop (kept_of last key) key) × (behind ≡ rest)
parts_told last key left rest own behind kept more long is e =
    let s = kept_of last key in
    let fronts = front_told kept more s (length key - s) (own ++ behind) (drop s key ++ rest) (sym is ∙ behind_parts last key left rest e) in
    let rests = join_tells own (drop s key) behind rest (omega (arith, long, fronts.1, length-drop s key)) fronts.2 in
    (fronts.0, rests.0, rests.1)

-- counts that stand there are those of the key, and as many bytes are left as it has more
pub counts_told : (last key left rest behind : List ℕ) (kept more : ℕ) → left ≡ front_bytes kept more ++ behind → left ≡ key_behind last key ++ rest
    → (kept ≡ kept_of last key) × (more ≤ length behind)
counts_told last key left rest behind kept more is e =
    let s = kept_of last key in
    let fronts = front_told kept more s (length key - s) behind (drop s key ++ rest) (sym is ∙ behind_parts last key left rest e) in
    (fronts.0, omega (arith, fronts.1, ap length fronts.2, length-append (drop s key) rest, length-drop s key))

-- a key is what it keeps, and its rest
pub key_is : (last key own : List ℕ) (kept : ℕ) → kept ≡ kept_of last key → own ≡ drop (kept_of last key) key → take kept last ++ own ≡ key
key_is last key own kept is rest =
    let part = shareable last in
    let same : take (kept_of last key) last ≡ take (kept_of last key) part = sym (take_shareable last (kept_of last key) (shared_within part key).0) in
    ap (λ n. take n last ++ own) is ∙ ap₂ (λ t u. t ++ u) same rest ∙ sym (key_parts part key)
