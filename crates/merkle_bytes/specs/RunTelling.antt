-- Bytes after a key tell the key or the entry that they begin with, and where it ends.
use Rattle.std.proofs.Common.{◌≡◌, ℕ, ◌+◌, ◌-◌, ◌*◌, ◌<◌, ◌≤◌, Bool, true, ◌&&◌, ◌⊎◌, List, [], ◌∷◌, ◌++◌, length, take, drop, Option, Some, None, refl, ap, ap₂, sym, ◌∙◌, inl, inr, arith}
use Rattle.std.proofs.lemmas.Bool.{cases_lt}
use Rattle.std.proofs.lemmas.Bool.Decides.{nat_tests}
use Rattle.std.proofs.lemmas.List.{append_assoc, length-append, length-drop, take-append-drop}
use Rattle.std.specs.Option.{option_eq}
use Rattle.key_order.proofs.ListParts.{join_tells}
use Rattle.merkle_bytes.specs.Counts.{count_bytes, count_told}
use Rattle.merkle_bytes.specs.Keys.{shared, front_bytes, shareable, kept_of, key_behind}
use Rattle.merkle_bytes.specs.Runs.{row_behind, bound_behind, bound_key}

-- what both begin with is the same of both
pub shared_same : (xs ys : List ℕ) → take (shared xs ys) xs ≡ take (shared xs ys) ys
shared_same [] ys = grind arith
shared_same (x ∷ xs) [] = grind arith
shared_same (x ∷ xs) (y ∷ ys) = let rest = shared_same xs ys in grind (arith, nat_tests, rest)

pub shared_within : (xs ys : List ℕ) → (shared xs ys ≤ length xs) × (shared xs ys ≤ length ys)
shared_within [] ys = (omega arith, omega arith)
shared_within (x ∷ xs) [] = (omega arith, omega arith)
shared_within (x ∷ xs) (y ∷ ys) = let rest = shared_within xs ys in (grind (arith, nat_tests, rest.0), grind (arith, nat_tests, rest.1))

-- two counts fit one byte, or one of them doesn't
pub fit_or_not : (kept more : ℕ) → ((kept < 15) × (more < 16)) ⊎ ((15 ≤ kept) ⊎ (16 ≤ more))
fit_or_not kept more = elim (cases_lt kept 15) [
  | inl few ↦ elim (cases_lt more 16) [ inl low ↦ inl (few, low) | inr high ↦ inr (inr high) ]
  | inr many ↦ inr (inl many)
]

pub front_few : (kept more : ℕ) → kept < 15 → more < 16 → front_bytes kept more ≡ (16 * kept + more) ∷ []
unfolding front_bytes
front_few kept more few low = grind (arith, nat_tests)

pub front_long : (kept more : ℕ) → (15 ≤ kept) ⊎ (16 ≤ more) → front_bytes kept more ≡ 240 ∷ (count_bytes kept ++ count_bytes more)
unfolding front_bytes
front_long kept more (inl many) = grind (arith, nat_tests)
front_long kept more (inr high) = grind (arith, nat_tests)

-- bytes that begin with two counts tell both, and what is after them
pub front_told : (kept more kept' more' : ℕ) (r s : List ℕ) → front_bytes kept more ++ r ≡ front_bytes kept' more' ++ s → (kept ≡ kept') × (more ≡ more') × (r ≡ s)
front_told kept more kept' more' r s e = elim (fit_or_not kept more) [
  | inl few ↦ elim (fit_or_not kept' more') [
    | inl few' ↦ (let flat : (16 * kept + more) ∷ r ≡ (16 * kept' + more') ∷ s = ap (λ t. t ++ r) (sym (front_few kept more few.0 few.1)) ∙ e
        ∙ ap (λ t. t ++ s) (front_few kept' more' few'.0 few'.1) in
        let same : 16 * kept + more ≡ 16 * kept' + more' = cc in
        (omega (arith, same, few.1, few'.1), omega (arith, same, few.1, few'.1), cc))
    | inr long' ↦ (let flat : (16 * kept + more) ∷ r ≡ 240 ∷ ((count_bytes kept' ++ count_bytes more') ++ s) =
        ap (λ t. t ++ r) (sym (front_few kept more few.0 few.1)) ∙ e ∙ ap (λ t. t ++ s) (front_long kept' more' long') in
        let same : 16 * kept + more ≡ 240 = cc in absurd (omega (arith, same, few.0, few.1)))
  ]
  | inr long ↦ elim (fit_or_not kept' more') [
    | inl few' ↦ (let flat : 240 ∷ ((count_bytes kept ++ count_bytes more) ++ r) ≡ (16 * kept' + more') ∷ s =
        ap (λ t. t ++ r) (sym (front_long kept more long)) ∙ e ∙ ap (λ t. t ++ s) (front_few kept' more' few'.0 few'.1) in
        let same : 240 ≡ 16 * kept' + more' = cc in absurd (omega (arith, same, few'.0, few'.1)))
    | inr long' ↦ (let flat : 240 ∷ ((count_bytes kept ++ count_bytes more) ++ r) ≡ 240 ∷ ((count_bytes kept' ++ count_bytes more') ++ s)
        = ap (λ t. t ++ r) (sym (front_long kept more long)) ∙ e ∙ ap (λ t. t ++ s) (front_long kept' more' long') in
        let behind : (count_bytes kept ++ count_bytes more) ++ r ≡ (count_bytes kept' ++ count_bytes more') ++ s = cc in
        let firsts = count_told kept kept' (count_bytes more ++ r) (count_bytes more' ++ s)
        (sym (append_assoc (count_bytes kept) (count_bytes more) r) ∙ behind ∙ append_assoc (count_bytes kept') (count_bytes more') s) in
        let seconds = count_told more more' r s firsts.1 in
        (firsts.0, seconds.0, seconds.1))
  ]
]

-- a key is what it shares with the one before, and its rest
pub key_parts : (last key : List ℕ) → key ≡ take (shared last key) last ++ drop (shared last key) key
key_parts last key = sym (take-append-drop (shared last key) key) ∙ ap (λ t. t ++ drop (shared last key) key) (sym (shared_same last key))

-- bytes that begin with those of a key after another tell its bytes, and what is after it
pub behind_told : (last a b r s : List ℕ) → key_behind last a ++ r ≡ key_behind last b ++ s → (a ≡ b) × (r ≡ s)
unfolding key_behind
behind_told last a b r s e =
    let m = kept_of last a in
    let n = kept_of last b in
    let flat = sym (append_assoc (front_bytes m (length a - m)) (drop m a) r) ∙ e ∙ append_assoc (front_bytes n (length b - n)) (drop n b) s in
    let fronts = front_told m (length a - m) n (length b - n) (drop m a ++ r) (drop n b ++ s) flat in
    let long : length (drop m a) ≡ length (drop n b) = omega (arith, length-drop m a, length-drop n b, fronts.0, fronts.1) in
    let rests = join_tells (drop m a) (drop n b) r s long fronts.2 in
    (key_parts (shareable last) a ∙ ap₂ (λ i t. take i (shareable last) ++ t) fronts.0 rests.0 ∙ sym (key_parts (shareable last) b), rests.1)

-- there is a byte
pub behind_some : (last a : List ℕ) → 1 ≤ length (key_behind last a)
unfolding key_behind
behind_some last a = elim (fit_or_not (kept_of last a) (length a - kept_of last a)) [
  | inl few ↦ omega (
    arith,
    ap length (front_few (kept_of last a) (length a - kept_of last a) few.0 few.1),
    length-append (front_bytes (kept_of last a) (length a - kept_of last a)) (drop (kept_of last a) a),
  )
  | inr long ↦ omega (
    arith,
    ap length (front_long (kept_of last a) (length a - kept_of last a) long),
    length-append (front_bytes (kept_of last a) (length a - kept_of last a)) (drop (kept_of last a) a),
  )
]

module _ {K : Type 0} (encoding : K → List ℕ) (eq : K → K → Bool)
    (told : (x y : K) (r s : List ℕ) → encoding x ++ r ≡ encoding y ++ s → (eq x y ≡ true) × (r ≡ s)) where
  -- keys with the same bytes are equal
  pub same_key : (x y : K) → encoding x ≡ encoding y → eq x y ≡ true
  same_key x y e = (told x y [] [] (ap (λ t. t ++ []) e)).0

  -- bytes after a key tell the key that they begin with, its bytes, and what is after it
  pub key_told : (last : List ℕ) (x y : K) (r s : List ℕ) → key_behind last (encoding x) ++ r ≡ key_behind last (encoding y) ++ s
      → (eq x y ≡ true) × (encoding x ≡ encoding y) × (r ≡ s)
  key_told last x y r s e =
      let both = behind_told last (encoding x) (encoding y) r s e in
      (same_key x y both.0, both.0, both.1)

  -- so do they of a key that may be absent
  pub bound_told : (last : List ℕ) (x y : Option K) (r s : List ℕ) → bound_behind encoding last x ++ r ≡ bound_behind encoding last y ++ s
      → (option_eq eq x y ≡ true) × (bound_key encoding last x ≡ bound_key encoding last y) × (r ≡ s)
  bound_told last None None r s e = let flat : 0 ∷ r ≡ 0 ∷ s = e in (refl, refl, cc)
  bound_told last None (Some y) r s e = absurd (let flat : 0 ∷ r ≡ 1 ∷ (key_behind last (encoding y) ++ s) = e in cc)
  bound_told last (Some x) None r s e = absurd (let flat : 1 ∷ (key_behind last (encoding x) ++ r) ≡ 0 ∷ s = e in cc)
  bound_told last (Some x) (Some y) r s e =
      let flat : 1 ∷ (key_behind last (encoding x) ++ r) ≡ 1 ∷ (key_behind last (encoding y) ++ s) = e in
      let rest : key_behind last (encoding x) ++ r ≡ key_behind last (encoding y) ++ s = cc in
      key_told last x y r s rest

  module _ {V : Type 0} (values : V → List ℕ) (eq_value : V → V → Bool)
      (told_value : (x y : V) (r s : List ℕ) → values x ++ r ≡ values y ++ s → (eq_value x y ≡ true) × (r ≡ s)) where
    -- and of a row
    pub row_told : (last : List ℕ) (x y : K × V) (r s : List ℕ)
        → row_behind encoding values last x ++ r ≡ row_behind encoding values last y ++ s → (eq x.0 y.0 && eq_value x.1 y.1 ≡ true) × (encoding x.0 ≡ encoding y.0) × (r ≡ s)
    row_told last x y r s e =
        let keys = key_told last x.0 y.0 (values x.1 ++ r) (values y.1 ++ s)
        (sym (append_assoc (key_behind last (encoding x.0)) (values x.1) r) ∙ e ∙ append_assoc (key_behind last (encoding y.0)) (values y.1) s) in
        let rest = told_value x.1 y.1 r s keys.2 in
        (ap₂ (λ a b. a && b) keys.0 rest.0, keys.1, rest.1)

module _ {K : Type 0} (encoding : K → List ℕ) where
  pub bound_some : (last : List ℕ) (x : Option K) → 1 ≤ length (bound_behind encoding last x)
  bound_some last None = omega arith
  bound_some last (Some x) = omega arith

  pub row_some : {V : Type 0} (values : V → List ℕ) (last : List ℕ) (x : K × V) → 1 ≤ length (row_behind encoding values last x)
  row_some values last x = omega (arith, behind_some last (encoding x.0), length-append (key_behind last (encoding x.0)) (values x.1))
