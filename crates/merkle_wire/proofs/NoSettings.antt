-- Bytes at whose front no settings stand, and where settings end.
use Rattle.std.specs.Prelude.{⊤}
use Rattle.std.proofs.Common.{◌≡◌, ◌≢◌, ℕ, ◌<◌, ◌^◌, Bool, true, List, [], ◌∷◌, ◌++◌, append_assoc, length, get_or, Option, Some, None, refl, sym, ap, ◌∙◌, arith}
use Rattle.std.specs.Global.{Vec}
use Rattle.merkle_bytes.specs.Counts.{count_bytes, count_told}
use Rattle.merkle_bytes.specs.Encodings.{string_encoding}
use Rattle.merkle_bytes.specs.Options.{IsOption, option_bytes, option_told}
use Rattle.merkle_bytes.specs.Refusals.{IsRefusal}
use Rattle.merkle_bytes.specs.Telling.{string_told}
use Rattle.merkle_bytes.specs.declared.error.ReadError.{ReadError}
use Rattle.merkle_bytes.proofs.Later.{refused_later, total_was}
use Rattle.merkle_tree_theory.specs.declared.page_format.PageFormat.{PageFormat}
use Rattle.merkle_wire.specs.Settings.{format_byte, settings_bytes, AreSettings}
use Rattle.merkle_wire.specs.declared.settings.Settings.{Settings}
use Rattle.merkle_bytes.specs.Reading.{BeginsWithNo}

-- what was refused after what was read was refused
pub refused_behind : (total now : ℕ) (all front left : List ℕ) (error : ReadError) → all ≡ front ++ left → now ≡ total → IsRefusal now left error → IsRefusal total all error
refused_behind total now all front left error e same refused = refused_later total all front left error e (total_was now total left error same refused)

-- two bytes were read, one after the other
pub two_read : (xs ys left middle rest : List ℕ) → length xs ≡ 1 → length ys ≡ 1 → left ≡ xs ++ middle → middle ≡ ys ++ rest → left ≡ get_or xs 0 0 ∷ get_or ys 0 0 ∷ rest
two_read [] ys left middle rest one other e f = absurd (omega (arith, one))
two_read (a ∷ x ∷ xs) ys left middle rest one other e f = absurd (omega (arith, one))
two_read (a ∷ []) [] left middle rest one other e f = absurd (omega (arith, other))
two_read (a ∷ []) (b ∷ x ∷ ys) left middle rest one other e f = absurd (omega (arith, other))
two_read (a ∷ []) (b ∷ []) left middle rest one other e f = e ∙ ap (λ t. a ∷ t) f

-- the second byte and what is after it
pub same_behind : (a b c d : ℕ) (r s : List ℕ) → a ∷ b ∷ r ≡ c ∷ d ∷ s → (b ≡ d) × (r ≡ s)
same_behind a b c d r s e = let f : b ∷ r ≡ d ∷ s = cc in (cc, cc)

module _ {K : Type 0} (encoding : K → List ℕ) where
  -- a key and its digest
  abbrev pub pair_bytes : K × Vec ℕ → List ℕ
  pair_bytes p = encoding p.0 ++ string_encoding p.1.items

  -- a sample, or none
  abbrev pub sample_bytes : Option (K × Vec ℕ) → List ℕ
  sample_bytes = option_bytes pair_bytes

  -- the bytes of settings after their first two
  pub settings_behind : (s t : Settings K) (a b : ℕ) (l r : List ℕ) → a ∷ b ∷ l ≡ settings_bytes encoding t ++ r
      → (b ≡ format_byte t.page_format) × (l ≡ count_bytes t.digest_bytes ++ (sample_bytes t.sample ++ r))
  settings_behind s t a b l r e =
      let sample = sample_bytes t.sample in
      let both = same_behind a b t.level_base (format_byte t.page_format) l ((count_bytes t.digest_bytes ++ sample) ++ r) e in
      (both.0, both.1 ∙ append_assoc (count_bytes t.digest_bytes) sample r)

module _ {K : Type 0} (encoding : K → List ℕ) (is_value : K → Type 0) where
  pub no_format : (a b : ℕ) (left : List ℕ) → ((format : PageFormat) → b ≢ format_byte format) → BeginsWithNo (settings_bytes encoding) (AreSettings is_value) (a ∷ b ∷ left)
  no_format a b left none s rest of e = none s.page_format (settings_behind encoding s s a b left rest e).0

  pub no_number : (a b : ℕ) (left : List ℕ) → ((count : ℕ) (rest : List ℕ) → count < 2 ^ 64 → left ≢ count_bytes count ++ rest)
      → BeginsWithNo (settings_bytes encoding) (AreSettings is_value) (a ∷ b ∷ left)
  no_number a b left none s rest of e = none s.digest_bytes (sample_bytes encoding s.sample ++ rest) of.0 (settings_behind encoding s s a b left rest e).1

  with_digest : (x : Option (K × Vec ℕ)) → IsOption (λ p. is_value p.0) x → IsOption (λ p. is_value p.0 × ⊤) x
  with_digest None of = tt
  with_digest (Some p) of = (of, tt)

  pub no_sample : (a b n : ℕ) (left : List ℕ) → ((sample : Option (K × Vec ℕ)) (rest : List ℕ) → IsOption (λ p. is_value p.0 × ⊤) sample → left ≢ sample_bytes encoding sample ++ rest)
      → BeginsWithNo (settings_bytes encoding) (AreSettings is_value) (a ∷ b ∷ (count_bytes n ++ left))
  no_sample a b n left none s rest of e =
      none s.sample rest (with_digest s.sample of.1) (count_told n s.digest_bytes left (sample_bytes encoding s.sample ++ rest) (settings_behind encoding s s a b (count_bytes n ++ left) rest e).1).1

module _ {K : Type 0} (encoding : K → List ℕ) (eq : K → K → Bool) (told : (x y : K) (r s : List ℕ) → encoding x ++ r ≡ encoding y ++ s → (eq x y ≡ true) × (r ≡ s)) where
  pair_ends : (x y : K × Vec ℕ) (r s : List ℕ) → pair_bytes encoding x ++ r ≡ pair_bytes encoding y ++ s → (true ≡ true) × (r ≡ s)
  pair_ends x y r s e =
      let a = string_encoding x.1.items in
      let b = string_encoding y.1.items in
      let keys = told x.0 y.0 (a ++ r) (b ++ s) (sym (append_assoc (encoding x.0) a r) ∙ e ∙ append_assoc (encoding y.0) b s) in
      (refl, (string_told x.1.items y.1.items r s keys.1).1)

  -- settings tell where they end
  pub settings_end : (x y : Settings K) (r s : List ℕ) → settings_bytes encoding x ++ r ≡ settings_bytes encoding y ++ s → r ≡ s
  settings_end x y r s e =
      let a = sample_bytes encoding x.sample in
      let b = sample_bytes encoding y.sample in
      let behind = (settings_behind encoding x y x.level_base (format_byte x.page_format) ((count_bytes x.digest_bytes ++ a) ++ r) s e).1 in
      let counts = count_told x.digest_bytes y.digest_bytes (a ++ r) (b ++ s) (sym (append_assoc (count_bytes x.digest_bytes) a r) ∙ behind) in
      (option_told (pair_bytes encoding) (λ _ _. true) pair_ends x.sample y.sample r s counts.1).1
