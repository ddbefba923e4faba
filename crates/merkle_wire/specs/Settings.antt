-- What the digests of two sides rest on.
use Rattle.std.specs.Prelude.{◌≡◌, ℕ, ◌<◌, ◌^◌, List, ◌∷◌, ◌++◌}
use Rattle.merkle_tree_theory.specs.declared.page_format.PageFormat.{PageFormat}
use Rattle.merkle_tree_theory.specs.declared.page_format.PageFormat.TheVariants.{V1, V2}
use Rattle.merkle_bytes.specs.Counts.{count_bytes}
use Rattle.merkle_bytes.specs.Encodings.{string_encoding}
use Rattle.merkle_bytes.specs.Options.{option_bytes, IsOption}
use Rattle.merkle_wire.specs.ItsRows.{Digests}
use Rattle.merkle_wire.specs.declared.settings.Settings.{Settings}

-- the byte of a page format
abbrev pub format_byte : PageFormat → ℕ
format_byte V1 = 1
format_byte V2 = 2

-- the level base, the page format, how many bytes a digest has, and a key with its digest, or none
abbrev pub settings_bytes : {K : Type 0} → (K → List ℕ) → Settings K → List ℕ
settings_bytes encoding s = s.level_base ∷ format_byte s.page_format ∷ (count_bytes s.digest_bytes ++ option_bytes (λ p. encoding p.0 ++ string_encoding p.1.items) s.sample)

-- settings that can be read: the number of bytes of a digest fits, and the key of the sample is a value
abbrev pub AreSettings : {K : Type 0} → (K → Type 0) → Settings K → Type 0
AreSettings is_value s = (s.digest_bytes < 2 ^ 64) × IsOption (λ p. is_value p.0) s.sample

-- these are the settings of a side whose digests have n bytes, as far as they tell: the digest of the sample is that of its key
abbrev pub AreSettingsBy : {K H : Type 0} → (H → K → List ℕ) → ℕ → Digests K H → Settings K → Type 0
AreSettingsBy digest_of n own s = (s.level_base ≡ own.base) × (s.page_format ≡ own.format) × (s.digest_bytes ≡ n) × IsOption (λ p. p.1.items ≡ digest_of own.hasher p.0) s.sample
