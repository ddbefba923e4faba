-- What a `Builder` is seen as.
use Rattle.std.specs.Prelude.{◌≡◌, ℕ, List, Bool, true, false, refl}
use Rattle.std.specs.Coded.{Coded, coded_ℕ, coded_bool, coded×, code_by}
use Rattle.merkle_digest.specs.SipHash.{zero_key}
use Rattle.merkle_tree_theory.specs.declared.page_format.PageFormat.{PageFormat}
use Rattle.merkle_tree_theory.specs.declared.page_format.PageFormat.TheVariants.{V1, V2}

-- the hasher, the level base and the page format of the trees that are built
pub record Settings (H : Type 0) : Type 0 where
  pub hasher : H
  pub base : ℕ
  pub format : PageFormat

-- SipHash under the zero key, level base 16, and this page format
abbrev pub default_settings : PageFormat → Settings (List ℕ)
default_settings format = record { hasher = zero_key; base = 16; format = format }

abbrev is_second : PageFormat → Bool
is_second V1 = false
is_second V2 = true

abbrev format_at : Bool → PageFormat
format_at false = V1
format_at true = V2

pub format_back : (f : PageFormat) → format_at (is_second f) ≡ f
format_back V1 = refl
format_back V2 = refl

abbrev pub format_code : Coded PageFormat
format_code = code_by Bool coded_bool is_second format_at format_back

abbrev pub settings_code : {H : Type 0} → Coded H → Coded (Settings H)
settings_code {H} h =
    code_by (H × (ℕ × PageFormat)) (coded× h (coded× coded_ℕ format_code)) (λ s. (s.hasher, (s.base, s.format)))
    (λ p. record { hasher = p.0; base = p.1.0; format = p.1.1 }) (λ _. refl)
