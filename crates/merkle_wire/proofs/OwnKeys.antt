-- The first message tells a key of the side that sends it.
use Rattle.std.specs.Prelude.{slice_get}
use Rattle.std.proofs.Common.{◌≡◌, ℕ, ◌<◌, ◌^◌, List, [], ◌∷◌, Option, Some, None, subst, sym}
use Rattle.std.specs.Global.{Vec}
use Rattle.std.specs.Cmp.{IsTotalOrder}
use Rattle.std.specs.Option.{option_map}
use Rattle.std.specs.declared.cmp.Ordering.{Ordering}
use Rattle.key_order.specs.Order.{Same}
use Rattle.key_order.proofs.Maps.{at_head}
use Rattle.merkle_bytes.specs.Options.{IsOption}
use Rattle.merkle_wire.specs.Sessions.{IsKeyOf}
use Rattle.merkle_wire.specs.Settings.{AreSettings}
use Rattle.merkle_wire.specs.declared.settings.Settings.{Settings}

-- a key equal to the first of rows is one of them
pub first_is_key : {K V : Type 0} (cmp : K → K → Ordering) → IsTotalOrder cmp → (rows : List (K × V)) (row : K × V) (key : K) → Some row ≡ slice_get rows 0 → Same cmp row.0 key → IsKeyOf cmp rows key
first_is_key cmp o [] row key first same = absurd (cc)
first_is_key cmp o (r ∷ rs) row key first same =
    let flat : Some row ≡ Some r = first in
    let is : row ≡ r = cc in
    (r.1, at_head cmp o r rs key (subst (λ x. Same cmp x.0 key) is same))

module _ {K : Type 0} (is_key : K → Type 0) where
  key_of_sample : (sample : Option (K × Vec ℕ)) → IsOption is_key (option_map (λ p. p.0) sample) → IsOption (λ p. is_key p.0) sample
  key_of_sample None is = tt
  key_of_sample (Some pair) is = is

  -- settings can be read if the key that they tell can
  pub settings_with_key : (settings : Settings K) (key : Option K) → settings.digest_bytes < 2 ^ 64 → option_map (λ p. p.0) settings.sample ≡ key → IsOption is_key key → AreSettings is_key settings
  settings_with_key settings key few told own = (few, key_of_sample settings.sample (subst (IsOption is_key) (sym told) own))
