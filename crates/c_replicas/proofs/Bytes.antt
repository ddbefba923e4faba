-- The rows of a replica by their bytes, beside the rows themselves.
use Rattle.std.proofs.Common.{◌≡◌, ℕ, Bool, true, false, cond, List, [], ◌∷◌, map, refl, ap, ◌∙◌, Option, Some}
use Rattle.std.specs.Global.{Vec}
use Rattle.std.specs.Option.{option_map}
use Rattle.std.specs.Ordering.{is_eq}
use Rattle.key_order.specs.Map.{get}
use Rattle.c_rows.specs.Values.{by_bytes, value_items}
use Rattle.c_values.specs.Keys.{bytes_cmp, key_items, key_cmp}
use Rattle.c_rows.specs.declared.value.ByteValue.{ByteValue}

map_choice : (b : Bool) (x y : Option ByteValue) → option_map value_items (cond b x y) ≡ cond b (option_map value_items x) (option_map value_items y)
map_choice true x y = refl
map_choice false x y = refl

-- what stands at a key
pub bytes_at : (m : List (Vec ℕ × ByteValue)) (k : Vec ℕ) → option_map value_items (get key_cmp m k) ≡ get bytes_cmp (map by_bytes m) (key_items k)
bytes_at [] k = refl
bytes_at (r ∷ rs) k =
    let here = is_eq (key_cmp r.0 k) in
    map_choice here (Some r.1) (get key_cmp rs k) ∙ ap (cond here (Some (value_items r.1))) (bytes_at rs k)
