-- What calls do to the map of a tree of byte strings.
use Rattle.std.specs.Prelude.{◌≡◌, ℕ, Bool, List}
use Rattle.std.specs.Global.{Vec}
use Rattle.key_order.specs.Map.{set, del, has_key}
use Rattle.merkle_tree_theory.specs.State.{State, SameSettings}
use Rattle.c_values.specs.Keys.{bytes_cmp, pairs_of}

-- the map has the key with this digest
pub record IsSetTo {H : Type 0} (key digest : List ℕ) (old new : State (Vec ℕ) H) : Type 0 where
  pub rows : pairs_of new ≡ set bytes_cmp (pairs_of old) key digest
  pub settings : SameSettings old new

-- the map no longer has the key, and whether it had it was answered
pub record IsDel {H : Type 0} (key : List ℕ) (found : Bool) (old new : State (Vec ℕ) H) : Type 0 where
  pub rows : pairs_of new ≡ del bytes_cmp (pairs_of old) key
  pub answer : found ≡ has_key bytes_cmp (pairs_of old) key
  pub settings : SameSettings old new
