-- Which keys a map has, by what is found at them.
use Rattle.std.proofs.Common.{◌≡◌, Bool, true, false, ◌||◌, cond, List, [], ◌∷◌, Option, Some, None, refl, ◌∙◌, ap}
use Rattle.std.specs.Option.{is_some}
use Rattle.std.specs.Cmp.{IsTotalOrder}
use Rattle.std.specs.Ordering.{is_eq, ordering_reverse}
use Rattle.std.specs.declared.cmp.Ordering.{Ordering}
use Rattle.std.specs.declared.cmp.Ordering.TheVariants.{Less, Equal, Greater}
use Rattle.key_order.specs.Map.{SameValue, IsPresent, get, has_key}
use Rattle.key_order.specs.Join.{joined}

pub eq_reverse : (r : Ordering) → is_eq (ordering_reverse r) ≡ is_eq r
eq_reverse Less = refl
eq_reverse Equal = refl
eq_reverse Greater = refl

-- values that are the same are there alike
pub there_alike : {X : Type 0} (R : X → X → Type 0) (a b : Option X) → SameValue R a b → is_some a ≡ is_some b
there_alike R None None h = refl
there_alike R None (Some b) h = absurd h
there_alike R (Some a) None h = absurd h
there_alike R (Some a) (Some b) h = refl

-- a joined value is there where one of the two is
pub there_joined : {X : Type 0} (join : X → X → X) (a b : Option X) → is_some (joined join a b) ≡ is_some a || is_some b
there_joined join None b = refl
there_joined join (Some a) None = refl
there_joined join (Some a) (Some b) = refl

present_there : {X : Type 0} (a : Option X) → IsPresent a → is_some a ≡ true
present_there None p = absurd p
present_there (Some a) p = refl

module _ {K X : Type 0} (cmp : K → K → Ordering) (o : IsTotalOrder cmp) where
  -- a key is there where a value is found
  pub has_get : (m : List (K × X)) (k : K) → has_key cmp m k ≡ is_some (get cmp m k)
  has_get [] k = refl
  has_get (r ∷ rs) k = rw (has_get rs k) (by (is_eq (cmp k r.0)) (is_eq (cmp r.0 k)) (ap is_eq (o.antisymm k r.0) ∙ eq_reverse (cmp r.0 k)))
    where
      by : (p q : Bool) → p ≡ q → p || is_some (get cmp rs k) ≡ is_some (cond q (Some r.1) (get cmp rs k))
      by true true e = refl
      by true false e = absurd (cc)
      by false true e = absurd (cc)
      by false false e = refl

  -- a key with a value is there
  pub has_value : (m : List (K × X)) (k : K) (v : X) → get cmp m k ≡ Some v → has_key cmp m k ≡ true
  has_value m k v e = has_get m k ∙ ap is_some e
