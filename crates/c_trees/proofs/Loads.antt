-- What a load makes of the rows that bytes spell.
use Rattle.std.proofs.Common.{◌≡◌, ℕ, List, [], ◌∷◌, ◌++◌, map, sym, ap, subst, ◌∙◌, Result, Ok, Err, IfOk, OnOk}
use Rattle.std.proofs.IntoIterSteps.{takes}
use Rattle.std.specs.Global.{Vec}
use Rattle.std.specs.Iterator.{Yields}
use Rattle.std.specs.List.{AllByRecursion}
use Rattle.std.specs.Ordering.{is_lt}
use Rattle.std.specs.declared.cmp.Ordering.{Ordering}
use Rattle.std.specs.declared.vec.IntoIter.{IntoIter}
use Rattle.key_order.specs.Map.{IsMap}
use Rattle.key_order.specs.Order.{Below}
use Rattle.key_order.proofs.ListParts.{map-first}
use Rattle.merkle_search_tree.specs.Loading.{LoadFails, digests}
use Rattle.merkle_search_tree.specs.declared.load.LoadRefused.{LoadRefused}
use Rattle.merkle_search_tree.specs.declared.load.LoadRefused.TheVariants.{NotAscending}
use Rattle.c_values.specs.Keys.{bytes_cmp, by_key, key_cmp}

-- of a success more holds where it follows
pub on_ok : {T E P Q : Type 0} (r : Result T E) → (P → Q) → OnOk r P → OnOk r Q
on_ok (Ok x) f p = f p
on_ok (Err x) f p = tt

pub if_ok : {T E : Type 0} {P Q R : T → Type 0} (r : Result T E) → ((x : T) → P x → Q x → R x) → IfOk r P → IfOk r Q → IfOk r R
if_ok (Ok x) f p q = f x p q
if_ok (Err x) f p q = tt

-- pairs ascend where pairs ascend that compare alike
module _ {K L X Y : Type 0} (cmp : K → K → Ordering) (other : L → L → Ordering) (f : K × X → L × Y) (alike : (a b : K × X) → other (f a).0 (f b).0 ≡ cmp a.0 b.0) where
  all_to : (r : K × X) (rs : List (K × X)) → AllByRecursion (λ s. Below cmp r.0 s.0) rs → AllByRecursion (λ s. Below other (f r).0 s.0) (map f rs)
  all_to r [] a = tt
  all_to r (s ∷ rs) a = (ap is_lt (alike r s) ∙ a.0, all_to r rs a.1)

  pub map_to : (m : List (K × X)) → IsMap cmp m → IsMap other (map f m)
  map_to [] a = tt
  map_to (r ∷ rs) a = (all_to r rs a.0, map_to rs a.1)

  all_from : (r : K × X) (rs : List (K × X)) → AllByRecursion (λ s. Below other (f r).0 s.0) (map f rs) → AllByRecursion (λ s. Below cmp r.0 s.0) rs
  all_from r [] a = tt
  all_from r (s ∷ rs) a = (sym (ap is_lt (alike r s)) ∙ a.0, all_from r rs a.1)

  pub map_from : (m : List (K × X)) → IsMap other (map f m) → IsMap cmp m
  map_from [] a = tt
  map_from (r ∷ rs) a = (all_from r rs a.0, map_from rs a.1)

-- pairs ascend as the bytes of their keys do
pub by_bytes_ascend : (pairs : List (Vec ℕ × List ℕ)) → IsMap key_cmp pairs → IsMap bytes_cmp (map by_key pairs)
by_bytes_ascend = map_to key_cmp bytes_cmp by_key (λ r s. λ i. key_cmp r.0 s.0)

pub from_bytes_ascend : (pairs : List (Vec ℕ × List ℕ)) → IsMap bytes_cmp (map by_key pairs) → IsMap key_cmp pairs
from_bytes_ascend = map_from key_cmp bytes_cmp by_key (λ r s. λ i. key_cmp r.0 s.0)

module _ (h : List ℕ → List ℕ) (pairs : List (Vec ℕ × List ℕ)) (rows : List (List ℕ × List ℕ)) (e : map by_key pairs ≡ digests h rows) where
  -- the rows ascend where the pairs do that have their keys
  pub rows_ascend : IsMap key_cmp pairs → IsMap bytes_cmp rows
  rows_ascend a = map_from bytes_cmp bytes_cmp (λ r. (r.0, h r.1)) (λ r s. λ i. bytes_cmp r.0 s.0) rows
      (subst (IsMap bytes_cmp) e (by_bytes_ascend pairs a))

  pub pairs_ascend : IsMap bytes_cmp rows → IsMap key_cmp pairs
  pairs_ascend a = from_bytes_ascend pairs
      (subst (IsMap bytes_cmp) (sym e) (map_to bytes_cmp bytes_cmp (λ r. (r.0, h r.1)) (λ r s. λ i. bytes_cmp r.0 s.0) rows a))

-- what came of a vector is in front of what is left of it
pub came : {X A : Type 0} (s t : IntoIter X A) (xs : List X) → Yields takes s xs t → s.rest.items ≡ xs ++ t.rest.items
came s t [] y = ap (λ it. it.rest.items) y
came s t (x ∷ xs) y = y.1.0 ∙ ap (λ rest. x ∷ rest) (came y.0 t xs y.2)

-- pairs that were taken from a vector, and one of which was refused as not ascending, don't ascend
module _ {A : Type 0} (starts : IntoIter (Vec ℕ × List ℕ) A → Type 0) (pairs : List (Vec ℕ × List ℕ)) (whole : (it : IntoIter (Vec ℕ × List ℕ) A) → starts it → it.rest.items ≡ pairs) where
  abbrev Came : List (Vec ℕ × List ℕ) → Type 0
  Came seen = (it : IntoIter (Vec ℕ × List ℕ) A) × (left : IntoIter (Vec ℕ × List ℕ) A) × starts it × Yields takes it seen left

  pub no_ascent : (fault : LoadRefused) (at : ℕ) → fault ≡ NotAscending at → LoadFails key_cmp Came fault → ¬ (IsMap key_cmp pairs)
  no_ascent fault at is refused ascends =
      let fails = subst (LoadFails key_cmp Came) is refused in
      let begins = fails.2 in
      let seen = fails.0 ++ fails.1 ∷ [] in
      let front = sym (whole begins.0 begins.2) ∙ came begins.0 begins.1 seen begins.3 in
      fails.3.1 fails.1.1 (map-first key_cmp seen begins.1.rest.items (subst (IsMap key_cmp) front ascends))
