-- Joins of maps, and of a map with one row.
use Rattle.std.proofs.Common.{◌≡◌, Bool, true, false, ◌||◌, cond, List, [], ◌∷◌, Option, Some, None, refl, sym, ap, ◌∙◌, subst, ◌⊎◌, inl, inr}
use Rattle.std.specs.Cmp.{IsTotalOrder, IsEquivalence}
use Rattle.std.specs.Ordering.{is_eq}
use Rattle.std.specs.declared.cmp.Ordering.{Ordering}
use Rattle.key_order.specs.Map.{SameValue, IsMap, get, set, has_key, SameMap}
use Rattle.key_order.specs.Join.{IsJoining, IsJoin, joined}
use Rattle.key_order.proofs.Bools.{which, is_equal}
use Rattle.key_order.proofs.Keys.{has_get, there_alike, there_joined}
use Rattle.key_order.proofs.Maps.{get_same, same_by_get}
use Rattle.key_order.proofs.Sets.{ascending_set, get_set}
use Rattle.key_order.proofs.Values.{Eq, back, on, to_none}

module _ {K V : Type 0} (cmp : K → K → Ordering) (o : IsTotalOrder cmp) (eq : V → V → Bool) (e : IsEquivalence eq) (join : V → V → V) (j : IsJoining eq join) where
  -- setting a key to the join of its value with v joins the row (k, v)
  pub put_joins : (rows : List (K × V)) (k : K) (v stored : V) → IsMap cmp rows → Eq eq e join j (Some stored) (joined join (get cmp rows k) (Some v))
      → IsJoin cmp eq join rows ((k, v) ∷ []) (set cmp rows k stored)
  put_joins rows k v stored a h = record {
    ascending = ascending_set cmp o rows k stored a;
    values = λ i. subst (λ x. Eq eq e join j x (joined join (get cmp rows i) (get cmp ((k, v) ∷ []) i))) (sym (get_set cmp o rows k stored i (Some stored) refl)) (go i (which (is_eq (cmp k i))));
  }
    where
      go : (i : K) → (is_eq (cmp k i) ≡ false) ⊎ (is_eq (cmp k i) ≡ true)
          → Eq eq e join j (cond (is_eq (cmp k i)) (Some stored) (get cmp rows i)) (joined join (get cmp rows i) (cond (is_eq (cmp k i)) (Some v) None))
      go i (inl n) = rw n (back eq e join j (joined join (get cmp rows i) None) (get cmp rows i) (to_none eq e join j (get cmp rows i)))
      go i (inr n) = rw n (subst (λ x. Eq eq e join j (Some stored) (joined join x (Some v))) (get_same cmp o rows k i (is_equal (cmp k i) n)) h)

  -- two joins of the same maps are the same map, place by place
  pub same_joins : (a b c d : List (K × V)) → IsJoin cmp eq join a b c → IsJoin cmp eq join a b d → SameMap cmp (λ x y. eq x y ≡ true) c d
  same_joins a b c d h i = same_by_get cmp o (λ x y. eq x y ≡ true) c d h.ascending i.ascending
      (λ k. let both = joined join (get cmp a k) (get cmp b k) in on eq e join j (get cmp c k) both (get cmp d k) (h.values k) (back eq e join j (get cmp d k) both (i.values k)))

module _ {K V : Type 0} (cmp : K → K → Ordering) (o : IsTotalOrder cmp) (eq : V → V → Bool) (join : V → V → V) where
  -- a join has the keys of both maps, and no others
  pub join_has : (a b c : List (K × V)) → IsJoin cmp eq join a b c → (k : K) → has_key cmp c k ≡ has_key cmp a k || has_key cmp b k
  join_has a b c h k =
      has_get cmp o c k ∙ there_alike (λ x y. eq x y ≡ true) (get cmp c k) (joined join (get cmp a k) (get cmp b k)) (h.values k)
      ∙ there_joined join (get cmp a k) (get cmp b k)
      ∙ (λ i. sym (has_get cmp o a k) i || sym (has_get cmp o b k) i)

  module _ (exact : (x y : V) → eq x y ≡ true → x ≡ y) where
    is_value : (a b : Option V) → SameValue (λ x y. eq x y ≡ true) a b → a ≡ b
    is_value None None h = refl
    is_value None (Some b) h = absurd h
    is_value (Some a) None h = absurd h
    is_value (Some a) (Some b) h = ap Some (exact a b h)

    -- each key has in a join the join of what it has in the two maps
    pub join_at : (a b c : List (K × V)) → IsJoin cmp eq join a b c → (k : K) → get cmp c k ≡ joined join (get cmp a k) (get cmp b k)
    join_at a b c h k = is_value (get cmp c k) (joined join (get cmp a k) (get cmp b k)) (h.values k)
