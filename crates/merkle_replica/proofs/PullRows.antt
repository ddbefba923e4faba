-- One row more of a pull.
use Rattle.std.proofs.Common.{◌≡◌, Bool, true, false, cond, List, [], ◌∷◌, ◌++◌, Some, None, ◌⊎◌, inl, inr}
use Rattle.std.specs.List.{AllByRecursion}
use Rattle.std.specs.Cmp.{IsTotalOrder, IsEquivalence}
use Rattle.std.specs.Ordering.{is_eq}
use Rattle.std.specs.declared.cmp.Ordering.{Ordering}
use Rattle.key_order.specs.Order.{Below, Same}
use Rattle.key_order.specs.Map.{IsMap, get}
use Rattle.key_order.specs.Join.{joined, IsJoin, IsJoining}
use Rattle.key_order.proofs.Bools.{which, is_equal}
use Rattle.key_order.proofs.Orders.{up_low, same_down}
use Rattle.key_order.proofs.Maps.{absent}
use Rattle.key_order.proofs.Values.{Eq, same, back, on, assoc, cong, to_none}

module _ {K V : Type 0} (cmp : K → K → Ordering) (o : IsTotalOrder cmp) (eq : V → V → Bool) (e : IsEquivalence eq) (join : V → V → V) (j : IsJoining eq join) where
  get_more : (front : List (K × V)) (r : K × V) (k : K) → AllByRecursion (λ s. Below cmp s.0 r.0) front
      → Eq eq e join j (joined join (get cmp front k) (get cmp (r ∷ []) k)) (get cmp (front ++ r ∷ []) k)
  get_more [] r k a = same eq e join j (get cmp (r ∷ []) k)
  get_more (s ∷ ss) r k a = go (which (is_eq (cmp s.0 k))) (get_more ss r k a.1)
    where
      go : (is_eq (cmp s.0 k) ≡ false) ⊎ (is_eq (cmp s.0 k) ≡ true) → Eq eq e join j (joined join (get cmp ss k) (get cmp (r ∷ []) k)) (get cmp (ss ++ r ∷ []) k)
          → Eq eq e join j (joined join (get cmp (s ∷ ss) k) (get cmp (r ∷ []) k)) (get cmp ((s ∷ ss) ++ r ∷ []) k)
      go (inl n) h = rw n h
      go (inr n) h =
          let u = is_equal (cmp s.0 k) n in
          let none : get cmp (r ∷ []) k ≡ None = absent cmp o (r ∷ []) k (up_low cmp o k s.0 r.0 (same_down cmp o s.0 k u) a.0, tt) in
          rw (none, n) (to_none eq e join j (Some s.1))

  get_like : (k l : K) (v w : V) (i : K) → Same cmp k l → eq v w ≡ true → Eq eq e join j (get cmp ((k, v) ∷ []) i) (get cmp ((l, w) ∷ []) i)
  get_like k l v w i s h = rw (o.congr k l i s) (go (is_eq (cmp l i)))
    where
      go : (b : Bool) → Eq eq e join j (cond b (Some v) None) (cond b (Some w) None)
      go true = h
      go false = tt

  -- a row with an equal key and an equal value does as well
  pub join_like : (a b : List (K × V)) (k : K) (v : V) (r : K × V) → Same cmp k r.0 → eq v r.1 ≡ true → IsJoin cmp eq join a ((k, v) ∷ []) b → IsJoin cmp eq join a (r ∷ []) b
  join_like a b k v r s h p = record {
    ascending = p.ascending;
    values = λ i.
        on eq e join j (get cmp b i) (joined join (get cmp a i) (get cmp ((k, v) ∷ []) i)) (joined join (get cmp a i) (get cmp (r ∷ []) i)) (p.values i)
        (cong eq e join j (get cmp a i) (get cmp a i) (get cmp ((k, v) ∷ []) i) (get cmp (r ∷ []) i) (same eq e join j (get cmp a i)) (get_like k r.0 v r.1 i s h));
  }

  -- a pull that goes on by one row
  pub join_more : (a c c' front : List (K × V)) (r : K × V) → AllByRecursion (λ s. Below cmp s.0 r.0) front → IsJoin cmp eq join a front c
      → IsJoin cmp eq join c (r ∷ []) c' → IsJoin cmp eq join a (front ++ r ∷ []) c'
  join_more a c c' front r below p q = record {
    ascending = q.ascending;
    values = λ i.
        let A = get cmp a i in
        let F = get cmp front i in
        let R = get cmp (r ∷ []) i in
        on eq e join j (get cmp c' i) (joined join (get cmp c i) R) (joined join A (get cmp (front ++ r ∷ []) i)) (q.values i)
        (on eq e join j (joined join (get cmp c i) R) (joined join (joined join A F) R) (joined join A (get cmp (front ++ r ∷ []) i))
        (cong eq e join j (get cmp c i) (joined join A F) R R (p.values i) (same eq e join j R))
        (on eq e join j (joined join (joined join A F) R) (joined join A (joined join F R)) (joined join A (get cmp (front ++ r ∷ []) i)) (assoc eq e join j A F R)
        (cong eq e join j A A (joined join F R) (get cmp (front ++ r ∷ []) i) (same eq e join j A) (get_more front r i below))));
  }

  -- no row joined
  pub join_none : (a : List (K × V)) → IsMap cmp a → IsJoin cmp eq join a [] a
  join_none a h = record { ascending = h; values = λ i. back eq e join j (joined join (get cmp a i) None) (get cmp a i) (to_none eq e join j (get cmp a i)) }
