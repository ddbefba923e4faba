-- Copies of the rows at keys, and what a join of them leaves.
use Rattle.std.proofs.Common.{◌≡◌, ℕ, zero, suc, ◌+◌, ◌<◌, Bool, true, false, cond, List, [], ◌∷◌, ◌++◌, length, take, get_or, Some, None, refl, sym, ◌∙◌, ap, subst, arith, ◌⊎◌, inl, inr}
use Rattle.std.specs.List.{AllByRecursion}
use Rattle.std.specs.Cmp.{IsTotalOrder, IsEquivalence}
use Rattle.std.specs.Ordering.{is_eq}
use Rattle.std.specs.declared.cmp.Ordering.{Ordering}
use denote.Ref.{Bor}
use Rattle.key_order.specs.Order.{Below, Same, IsAscending}
use Rattle.key_order.specs.Interval.{is_in, is_covered}
use Rattle.key_order.specs.Map.{SameValue, SameMap, IsMap, get, rows_in}
use Rattle.key_order.specs.Join.{joined, IsJoin, IsJoining}
use Rattle.key_order.proofs.Bools.{which, is_equal}
use Rattle.key_order.proofs.Maps.{get_at, get_same, get_by_same, same_by_get}
use Rattle.key_order.proofs.Orders.{up_low, low_up, same_up, same_down, same_from}
use Rattle.key_order.proofs.Spans.{in_from_test, test_from_in, is_covered-same}
use Rattle.key_order.proofs.Values.{on, cong, same}
use Rattle.merkle_replica.specs.CatchUp.{points, AreCopies}
use Rattle.merkle_replica.specs.Descent.{keys_of}
use Rattle.merkle_replica.proofs.Descents.{map_more}
use Rattle.merkle_replica.proofs.Seeks.{map_at}

-- what holds of each key holds of that at a place
pub key_at : {K : Type 0} (P : K → Type 0) (ks : List (Bor K)) (i : ℕ) (k : Bor K) → i < length ks → k ≡ get_or ks i k → AllByRecursion P (keys_of ks) → P k.now
key_at {K = K} P ks i k h e a = subst (λ x. P x.now) (sym e) (go ks i h a)
  where
    go : (xs : List (Bor K)) (n : ℕ) → n < length xs → AllByRecursion P (keys_of xs) → P (get_or xs n k).now
    go [] n h a = absurd (omega arith)
    go (x ∷ xs) zero h a = a.0
    go (x ∷ xs) (suc n) h a = go xs n (omega arith) a.1

module _ {K V : Type 0} (cmp : K → K → Ordering) (o : IsTotalOrder cmp) (eq : V → V → Bool) where
  copies_more : (rows : List (K × V)) (ks : List K) (cs : List (K × V)) (k : K) (c : K × V) → AreCopies cmp eq rows ks cs → Same cmp c.0 k → (v : V)
      × (get cmp rows k ≡ Some v) × (eq c.1 v ≡ true) → AreCopies cmp eq rows (ks ++ k ∷ []) (cs ++ c ∷ [])
  copies_more rows [] [] k c a s h = (s, h, tt)
  copies_more rows [] (d ∷ cs) k c a s h = absurd a
  copies_more rows (j ∷ ks) [] k c a s h = absurd a
  copies_more rows (j ∷ ks) (d ∷ cs) k c a s h = (a.0, a.1, copies_more rows ks cs k c a.2 s h)

  -- one copy more
  pub copies_step : (rows : List (K × V)) (ks : List (Bor K)) (i : ℕ) (k : Bor K) (cs cs' : List (K × V)) (c : K × V) → i < length ks → k ≡ get_or ks i k
      → cs' ≡ cs ++ c ∷ [] → AreCopies cmp eq rows (keys_of (take i ks)) cs
      → Same cmp c.0 k.now × ((v : V) × (get cmp rows k.now ≡ Some v) × (eq c.1 v ≡ true)) → AreCopies cmp eq rows (keys_of (take (i + 1) ks)) cs'
  copies_step rows ks i k cs cs' c h e r a b =
      subst (λ js. AreCopies cmp eq rows js cs') (sym (map_more (λ j. j.now) ks i k h e))
      (subst (AreCopies cmp eq rows (keys_of (take i ks) ++ k.now ∷ [])) (sym r) (copies_more rows (keys_of (take i ks)) cs k.now c a b.0 b.1))

  pub copies_length : (rows : List (K × V)) (ks : List K) (cs : List (K × V)) → AreCopies cmp eq rows ks cs → length cs ≡ length ks
  copies_length rows [] [] a = refl
  copies_length rows [] (c ∷ cs) a = absurd a
  copies_length rows (k ∷ ks) [] a = absurd a
  copies_length rows (k ∷ ks) (c ∷ cs) a = ap suc (copies_length rows ks cs a.2)

  all_above : (rows : List (K × V)) (k : K) (c : K × V) (ks : List K) (cs : List (K × V)) → Same cmp c.0 k → AllByRecursion (λ j. Below cmp k j) ks
      → AreCopies cmp eq rows ks cs → AllByRecursion (λ s. Below cmp c.0 s.0) cs
  all_above rows k c [] [] s b a = tt
  all_above rows k c [] (d ∷ cs) s b a = absurd a
  all_above rows k c (j ∷ ks) [] s b a = absurd a
  all_above rows k c (j ∷ ks) (d ∷ cs) s b a =
      (up_low cmp o c.0 k d.0 (same_up cmp o c.0 k s) (low_up cmp o k j d.0 b.0 (same_down cmp o d.0 j a.0)), all_above rows k c ks cs s b.1 a.2)

  -- copies at ascending keys ascend
  pub copies_map : (rows : List (K × V)) (ks : List K) (cs : List (K × V)) → IsAscending cmp ks → AreCopies cmp eq rows ks cs → IsMap cmp cs
  copies_map rows [] [] u a = tt
  copies_map rows [] (c ∷ cs) u a = absurd a
  copies_map rows (k ∷ ks) [] u a = absurd a
  copies_map rows (k ∷ ks) (c ∷ cs) u a = (all_above rows k c ks cs a.0 u.0 a.2, copies_map rows ks cs u.1 a.2)

  -- what the copies have at a key
  get_copies : (rows : List (K × V)) (ks : List K) (cs : List (K × V)) (q : K) → AreCopies cmp eq rows ks cs
      → SameValue (λ x y. eq x y ≡ true) (get cmp cs q) (cond (is_covered cmp q (points ks)) (get cmp rows q) None)
  get_copies rows [] [] q a = tt
  get_copies rows [] (c ∷ cs) q a = absurd a
  get_copies rows (k ∷ ks) [] q a = absurd a
  get_copies rows (k ∷ ks) (c ∷ cs) q a = go (which (is_eq (cmp c.0 q))) (get_copies rows ks cs q a.2)
    where
      here : is_eq (cmp c.0 q) ≡ true → Same cmp k q
      here e = sym (o.congr c.0 k q a.0) ∙ is_equal (cmp c.0 q) e

      go : (is_eq (cmp c.0 q) ≡ false) ⊎ (is_eq (cmp c.0 q) ≡ true) → SameValue (λ x y. eq x y ≡ true) (get cmp cs q) (cond (is_covered cmp q (points ks)) (get cmp rows q) None)
          → SameValue (λ x y. eq x y ≡ true) (get cmp (c ∷ cs) q) (cond (is_covered cmp q (points (k ∷ ks))) (get cmp rows q) None)
      go (inr e) more =
          let s = here e in
          let inside : is_in cmp q (record { first = k; last = k }) ≡ true = test_from_in cmp o q (record { first = k; last = k }) (same_up cmp o k q s, same_down cmp o k q s) in
          rw (e, inside, sym (get_same cmp o rows k q s), a.1.1) a.1.2
      go (inl e) more = by (which (is_in cmp q (record { first = k; last = k })))
        where
          by : (is_in cmp q (record { first = k; last = k }) ≡ false) ⊎ (is_in cmp q (record { first = k; last = k }) ≡ true)
              → SameValue (λ x y. eq x y ≡ true) (get cmp (c ∷ cs) q) (cond (is_covered cmp q (points (k ∷ ks))) (get cmp rows q) None)
          by (inl f) = rw (e, f) more
          by (inr f) =
              let i = in_from_test cmp o q (record { first = k; last = k }) f in
              let s = same_from cmp o k q i.0 i.1 in
              let t : is_eq (cmp c.0 q) ≡ true = ap is_eq (o.congr c.0 k q a.0 ∙ s) in
              let never : false ≡ true = sym e ∙ t in
              absurd (cc)

  -- so they are the rows at the keys
  pub copies_are : (rows : List (K × V)) (ks : List K) (cs : List (K × V)) → IsMap cmp rows → IsAscending cmp ks → AreCopies cmp eq rows ks cs
      → SameMap cmp (λ x y. eq x y ≡ true) cs (rows_in cmp (points ks) rows)
  copies_are rows ks cs m u a =
      same_by_get cmp o (λ x y. eq x y ≡ true) cs (rows_in cmp (points ks) rows) (copies_map rows ks cs u a) (map_at cmp o (λ k. is_covered cmp k (points ks)) rows m)
      (λ q. subst (SameValue (λ x y. eq x y ≡ true) (get cmp cs q)) (sym (get_at cmp o (λ k. is_covered cmp k (points ks)) (is_covered-same cmp o (points ks)) rows q)) (get_copies rows ks cs q a))

module _ {K V : Type 0} (cmp : K → K → Ordering) (o : IsTotalOrder cmp) where
  pub take_same : (R : V → V → Type 0) (n : ℕ) (xs ys : List (K × V)) → SameMap cmp R xs ys → SameMap cmp R (take n xs) (take n ys)
  take_same R zero xs ys s = tt
  take_same R (suc n) [] [] s = tt
  take_same R (suc n) [] (y ∷ ys) s = absurd s
  take_same R (suc n) (x ∷ xs) [] s = absurd s
  take_same R (suc n) (x ∷ xs) (y ∷ ys) s = (s.0, s.1, take_same R n xs ys s.2)

  -- equal rows do as well
  pub join_same : (eq : V → V → Bool) (e : IsEquivalence eq) (join : V → V → V) (j : IsJoining eq join) (a xs ys c : List (K × V))
      → SameMap cmp (λ x y. eq x y ≡ true) xs ys → IsJoin cmp eq join a xs c → IsJoin cmp eq join a ys c
  join_same eq e join j a xs ys c s p = record {
    ascending = p.ascending;
    values = λ k.
        on eq e join j (get cmp c k) (joined join (get cmp a k) (get cmp xs k)) (joined join (get cmp a k) (get cmp ys k)) (p.values k)
        (cong eq e join j (get cmp a k) (get cmp a k) (get cmp xs k) (get cmp ys k) (same eq e join j (get cmp a k)) (get_by_same cmp o (λ x y. eq x y ≡ true) xs ys s k));
  }
