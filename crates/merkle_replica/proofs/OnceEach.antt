-- Keys in order, each of equal ones once.
use Rattle.std.proofs.Common.{◌≡◌, ℕ, zero, suc, ◌+◌, ◌-◌, ◌<◌, Bool, true, false, List, [], ◌∷◌, ◌++◌, length, take, get_or, refl, sym, ◌∙◌, ap, subst, arith, ◌⊎◌, inl, inr, add-one}
use Rattle.std.proofs.Math.Nat.{eq-zero-or-pos}
use Rattle.std.proofs.lemmas.List.{get_or_default}
use Rattle.std.specs.List.{AllByRecursion}
use Rattle.std.specs.List.Sorted.{IsPermutation, IsSortedBy}
use Rattle.std.specs.Cmp.{IsTotalOrder, IsStrictWeakOrder, tied_itself}
use Rattle.std.specs.Ordering.{is_lt}
use Rattle.std.specs.declared.cmp.Ordering.{Ordering}
use denote.Ref.{Bor}
use Rattle.key_order.specs.Order.{AnyByRecursion, Upto, Below, Same, IsAscending, below}
use Rattle.key_order.proofs.ListParts.{each-append}
use Rattle.key_order.proofs.Orders.{turned', up_up, up_low, low_is_up, same_up, same_from}
use Rattle.merkle_diff.proofs.Each.{each-with, All-of_each, each-of_All}
use Rattle.std.proofs.lemmas.List.Sorted.{IsPermutation-map, IsPermutation-sym, All-permutation}
use Rattle.merkle_replica.specs.CatchUp.{IsOnceEach, NoneFalls}
use Rattle.merkle_replica.specs.Descent.{keys_of}
use Rattle.merkle_replica.proofs.Descents.{map_more}
use Rattle.merkle_replica.proofs.Rounds.{any-append}

-- the element at a place
pub key_of : {X : Type 0} (xs : List X) (i : ℕ) → i < length xs → (x : X) × (x ≡ get_or xs i x)
key_of [] i h = absurd (omega arith)
key_of (x ∷ xs) zero h = (x, refl)
key_of (x ∷ xs) (suc i) h = key_of xs i (omega arith)

module _ {K : Type 0} (cmp : K → K → Ordering) (o : IsTotalOrder cmp) where
  not_lower : (a b : K) → is_lt (cmp a b) ≡ false → Upto cmp b a
  not_lower a b h = turned' cmp o a b ∙ h

  never_lower : (a b : K) → Upto cmp b a → is_lt (cmp a b) ≡ false
  never_lower a b h = sym (turned' cmp o a b) ∙ h

  -- the order of borrowed keys
  abbrev pub lower_key : Bor K → Bor K → Bool
  lower_key x y = is_lt (cmp x.now y.now)

  pub keys_compare : IsStrictWeakOrder lower_key
  keys_compare = record {
    one_way = λ x y h. never_lower y.now x.now (low_is_up cmp o x.now y.now h);
    chain = λ x y z h k. never_lower x.now z.now (up_up cmp o z.now y.now x.now (not_lower y.now z.now k) (not_lower x.now y.now h));
  }

  -- sorted keys don't fall
  pub sorted_keys : (ks : List (Bor K)) → IsSortedBy lower_key ks → NoneFalls cmp (keys_of ks)
  sorted_keys [] s = tt
  sorted_keys (r ∷ []) s = (tt, tt)
  sorted_keys (r ∷ q ∷ rs) s =
      let rest = sorted_keys (q ∷ rs)
      (λ k d from to. subst (λ n. lower_key (get_or (q ∷ rs) n d) (get_or (q ∷ rs) k d) ≡ false) (sym (add-one k))
      (subst (λ n. lower_key (get_or (r ∷ q ∷ rs) n d) (get_or (q ∷ rs) k d) ≡ false) (add-one (suc k)) (s (suc k) d (omega arith) (omega arith)))) in
      let here : Upto cmp r.now q.now = not_lower q.now r.now (s 0 r (omega arith) (omega arith)) in
      ((here, each-with (λ j. Upto cmp q.now j) (λ j. Upto cmp r.now j) (keys_of rs) (λ j u. up_up cmp o r.now q.now j here u) rest.0), rest)

  -- ---- each of equal keys once

  each_upto : (ks : List K) (i : ℕ) (k : K) → NoneFalls cmp ks → i < length ks → k ≡ get_or ks i k → AllByRecursion (λ j. Upto cmp j k) (take i ks)
  each_upto [] i k f r e = absurd (omega arith)
  each_upto (j ∷ ks) zero k f r e = tt
  each_upto (j ∷ ks) (suc i) k f r e = (subst (Upto cmp j) (sym e) (reach ks i k f.0 (omega arith)), each_upto ks i k f.1 (omega arith) e)
    where
      reach : (xs : List K) (n : ℕ) (d : K) → AllByRecursion (λ x. Upto cmp j x) xs → n < length xs → Upto cmp j (get_or xs n d)
      reach [] n d a r = absurd (omega arith)
      reach (x ∷ xs) zero d a r = a.0
      reach (x ∷ xs) (suc n) d a r = reach xs n d a.1 (omega arith)

  any_more : (P : K → Type 0) (xs ys : List K) → AnyByRecursion P xs → AnyByRecursion P (xs ++ ys)
  any_more P xs ys a = any-append P xs ys (inl a)

  all_any : (ks js more : List K) → AllByRecursion (λ k. AnyByRecursion (Same cmp k) js) ks → AllByRecursion (λ k. AnyByRecursion (Same cmp k) (js ++ more)) ks
  all_any [] js more a = tt
  all_any (k ∷ ks) js more a = (any_more (Same cmp k) js more a.0, all_any ks js more a.1)

  -- a key that is Same as one in a list, all of which are below another, is below it
  pub any_with : (P : K → Type 0) (js : List K) (k : K) → ((j : K) → Same cmp k j → P j → P k) → AnyByRecursion (Same cmp k) js → AllByRecursion P js → P k
  any_with P [] k f a h = absurd a
  any_with P (j ∷ js) k f (inl s) h = f j s h.0
  any_with P (j ∷ js) k f (inr a) h = any_with P js k f a h.1

  pub each_from : (P : K → Type 0) (ks js : List K) → ((k j : K) → Same cmp k j → P j → P k) → AllByRecursion (λ k. AnyByRecursion (Same cmp k) js) ks → AllByRecursion P js → AllByRecursion P ks
  each_from P [] js f a h = tt
  each_from P (k ∷ ks) js f a h = (any_with P js k (f k) a.0 h, each_from P ks js f a.1 h)

  ascending_more : (ks : List K) (k : K) → IsAscending cmp ks → AllByRecursion (λ j. Below cmp j k) ks → IsAscending cmp (ks ++ k ∷ [])
  ascending_more [] k u b = (tt, tt)
  ascending_more (j ∷ ks) k u b = (each-append (λ x. Below cmp j x) ks (k ∷ []) u.0 (b.0, tt), ascending_more ks k u.1 b.1)

  -- one key more: it is above all before it, or equal to the one before it
  pub once_new : (seen once : List K) (k : K) → AllByRecursion (λ j. Below cmp j k) seen → IsOnceEach cmp seen once → IsOnceEach cmp (seen ++ k ∷ []) (once ++ k ∷ [])
  once_new seen once k low r = record {
    ascending = ascending_more once k r.ascending (each_from (λ j. Below cmp j k) once seen (λ a b s l. up_low cmp o a b k (same_up cmp o a b s) l) r.only low);
    only = each-append (λ j. AnyByRecursion (Same cmp j) (seen ++ k ∷ [])) once (k ∷ []) (all_any once seen (k ∷ []) r.only) (any-append (Same cmp k) seen (k ∷ []) (inr (inl (tied_itself o k))), tt);
    all = each-append (λ j. AnyByRecursion (Same cmp j) (once ++ k ∷ [])) seen (k ∷ []) (all_any seen once (k ∷ []) r.all) (any-append (Same cmp k) once (k ∷ []) (inr (inl (tied_itself o k))), tt);
  }

  pub once_old : (seen once : List K) (k j : K) → Same cmp k j → AnyByRecursion (Same cmp j) seen → IsOnceEach cmp seen once → IsOnceEach cmp (seen ++ k ∷ []) once
  once_old seen once k j s a r = record {
    ascending = r.ascending;
    only = all_any once seen (k ∷ []) r.only;
    all = each-append (λ j. AnyByRecursion (Same cmp j) once) seen (k ∷ []) r.all (any_alike once k j s (found seen j a r.all), tt);
  }
    where
      any_alike : (js : List K) (k j : K) → Same cmp k j → AnyByRecursion (Same cmp j) js → AnyByRecursion (Same cmp k) js
      any_alike [] k j s a = a
      any_alike (x ∷ xs) k j s (inl t) = inl (o.congr k j x s ∙ t)
      any_alike (x ∷ xs) k j s (inr a) = inr (any_alike xs k j s a)

      found : (js : List K) (j : K) → AnyByRecursion (Same cmp j) js → AllByRecursion (λ x. AnyByRecursion (Same cmp x) once) js → AnyByRecursion (Same cmp j) once
      found [] j a h = absurd a
      found (x ∷ xs) j (inl t) h = any_alike once j x t h.0
      found (x ∷ xs) j (inr a) h = found xs j a h.1

  -- one place further: the key begins anew, or is equal to the one before it
  module _ (ks : List (Bor K)) (i : ℕ) (once : List K) (f : NoneFalls cmp (keys_of ks)) (within : i < length ks) (r : IsOnceEach cmp (keys_of (take i ks)) once) where
    at : (xs : List (Bor K)) (n : ℕ) (d : Bor K) → n < length xs → (get_or xs n d).now ≡ get_or (keys_of xs) n d.now
    at [] n d h = absurd (omega arith)
    at (x ∷ xs) zero d h = refl
    at (x ∷ xs) (suc n) d h = at xs n d (omega arith)

    taken : (xs : List (Bor K)) (n : ℕ) → take n (keys_of xs) ≡ keys_of (take n xs)
    taken xs zero = refl
    taken [] (suc n) = refl
    taken (x ∷ xs) (suc n) = ap (λ w. x.now ∷ w) (taken xs n)

    mapped : (xs : List (Bor K)) → length (keys_of xs) ≡ length xs
    mapped [] = refl
    mapped (x ∷ xs) = ap suc (mapped xs)

    upto_all : (k : Bor K) → k ≡ get_or ks i k → AllByRecursion (λ j. Upto cmp j k.now) (keys_of (take i ks))
    upto_all k e = subst (AllByRecursion (λ j. Upto cmp j k.now)) (taken ks i) (each_upto (keys_of ks) i k.now f (omega (arith, mapped ks)) (ap (λ x. x.now) e ∙ at ks i k within))

    last_any : (xs : List (Bor K)) (n : ℕ) (d : Bor K) → n < length xs → AnyByRecursion (Same cmp (get_or xs n d).now) (keys_of (take (suc n) xs))
    last_any [] n d h = absurd (omega arith)
    last_any (x ∷ xs) zero d h = inl (tied_itself o x.now)
    last_any (x ∷ xs) (suc n) d h = inr (last_any xs n d (omega arith))

    all_upto_last : (j : ℕ) (d : Bor K) → suc j ≡ i → AllByRecursion (λ x. Upto cmp x (get_or ks j d).now) (keys_of (take i ks))
    all_upto_last j d e =
        let h : j < length ks = omega arith in
        let k = get_or ks j d in
        let before = each_upto (keys_of ks) j k.now f (omega (arith, mapped ks)) (at ks j d h ∙ swap (keys_of ks) j d.now k.now (omega (arith, mapped ks))) in
        let t : keys_of (take i ks) ≡ keys_of (take j ks) ++ k.now ∷ [] = ap (λ n. keys_of (take n ks)) (sym e ∙ sym (add-one j)) ∙ map_more (λ x. x.now) ks j k h (get_or_default ks j d k h) in
        subst (AllByRecursion (λ x. Upto cmp x k.now)) (sym t)
        (each-append (λ x. Upto cmp x k.now) (keys_of (take j ks)) (k.now ∷ []) (subst (AllByRecursion (λ x. Upto cmp x k.now)) (taken ks j) before)
        (same_up cmp o k.now k.now (tied_itself o k.now), tt))
      where
        swap : (xs : List K) (n : ℕ) (a b : K) → n < length xs → get_or xs n a ≡ get_or xs n b
        swap xs n a b h = get_or_default xs n a b h

    pub once_step : (k : Bor K) (b : Bool) → k ≡ get_or ks i k → ((j : ℕ) (d : Bor K) → suc j ≡ i → below cmp (get_or ks j d).now (get_or ks i d).now ≡ b)
        → b ≡ true → IsOnceEach cmp (keys_of (take (i + 1) ks)) (once ++ k.now ∷ [])
    once_step k b e above anew =
        subst (λ xs. IsOnceEach cmp xs (once ++ k.now ∷ [])) (sym (map_more (λ x. x.now) ks i k within e)) (once_new (keys_of (take i ks)) once k.now (low (eq-zero-or-pos i)) r)
      where
        low : (i ≡ 0) ⊎ (0 < i) → AllByRecursion (λ j. Below cmp j k.now) (keys_of (take i ks))
        low (inl z) = subst (λ n. AllByRecursion (λ j. Below cmp j k.now) (keys_of (take n ks))) (sym z) tt
        low (inr p) =
            let n : suc (i - 1) ≡ i = omega (arith, p) in
            let l : Below cmp (get_or ks (i - 1) k).now k.now = subst (λ x. Below cmp (get_or ks (i - 1) k).now x.now) (sym e) (above (i - 1) k n ∙ anew) in
            each-with (λ x. Upto cmp x (get_or ks (i - 1) k).now) (λ x. Below cmp x k.now) (keys_of (take i ks)) (λ x u. up_low cmp o x (get_or ks (i - 1) k).now k.now u l) (all_upto_last (i - 1) k n)

    pub once_stays : (k : Bor K) (b : Bool) → k ≡ get_or ks i k → ((j : ℕ) (d : Bor K) → suc j ≡ i → below cmp (get_or ks j d).now (get_or ks i d).now ≡ b)
        → (i ≡ 0 → b ≡ true) → b ≡ false → IsOnceEach cmp (keys_of (take (i + 1) ks)) once
    once_stays k b e above first again =
        subst (λ xs. IsOnceEach cmp xs once) (sym (map_more (λ x. x.now) ks i k within e)) (go (eq-zero-or-pos i))
      where
        go : (i ≡ 0) ⊎ (0 < i) → IsOnceEach cmp (keys_of (take i ks) ++ k.now ∷ []) once
        go (inl z) = let never : true ≡ false = sym (first z) ∙ again in absurd (cc)
        go (inr p) =
            let n : suc (i - 1) ≡ i = omega (arith, p) in
            let j = (get_or ks (i - 1) k).now in
            let up : Upto cmp k.now j = subst (λ x. Upto cmp x.now j) (sym e) (not_lower j (get_or ks i k).now (above (i - 1) k n ∙ again)) in
            let any : AnyByRecursion (Same cmp j) (keys_of (take i ks)) = subst (λ m. AnyByRecursion (Same cmp j) (keys_of (take m ks))) n (last_any ks (i - 1) k (omega arith)) in
            let down : Upto cmp j k.now = any_with (λ x. Upto cmp x k.now) (keys_of (take i ks)) j (λ x s u. up_up cmp o j x k.now (same_up cmp o j x s) u) any (upto_all k e) in
            once_old (keys_of (take i ks)) once k.now j (same_from cmp o k.now j up down) any r

  -- ---- in another order

  own : (ks : List K) → AllByRecursion (λ k. AnyByRecursion (Same cmp k) ks) ks
  own [] = tt
  own (k ∷ ks) = (inl (tied_itself o k), behind ks (own ks))
    where
      behind : (xs : List K) → AllByRecursion (λ x. AnyByRecursion (Same cmp x) ks) xs → AllByRecursion (λ x. AnyByRecursion (Same cmp x) (k ∷ ks)) xs
      behind [] a = tt
      behind (x ∷ xs) a = (inr a.0, behind xs a.1)

  pub alike : (js : List K) (k j : K) → Same cmp k j → AnyByRecursion (Same cmp j) js → AnyByRecursion (Same cmp k) js
  alike [] k j s a = a
  alike (x ∷ xs) k j s (inl t) = inl (o.congr k j x s ∙ t)
  alike (x ∷ xs) k j s (inr a) = inr (alike xs k j s a)

  pub once_permuted : (keys sorted : List (Bor K)) (once : List K) → IsPermutation keys sorted → IsOnceEach cmp (keys_of sorted) once → IsOnceEach cmp (keys_of keys) once
  once_permuted keys sorted once p r =
      let there = IsPermutation-map (λ (k : Bor K). k.now) keys sorted p in
      let back_again = IsPermutation-map (λ (k : Bor K). k.now) sorted keys (IsPermutation-sym keys sorted p) in
      let In : K → Type 0 = λ k. AnyByRecursion (Same cmp k) (keys_of keys) in
      let Once : K → Type 0 = λ k. AnyByRecursion (Same cmp k) once in
      let all_in = each-of_All In (keys_of sorted) (All-permutation In (keys_of keys) (keys_of sorted) there (All-of_each In (keys_of keys) (own (keys_of keys)))) in
      record {
        ascending = r.ascending;
        only = each_any once r.only all_in;
        all = each-of_All Once (keys_of keys) (All-permutation Once (keys_of sorted) (keys_of keys) back_again (All-of_each Once (keys_of sorted) r.all));
      }
    where
      each_any : (ks : List K) → AllByRecursion (λ k. AnyByRecursion (Same cmp k) (keys_of sorted)) ks
          → AllByRecursion (λ k. AnyByRecursion (Same cmp k) (keys_of keys)) (keys_of sorted) → AllByRecursion (λ k. AnyByRecursion (Same cmp k) (keys_of keys)) ks
      each_any [] a h = tt
      each_any (k ∷ ks) a h = (any_with (λ j. AnyByRecursion (Same cmp j) (keys_of keys)) (keys_of sorted) k (λ j s b. alike (keys_of keys) k j s b) a.0 h, each_any ks a.1 h)
