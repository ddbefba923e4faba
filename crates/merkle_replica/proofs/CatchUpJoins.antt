-- What a side lacks of another, and the join that a catch-up leaves.
use Rattle.std.proofs.Common.{◌≡◌, ℕ, zero, suc, ◌≤◌, Bool, true, false, List, [], ◌∷◌, take, Option, Some, None, refl, sym, ◌∙◌, ap, subst, arith, ◌⊎◌, inl, inr}
use Rattle.std.specs.List.{AllByRecursion}
use Rattle.std.specs.Cmp.{IsTotalOrder, IsEquivalence}
use Rattle.std.specs.declared.cmp.Ordering.{Ordering}
use Rattle.key_order.specs.Order.{AnyByRecursion, Same, IsAscending}
use Rattle.key_order.specs.Interval.{IsCovered, is_covered}
use Rattle.key_order.specs.Map.{SameValue, SameMap, IsMap, IsPresent, get, rows_in}
use Rattle.key_order.specs.Join.{joined, IsJoin, IsJoining}
use Rattle.key_order.proofs.Bools.{which}
use Rattle.key_order.proofs.Maps.{get_at, get_same}
use Rattle.key_order.proofs.Orders.{same_up, same_down}
use Rattle.key_order.proofs.Spans.{is_covered-same, test_from_covered}
use Rattle.key_order.proofs.Values.{on, cong, comm, assoc, idem, same}
use Rattle.std.specs.Option.{option_map}
use Rattle.std.proofs.lemmas.Bool.{eqb-true, eqb-false}
use Rattle.std.specs.Prelude.{nat_eq}
use Rattle.merkle_replica.specs.CatchUp.{points, IsLacked, IsHidden, HasFound, IsCatchUp, IsPartOfCatchUp, AreCopies, IsOnceEach}
use Rattle.merkle_replica.specs.Contents.{Side, tree_map}
use Rattle.merkle_replica.specs.Faithful.{IsFaithful}
use Rattle.merkle_replica.specs.Laws.{Laws}
use Rattle.merkle_replica.specs.Puts.{HasGathered, IsGatheredTo}
use Rattle.merkle_replica.proofs.Bounds.{get_digests, present_from}
use Rattle.merkle_replica.proofs.PutRows.{gathers_map, map_taken}
use Rattle.merkle_replica.proofs.PulledKeys.{SameOrAbsent, takes_all}
use Rattle.merkle_replica.proofs.Descents.{some_is}
use Rattle.merkle_replica.proofs.RowCopies.{copies_are, copies_length, copies_map, take_same, join_same}
use Rattle.merkle_replica.proofs.OnceEach.{any_with, alike}

-- what is missing
module _ {K V H : Type 0} (laws : Laws K V H) (o : IsTotalOrder laws.cmp) (local peer : Side K V H) where
  lacked_alike : (k j : K) → Same laws.cmp k j → IsLacked laws local peer j → IsLacked laws local peer k
  lacked_alike k j s (d, there, lacks) =
      (d, get_same laws.cmp o (tree_map laws peer) k j s ∙ there, λ e. lacks (sym (get_same laws.cmp o (tree_map laws local) k j s) ∙ e))

  -- the keys once each are found too
  pub found_once : (keys once : List K) → IsOnceEach laws.cmp keys once → HasFound laws local peer keys → HasFound laws local peer once
  found_once keys once r f = record {
    lacked = lacked once r.only;
    unless_hidden = λ k l. go k (f.unless_hidden k l);
    all = λ faithful k l. any_of keys k (f.all faithful k l) r.all;
  }
    where
      lacked : (ks : List K) → AllByRecursion (λ k. AnyByRecursion (Same laws.cmp k) keys) ks → AllByRecursion (IsLacked laws local peer) ks
      lacked [] a = tt
      lacked (k ∷ ks) a = (any_with laws.cmp o (IsLacked laws local peer) keys k (λ j s l. lacked_alike k j s l) a.0 f.lacked, lacked ks a.1)

      any_of : (ks : List K) (k : K) → AnyByRecursion (Same laws.cmp k) ks → AllByRecursion (λ j. AnyByRecursion (Same laws.cmp j) once) ks → AnyByRecursion (Same laws.cmp k) once
      any_of [] k a h = absurd a
      any_of (j ∷ ks) k (inl s) h = alike laws.cmp o once k j s h.0
      any_of (j ∷ ks) k (inr a) h = any_of ks k a h.1

      go : (k : K) → AnyByRecursion (Same laws.cmp k) keys ⊎ IsHidden laws local peer k → AnyByRecursion (Same laws.cmp k) once ⊎ IsHidden laws local peer k
      go k (inl a) = inl (any_of keys k a r.all)
      go k (inr h) = inr h

  -- what is missing is there
  pub lacked_there : (ks : List K) → AllByRecursion (IsLacked laws local peer) ks → AllByRecursion (λ k. IsPresent (get laws.cmp peer.rows k)) ks
  lacked_there [] a = tt
  lacked_there (k ∷ ks) a = (present_from laws.cmp o (laws.value_digest peer.hasher) peer.rows k (subst IsPresent (sym a.0.1) tt), lacked_there ks a.1)

  module _ (eq : IsEquivalence laws.eq) (j : IsJoining laws.eq laws.join) (keys : List K) (copies : List (K × V)) (up : IsMap laws.cmp peer.rows)
      (ascending : IsAscending laws.cmp keys) (found : HasFound laws local peer keys)
      (are : AreCopies laws.cmp laws.eq peer.rows keys copies) where
    abbrev wanted : List (K × V)
    wanted = rows_in laws.cmp (points keys) peer.rows

    copied : SameMap laws.cmp (λ x y. laws.eq x y ≡ true) copies wanted
    copied = copies_are laws.cmp o laws.eq peer.rows keys copies up ascending are

    -- the copies gathered are a catch-up
    pub caught_up : (after : List (K × V)) → HasGathered laws.cmp laws.eq laws.join local.rows copies after → IsCatchUp laws local peer keys after
    caught_up after h = record {
      ascending = ascending;
      found = found;
      joins = join_same laws.cmp o laws.eq eq laws.join j local.rows copies wanted after copied
          (gathers_map laws.cmp o laws.eq eq laws.join j local.rows copies after (copies_map laws.cmp o laws.eq peer.rows keys copies ascending are) h);
    }

    -- the first copies gathered are a part of one
    pub partly_caught_up : (done : ℕ) (after : List (K × V)) → (done ≡ 0 → ⊥) → IsGatheredTo laws.cmp laws.eq laws.join local.rows copies after done → IsPartOfCatchUp laws local peer keys done after
    partly_caught_up done after some h =
        let few = h.not_all in
        let len = copies_length laws.cmp o laws.eq peer.rows keys copies are in
        record {
          ascending = ascending;
          found = found;
          some = positive done some;
          not_all = omega (arith, few, len);
          joins = join_same laws.cmp o laws.eq eq laws.join j local.rows (take done copies) (take done wanted) after (take_same laws.cmp o (λ x y. laws.eq x y ≡ true) done copies wanted copied)
              (gathers_map laws.cmp o laws.eq eq laws.join j local.rows (take done copies) after
              (map_taken laws.cmp o copies done (copies_map laws.cmp o laws.eq peer.rows keys copies ascending are)) h.gathers);
        }
      where
        positive : (n : ℕ) → (n ≡ 0 → ⊥) → 1 ≤ n
        positive zero h = absurd (h refl)
        positive (suc n) h = omega arith

  -- ---- while digests are faithful

  dec_list : (xs ys : List ℕ) → (xs ≡ ys) ⊎ (xs ≡ ys → ⊥)
  dec_list [] [] = inl refl
  dec_list [] (y ∷ ys) = inr (λ e. cc)
  dec_list (x ∷ xs) [] = inr (λ e. cc)
  dec_list (x ∷ xs) (y ∷ ys) = go (which (nat_eq x y)) (dec_list xs ys)
    where
      go : (nat_eq x y ≡ false) ⊎ (nat_eq x y ≡ true) → (xs ≡ ys) ⊎ (xs ≡ ys → ⊥) → (x ∷ xs ≡ y ∷ ys) ⊎ (x ∷ xs ≡ y ∷ ys → ⊥)
      go (inl n) r = inr (λ e. eqb-false x y n (let f : x ≡ y = cc in f))
      go (inr n) (inl f) = inl (let m = eqb-true x y n in cc)
      go (inr n) (inr f) = inr (λ e. f (let m : xs ≡ ys = cc in m))

  dec_digest : (x : Option (List ℕ)) (d : List ℕ) → (x ≡ Some d) ⊎ (x ≡ Some d → ⊥)
  dec_digest None d = inr (λ e. cc)
  dec_digest (Some c) d = go (dec_list c d)
    where
      go : (c ≡ d) ⊎ (c ≡ d → ⊥) → (Some c ≡ Some d) ⊎ (Some c ≡ Some d → ⊥)
      go (inl e) = inl (ap Some e)
      go (inr f) = inr (λ e. f (some_is c d e))

  covered_by : (k : K) (ks : List K) → AnyByRecursion (Same laws.cmp k) ks → is_covered laws.cmp k (points ks) ≡ true
  covered_by k ks a = test_from_covered laws.cmp o (points ks) k (go ks a)
    where
      go : (ks : List K) → AnyByRecursion (Same laws.cmp k) ks → IsCovered laws.cmp k (points ks)
      go [] a = absurd a
      go (j ∷ ks) (inl s) = inl (same_down laws.cmp o k j s, same_up laws.cmp o k j s)
      go (j ∷ ks) (inr a) = inr (go ks a)

  -- a catch-up leaves the join of both
  pub all_joined : IsEquivalence laws.eq → IsJoining laws.eq laws.join → (keys : List K) (after : List (K × V)) → IsFaithful laws local peer
      → IsCatchUp laws local peer keys after → IsJoin laws.cmp laws.eq laws.join local.rows peer.rows after
  all_joined eq j keys after faith c = record {
    ascending = c.joins.ascending;
    values = λ k.
        takes_all laws.eq eq laws.join j (is_covered laws.cmp k (points keys)) (get laws.cmp local.rows k) (get laws.cmp peer.rows k) (get laws.cmp after k)
        (subst (λ w. SameValue (λ x y. laws.eq x y ≡ true) (get laws.cmp after k) (joined laws.join (get laws.cmp local.rows k) w))
        (get_at laws.cmp o (λ i. is_covered laws.cmp i (points keys)) (is_covered-same laws.cmp o (points keys)) peer.rows k) (c.joins.values k))
        (covered_or_same k (get laws.cmp local.rows k) (get laws.cmp peer.rows k) refl refl);
  }
    where
      covered_or_same : (k : K) (x y : Option V) → get laws.cmp local.rows k ≡ x → get laws.cmp peer.rows k ≡ y → (is_covered laws.cmp k (points keys) ≡ true) ⊎ SameOrAbsent laws.eq eq laws.join j x y
      covered_or_same k x None e f = inr tt
      covered_or_same k x (Some b) e f =
          go (dec_digest (get laws.cmp (tree_map laws local) k) (laws.value_digest peer.hasher b)) x e
        where
          there : get laws.cmp (tree_map laws peer) k ≡ Some (laws.value_digest peer.hasher b)
          there = get_digests laws.cmp o (laws.value_digest peer.hasher) peer.rows k ∙ ap (option_map (laws.value_digest peer.hasher)) f

          go : (get laws.cmp (tree_map laws local) k ≡ Some (laws.value_digest peer.hasher b)) ⊎ (get laws.cmp (tree_map laws local) k ≡ Some (laws.value_digest peer.hasher b) → ⊥)
              → (x : Option V) → get laws.cmp local.rows k ≡ x → (is_covered laws.cmp k (points keys) ≡ true) ⊎ SameOrAbsent laws.eq eq laws.join j x (Some b)
          go (inr n) x e = inl (covered_by k keys (c.found.all faith.same_pages k (laws.value_digest peer.hasher b, there, n)))
          go (inl s) None e =
              let own : get laws.cmp (tree_map laws local) k ≡ None = get_digests laws.cmp o (laws.value_digest local.hasher) local.rows k ∙ ap (option_map (laws.value_digest local.hasher)) e in
              let never : None ≡ Some (laws.value_digest peer.hasher b) = sym own ∙ s in
              absurd (cc)
          go (inl s) (Some a) e =
              let own : get laws.cmp (tree_map laws local) k ≡ Some (laws.value_digest local.hasher a) =
              get_digests laws.cmp o (laws.value_digest local.hasher) local.rows k ∙ ap (option_map (laws.value_digest local.hasher)) e in
              inr (faith.same_values k a b e f (some_is _ _ (sym own ∙ s)))

-- what has joined a join of it and another is that join
pub join_back : {K V : Type 0} (cmp : K → K → Ordering) (eq : V → V → Bool) (e : IsEquivalence eq) (join : V → V → V) (j : IsJoining eq join)
    (a b mid after : List (K × V)) → IsJoin cmp eq join a b mid → IsJoin cmp eq join b mid after → IsJoin cmp eq join a b after
join_back cmp eq e join j a b mid after p q = record {
  ascending = q.ascending;
  values = λ k.
      let x = get cmp a k in
      let y = get cmp b k in
      let m = get cmp mid k in
      on eq e join j (get cmp after k) (joined join y m) (joined join x y) (q.values k)
      (on eq e join j (joined join y m) (joined join y (joined join x y)) (joined join x y) (cong eq e join j y y m (joined join x y) (same eq e join j y) (p.values k))
      (on eq e join j (joined join y (joined join x y)) (joined join (joined join x y) y) (joined join x y) (comm eq e join j y (joined join x y))
      (on eq e join j (joined join (joined join x y) y) (joined join x (joined join y y)) (joined join x y) (assoc eq e join j x y y)
      (cong eq e join j x x (joined join y y) y (same eq e join j x) (idem eq e join j y)))));
}
