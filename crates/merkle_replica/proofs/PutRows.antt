-- Rows join_of_values one after the other, and what puts of them leave.
use Rattle.std.proofs.Common.{◌≡◌, ℕ, zero, suc, ◌+◌, Bool, true, false, cond, List, [], ◌∷◌, ◌++◌, length, length-append, take, Option, Some, None, refl, sym, ◌∙◌, ap, subst, ◌⊎◌, inl, inr, arith}
use Rattle.std.proofs.lemmas.List.{take_at}
use Rattle.std.specs.List.{AllByRecursion}
use Rattle.std.specs.Cmp.{IsTotalOrder, IsEquivalence}
use Rattle.std.specs.Ordering.{is_eq}
use Rattle.std.specs.declared.cmp.Ordering.{Ordering}
use Rattle.key_order.specs.Order.{Below, Upto}
use Rattle.key_order.specs.Map.{IsMap, get, set}
use Rattle.key_order.specs.Join.{joined, IsJoin, IsJoining}
use Rattle.key_order.proofs.Bools.{which, is_equal}
use Rattle.key_order.proofs.Joins.{put_joins}
use Rattle.key_order.proofs.Maps.{absent}
use Rattle.key_order.proofs.Orders.{low_is_up, up_low, same_down}
use Rattle.key_order.proofs.Values.{Eq, same, back, on, assoc, cong, to_none}
use Rattle.merkle_diff.proofs.Each.{each-with}
use Rattle.merkle_replica.specs.Puts.{IsRising, AreInKeyOrder, IsPuts, join_of_values, HasGathered, IsGatheredTo, IsPutsTo}

module _ {K V : Type 0} (cmp : K → K → Ordering) (o : IsTotalOrder cmp) where
  -- the rows of a map rise
  pub map_rises : (rows : List (K × V)) → IsMap cmp rows → IsRising cmp rows
  map_rises [] m = tt
  map_rises (r ∷ rows) m = (each-with (λ s. Below cmp r.0 s.0) (λ s. Upto cmp r.0 s.0) rows (λ s b. low_is_up cmp o r.0 s.0 b) m.0, map_rises rows m.1)

  module _ (eq : V → V → Bool) (e : IsEquivalence eq) (join : V → V → V) (j : IsJoining eq join) where
    abbrev at : K → K × V → Option V
    at k r = cond (is_eq (cmp r.0 k)) (Some r.1) None

    gathered_more : (rows : List (K × V)) (r : K × V) (k : K) → Eq eq e join j (join_of_values cmp eq join (rows ++ r ∷ []) k) (joined join (join_of_values cmp eq join rows k) (at k r))
    gathered_more [] r k = to_none eq e join j (at k r)
    gathered_more (s ∷ rows) r k =
        on eq e join j (joined join (at k s) (join_of_values cmp eq join (rows ++ r ∷ []) k))
        (joined join (at k s) (joined join (join_of_values cmp eq join rows k) (at k r))) (joined join (joined join (at k s) (join_of_values cmp eq join rows k)) (at k r))
        (cong eq e join j (at k s) (at k s) (join_of_values cmp eq join (rows ++ r ∷ []) k) (joined join (join_of_values cmp eq join rows k) (at k r))
        (same eq e join j (at k s)) (gathered_more rows r k))
        (back eq e join j (joined join (joined join (at k s) (join_of_values cmp eq join rows k)) (at k r))
        (joined join (at k s) (joined join (join_of_values cmp eq join rows k) (at k r))) (assoc eq e join j (at k s) (join_of_values cmp eq join rows k) (at k r)))

    -- nothing is join_of_values
    pub gathers_none : (old : List (K × V)) → IsMap cmp old → HasGathered cmp eq join old [] old
    gathers_none old m = record { ascending = m; values = λ k. back eq e join j (joined join (get cmp old k) None) (get cmp old k) (to_none eq e join j (get cmp old k)) }

    -- one row more
    pub gathers_more : (old rows now now' : List (K × V)) (r : K × V) → HasGathered cmp eq join old rows now → IsJoin cmp eq join now (r ∷ []) now' → HasGathered cmp eq join old (rows ++ r ∷ []) now'
    gathers_more old rows now now' r h p = record {
      ascending = p.ascending;
      values = λ k.
          let A = get cmp old k in
          let G = join_of_values cmp eq join rows k in
          let R = at k r in
          let G' = join_of_values cmp eq join (rows ++ r ∷ []) k in
          on eq e join j (get cmp now' k) (joined join (get cmp now k) R) (joined join A G') (p.values k)
          (on eq e join j (joined join (get cmp now k) R) (joined join (joined join A G) R) (joined join A G')
          (cong eq e join j (get cmp now k) (joined join A G) R R (h.values k) (same eq e join j R))
          (on eq e join j (joined join (joined join A G) R) (joined join A (joined join G R)) (joined join A G') (assoc eq e join j A G R)
          (cong eq e join j A A (joined join G R) G' (same eq e join j A) (back eq e join j G' (joined join G R) (gathered_more rows r k)))));
    }

    -- what a map gathers is its value
    gathered_map : (rows : List (K × V)) (k : K) → IsMap cmp rows → Eq eq e join j (join_of_values cmp eq join rows k) (get cmp rows k)
    gathered_map [] k m = tt
    gathered_map (r ∷ rows) k m = go (which (is_eq (cmp r.0 k))) (gathered_map rows k m.1)
      where
        none_behind : (xs : List (K × V)) → is_eq (cmp r.0 k) ≡ true → AllByRecursion (λ s. Below cmp r.0 s.0) xs → IsMap cmp xs → get cmp xs k ≡ None
        none_behind [] n a up = refl
        none_behind (x ∷ xs) n a up = absent cmp o (x ∷ xs) k
            (each-with (λ s. Below cmp r.0 s.0) (λ s. Below cmp k s.0) (x ∷ xs) (λ s b. up_low cmp o k r.0 s.0 (same_down cmp o r.0 k (is_equal (cmp r.0 k) n)) b) a)

        go : (is_eq (cmp r.0 k) ≡ false) ⊎ (is_eq (cmp r.0 k) ≡ true) → Eq eq e join j (join_of_values cmp eq join rows k) (get cmp rows k)
            → Eq eq e join j (joined join (at k r) (join_of_values cmp eq join rows k)) (get cmp (r ∷ rows) k)
        go (inl n) h = rw n h
        go (inr n) h =
            let none = none_behind rows n m.0 m.1 in
            let g : Eq eq e join j (join_of_values cmp eq join rows k) None = subst (Eq eq e join j (join_of_values cmp eq join rows k)) none h in
            rw n (on eq e join j (joined join (Some r.1) (join_of_values cmp eq join rows k)) (joined join (Some r.1) None) (Some r.1)
            (cong eq e join j (Some r.1) (Some r.1) (join_of_values cmp eq join rows k) None (same eq e join j (Some r.1)) g) (to_none eq e join j (Some r.1)))

    -- gathering a map joins it
    pub gathers_map : (old rows now : List (K × V)) → IsMap cmp rows → HasGathered cmp eq join old rows now → IsJoin cmp eq join old rows now
    gathers_map old rows now m h = record {
      ascending = h.ascending;
      values = λ k.
          on eq e join j (get cmp now k) (joined join (get cmp old k) (join_of_values cmp eq join rows k)) (joined join (get cmp old k) (get cmp rows k)) (h.values k)
          (cong eq e join j (get cmp old k) (get cmp old k) (join_of_values cmp eq join rows k) (get cmp rows k) (same eq e join j (get cmp old k)) (gathered_map rows k m));
    }

    -- gathering is what puts in any order leave
    pub puts_gather : (rows old now : List (K × V)) → IsMap cmp old → HasGathered cmp eq join old rows now → IsPuts cmp eq join old rows now
    puts_gather [] old now m h = record { ascending = h.ascending; values = h.values }
    puts_gather (r ∷ rows) old now m h = go (get cmp old r.0) refl (λ mid p. (mid, p, puts_gather rows mid now p.ascending (later mid p)))
      where
        later : (mid : List (K × V)) → IsJoin cmp eq join old (r ∷ []) mid → HasGathered cmp eq join mid rows now
        later mid p = record {
          ascending = h.ascending;
          values = λ k.
              let A = get cmp old k in
              let G = join_of_values cmp eq join rows k in
              on eq e join j (get cmp now k) (joined join A (joined join (at k r) G)) (joined join (get cmp mid k) G) (h.values k)
              (on eq e join j (joined join A (joined join (at k r) G)) (joined join (joined join A (at k r)) G) (joined join (get cmp mid k) G)
              (back eq e join j (joined join (joined join A (at k r)) G) (joined join A (joined join (at k r) G)) (assoc eq e join j A (at k r) G))
              (cong eq e join j (joined join A (at k r)) (get cmp mid k) G G (back eq e join j (get cmp mid k) (joined join A (at k r)) (p.values k)) (same eq e join j G)));
        }

        go : (x : Option V) → get cmp old r.0 ≡ x → ((mid : List (K × V)) → IsJoin cmp eq join old (r ∷ []) mid → IsPuts cmp eq join old (r ∷ rows) now) → IsPuts cmp eq join old (r ∷ rows) now
        go None is further = further (set cmp old r.0 r.1) (put_joins cmp o eq e join j old r.0 r.1 r.1 m (subst (λ y. Eq eq e join j (Some r.1) (joined join y (Some r.1))) (sym is) (e.refl r.1)))
        go (Some v) is further = further (set cmp old r.0 (join v r.1))
            (put_joins cmp o eq e join j old r.0 r.1 (join v r.1) m (subst (λ y. Eq eq e join j (Some (join v r.1)) (joined join y (Some r.1))) (sym is) (e.refl (join v r.1))))

    -- rows in key order, join_of_values up to a place, are put up to it
    pub puts_to : (rows sorted old now : List (K × V)) (done : ℕ) → IsMap cmp old → length sorted ≡ length rows → AreInKeyOrder cmp rows sorted
        → IsGatheredTo cmp eq join old sorted now done → IsPutsTo cmp eq join old rows done now
    puts_to rows sorted old now zero m n order g = let some = g.not_all in inl (refl, omega (arith, some, n), g.unchanged refl)
    puts_to rows sorted old now (suc done) m n order g = let some = g.not_all in inr (sorted, order, omega arith, omega (arith, some, n), puts_gather (take (suc done) sorted) old now m g.gathers)

  low_taken : (k : K) (rows : List (K × V)) (n : ℕ) → AllByRecursion (λ s. Below cmp k s.0) rows → AllByRecursion (λ s. Below cmp k s.0) (take n rows)
  low_taken k rows zero a = tt
  low_taken k [] (suc n) a = tt
  low_taken k (r ∷ rows) (suc n) a = (a.0, low_taken k rows n a.1)

  -- the first rows of a map are a map
  pub map_taken : (rows : List (K × V)) (n : ℕ) → IsMap cmp rows → IsMap cmp (take n rows)
  map_taken rows zero m = tt
  map_taken [] (suc n) m = tt
  map_taken (r ∷ rows) (suc n) m = (low_taken r.0 rows n m.0, map_taken rows n m.1)

  -- the row after those join_of_values is refused
  pub gathered_to : (eq : V → V → Bool) (join : V → V → V) (old seen rest all now : List (K × V)) (r : K × V) (done : ℕ) → seen ++ r ∷ rest ≡ all
      → length seen ≡ done → HasGathered cmp eq join old seen now → (done ≡ 0 → now ≡ old) → IsGatheredTo cmp eq join old all now done
  gathered_to eq join old seen rest all now r done e n h u =
      let l : length all ≡ length seen + suc (length rest) = ap length (sym e) ∙ length-append seen (r ∷ rest) in
      record {
        not_all = omega (arith, l, n);
        gathers = subst (λ t. HasGathered cmp eq join old t now) (sym (ap (take done) (sym e) ∙ take_at seen (r ∷ rest) done n)) h;
        unchanged = u;
      }
