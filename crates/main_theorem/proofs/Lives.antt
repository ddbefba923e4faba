-- Rows that are equal to a map, update by update.
use Rattle.std.proofs.Common.{◌≡◌, Bool, true, false, not, ◌||◌, cond, List, [], ◌∷◌, ◌++◌, length, append-nil, Option, Some, None, refl, sym, ◌∙◌, subst, arith}
use Rattle.std.specs.Prelude.{Result, Ok, Err, OnOk, OnErr, is_ok}
use Rattle.std.specs.Cmp.{IsTotalOrder, IsEquivalence, tied_itself, alike_right}
use Rattle.std.specs.Ordering.{is_eq}
use Rattle.std.specs.declared.cmp.Ordering.{Ordering}
use Rattle.key_order.specs.Map.{IsMap, get, set, has_key, del}
use Rattle.key_order.specs.Join.{IsJoin, IsJoining, joined}
use Rattle.key_order.proofs.Joins.{put_joins, same_joins}
use Rattle.key_order.proofs.Maps.{get_by_same}
use Rattle.key_order.proofs.SameMaps.{same_is_map}
use Rattle.key_order.proofs.Values.{Eq, on, cong}
use Rattle.merkle_tree_theory.specs.Settings.{Settings}
use Rattle.merkle_replica.specs.Laws.{Laws}
use Rattle.merkle_search_tree.specs.declared.updates.Update.{Update}
use Rattle.merkle_search_tree.specs.declared.updates.Update.TheVariants.{Upsert, Remove}
use Rattle.main_theorem.specs.After.{FreeUpdatesAreAccepted, IsFreeUpdateAccepted, join_to, rows_after_one, rows_after_all}
use Rattle.merkle_replica.specs.Agreeing.{AreEqual}

module _ {K V : Type 0} (cmp : K → K → Ordering) (join : V → V → V) where
  -- one update more at the end
  pub one_more : (m : List (K × V)) (us : List (Update K V)) (u : Update K V) (bs : List Bool) (a : Bool)
      → length bs ≡ length us → rows_after_all cmp join m (us ++ u ∷ []) (bs ++ a ∷ []) ≡ rows_after_one cmp join (rows_after_all cmp join m us bs) u a
  one_more m [] u [] a e = refl
  one_more m [] u (b ∷ bs) a e = absurd (omega (arith, e))
  one_more m (v ∷ us) u [] a e = absurd (omega (arith, e))
  one_more m (v ∷ us) u (b ∷ bs) a e = one_more (rows_after_one cmp join m v b) us u bs a (omega (arith, e))

module _ {K V H : Type 0} (laws : Laws K V H) (s : Settings H) where
  pub free_more : (m : List (K × V)) (us : List (Update K V)) (u : Update K V) (bs : List Bool) (a : Bool)
      → length bs ≡ length us → FreeUpdatesAreAccepted laws s m us bs → IsFreeUpdateAccepted laws s (rows_after_all laws.cmp laws.join m us bs) u a
      → FreeUpdatesAreAccepted laws s m (us ++ u ∷ []) (bs ++ a ∷ [])
  free_more m [] u [] a e h f = (f, tt)
  free_more m [] u (b ∷ bs) a e h f = absurd (omega (arith, e))
  free_more m (v ∷ us) u [] a e h f = absurd (omega (arith, e))
  free_more m (v ∷ us) u (b ∷ bs) a e h f = (h.0, free_more (rows_after_one laws.cmp laws.join m v b) us u bs a (omega (arith, e)) h.1 f)

-- at the end all updates were carried out
pub all_done : {X : Type 0} (done left all : List X) → done ++ left ≡ all → length left ≡ 0 → done ≡ all
all_done done [] all e h = sym (append-nil done) ∙ e
all_done done (x ∷ left) all e h = absurd (omega (arith, h))

module _ {K V : Type 0} (cmp : K → K → Ordering) (o : IsTotalOrder cmp) (eq : V → V → Bool) where
  -- equal rows have the same keys
  pub has_alike : (a m : List (K × V)) (k : K) → AreEqual cmp eq a m → has_key cmp a k ≡ has_key cmp m k
  has_alike [] [] k h = refl
  has_alike [] (s ∷ ss) k h = absurd h
  has_alike (r ∷ rs) [] k h = absurd h
  has_alike (r ∷ rs) (s ∷ ss) k h = λ i. is_eq (alike_right o r.0 s.0 k h.0 i) || has_alike rs ss k h.2 i

  -- a removal
  pub removed : (a m : List (K × V)) (k : K) → AreEqual cmp eq a m → AreEqual cmp eq (del cmp a k) (del cmp m k)
  removed [] [] k h = tt
  removed [] (s ∷ ss) k h = absurd h
  removed (r ∷ rs) [] k h = absurd h
  removed (r ∷ rs) (s ∷ ss) k h =
      subst (λ q. AreEqual cmp eq (cond (not (is_eq q)) (r ∷ del cmp rs k) (del cmp rs k)) (cond (not (is_eq (cmp k s.0))) (s ∷ del cmp ss k) (del cmp ss k))) (sym (alike_right o r.0 s.0 k h.0))
      (go (not (is_eq (cmp k s.0))) (removed rs ss k h.2))
    where
      go : (b : Bool) → AreEqual cmp eq (del cmp rs k) (del cmp ss k) → AreEqual cmp eq (cond b (r ∷ del cmp rs k) (del cmp rs k)) (cond b (s ∷ del cmp ss k) (del cmp ss k))
      go true f = (h.0, h.1, f)
      go false f = f

module _ {K V : Type 0} (cmp : K → K → Ordering) (o : IsTotalOrder cmp) (eq : V → V → Bool) (e : IsEquivalence eq) (join : V → V → V) (j : IsJoining eq join) where
  pub equal_itself : (a : List (K × V)) → AreEqual cmp eq a a
  equal_itself [] = tt
  equal_itself (r ∷ rs) = (tied_itself o r.0, e.refl r.1, equal_itself rs)

  -- a join of rows is a join of maps that are equal to them
  pub join_equal : (a m b n rows : List (K × V)) → AreEqual cmp eq a m → AreEqual cmp eq b n → IsJoin cmp eq join a b rows → IsJoin cmp eq join m n rows
  join_equal a m b n rows f g p = record {
    ascending = p.ascending;
    values = λ k. on eq e join j (get cmp rows k) (joined join (get cmp a k) (get cmp b k)) (joined join (get cmp m k) (get cmp n k)) (p.values k)
        (cong eq e join j (get cmp a k) (get cmp m k) (get cmp b k) (get cmp n k) (get_by_same cmp o (λ x y. eq x y ≡ true) a m f k) (get_by_same cmp o (λ x y. eq x y ≡ true) b n g k));
  }

  -- an upsert
  pub upserted : (a m rows : List (K × V)) (k : K) (v : V) → IsMap cmp a → AreEqual cmp eq a m → IsJoin cmp eq join a ((k, v) ∷ []) rows
      → AreEqual cmp eq rows (set cmp m k (join_to join (get cmp m k) v))
  upserted a m rows k v up f p =
      let one = (k, v) ∷ [] in
      let stored = join_to join (get cmp m k) v in
      same_joins cmp o eq e join j m one rows (set cmp m k stored) (join_equal a m one one rows f (equal_itself one) p)
      (put_joins cmp o eq e join j m k v stored (same_is_map cmp o (λ x y. eq x y ≡ true) a m f up) (fits (get cmp m k)))
    where
      fits : (w : Option V) → Eq eq e join j (Some (join_to join w v)) (joined join w (Some v))
      fits None = e.refl v
      fits (Some w) = e.refl (join w v)

  -- the same of an upsert and a removal that may be refused
  pub upsert_result : {E : Type 0} (r : Result (Unit {0}) E) (a rows : List (K × V)) (k : K) (v : V) → IsMap cmp a → OnOk r (IsJoin cmp eq join a ((k, v) ∷ []) rows) → OnErr r (rows ≡ a)
      → (m : List (K × V)) → AreEqual cmp eq a m → AreEqual cmp eq rows (rows_after_one cmp join m (Upsert k v) (is_ok r))
  upsert_result (Ok u) a rows k v up p q m f = upserted a m rows k v up f p
  upsert_result (Err x) a rows k v up p q m f = subst (λ b. AreEqual cmp eq b m) (sym q) f

  pub remove_result : {B E : Type 0} (r : Result B E) (a rows : List (K × V)) (k : K) → OnOk r (rows ≡ del cmp a k) → OnErr r (rows ≡ a)
      → (m : List (K × V)) → AreEqual cmp eq a m → AreEqual cmp eq rows (rows_after_one cmp join m (Remove k) (is_ok r))
  remove_result (Ok u) a rows k p q m f = subst (λ b. AreEqual cmp eq b (del cmp m k)) (sym p) (removed cmp o eq a m k f)
  remove_result (Err x) a rows k p q m f = subst (λ b. AreEqual cmp eq b m) (sym q) f
