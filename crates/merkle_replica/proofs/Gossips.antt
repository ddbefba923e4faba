-- Catch-ups among any number of replicas, step by step, and whose rows came to whom.
use Rattle.std.proofs.Common.{◌≡◌, ℕ, zero, suc, ◌==◌, ◌<◌, Bool, true, false, List, [], ◌∷◌, ◌++◌, length, length-append, map, Option, None, if◌then◌else◌, refl, ap, sym, subst, ◌∙◌, arith, get_or, set, ◌⊎◌, inl, inr}
use Rattle.std.proofs.lemmas.Bool.{eqb-true, eqb-false}
use Rattle.std.proofs.lemmas.List.{map-append, get_or-set_same, get_or-set_other}
use Rattle.std.specs.Cmp.{IsTotalOrder, IsEquivalence}
use Rattle.std.specs.List.{AllByRecursion}
use Rattle.std.specs.declared.cmp.Ordering.{Ordering}
use Rattle.key_order.specs.Order.{AnyByRecursion}
use Rattle.key_order.specs.Map.{IsMap, get}
use Rattle.key_order.specs.Join.{IsJoining, IsJoin, joined}
use Rattle.key_order.proofs.Bools.{which}
use Rattle.key_order.proofs.Values.{Eq, same, back, on, cong, comm, assoc, idem, to_none}
use Rattle.merkle_replica.specs.CatchUp.{IsCatchUpOf, IsCatchUpRefused}
use Rattle.merkle_replica.specs.Contents.{Side, with_rows}
use Rattle.merkle_replica.specs.Faithful.{AllFaithful}
use Rattle.merkle_replica.specs.Gossip.{numbered, changed, come_to, gathering, spreading, joined_at, IsJoinOf, IsGossip, StopsGossip}
use Rattle.merkle_replica.specs.Laws.{Laws}
use Rattle.merkle_replica.specs.declared.catch_up.CatchUpError.{CatchUpError}
use Rattle.merkle_replica.proofs.CatchUpJoins.{all_joined}

module _ {X : Type 0} where
  -- a place of a list changed
  pub changed-list : (beyond : X) (xs : List X) (i : ℕ) (x : X) → i < length xs → (n : ℕ) → numbered beyond (set xs i x) n ≡ changed (numbered beyond xs) i x n
  changed-list beyond xs i x f n = go (which (n == i))
    where
      go : ((n == i) ≡ false) ⊎ ((n == i) ≡ true) → get_or (set xs i x) n beyond ≡ (if (n == i) then x else (get_or xs n beyond))
      go (inl e) = rw e (get_or-set_other xs i n x beyond (eqb-false n i e))
      go (inr e) = rw (e, eqb-true n i e) (get_or-set_same xs i x beyond f)

module _ {K V : Type 0} (cmp : K → K → Ordering) (eq : V → V → Bool) (e : IsEquivalence eq) (join : V → V → V) (j : IsJoining eq join) where
  abbrev at : List (List (K × V)) → K → Option V
  at = joined_at cmp eq join

  both_at : (ms ns : List (List (K × V))) (k : K) → Eq eq e join j (joined join (at ms k) (at ns k)) (at (ms ++ ns) k)
  both_at [] ns k = same eq e join j (at ns k)
  both_at (m ∷ ms) ns k =
      let x = get cmp m k in
      on eq e join j (joined join (joined join x (at ms k)) (at ns k)) (joined join x (joined join (at ms k) (at ns k))) (joined join x (at (ms ++ ns) k))
      (assoc eq e join j x (at ms k) (at ns k)) (cong eq e join j x x (joined join (at ms k) (at ns k)) (at (ms ++ ns) k) (same eq e join j x) (both_at ms ns k))

  -- a map is the join of itself alone
  pub alone : (m : List (K × V)) → IsMap cmp m → IsJoinOf cmp eq join (m ∷ []) m
  alone m up = record { ascending = up; values = λ k. back eq e join j (joined join (get cmp m k) None) (get cmp m k) (to_none eq e join j (get cmp m k)) }

  -- a join of two joins
  pub join_both : (ms ns : List (List (K × V))) (a b c : List (K × V)) → IsJoinOf cmp eq join ms a → IsJoinOf cmp eq join ns b → IsJoin cmp eq join a b c → IsJoinOf cmp eq join (ms ++ ns) c
  join_both ms ns a b c p q r = record {
    ascending = r.ascending;
    values = λ k.
        on eq e join j (get cmp c k) (joined join (get cmp a k) (get cmp b k)) (at (ms ++ ns) k) (r.values k)
        (on eq e join j (joined join (get cmp a k) (get cmp b k)) (joined join (at ms k) (at ns k)) (at (ms ++ ns) k)
        (cong eq e join j (get cmp a k) (at ms k) (get cmp b k) (at ns k) (p.values k) (q.values k)) (both_at ms ns k));
  }

  -- the join of many maps has taken each of them in
  takes : (m : List (K × V)) (ms : List (List (K × V))) (k : K) → AnyByRecursion (λ n. n ≡ m) ms → Eq eq e join j (joined join (get cmp m k) (at ms k)) (at ms k)
  takes m [] k a = absurd a
  takes m (n ∷ ms) k (inl s) =
      let x = get cmp n k in
      subst (λ w. Eq eq e join j (joined join (get cmp w k) (joined join x (at ms k))) (joined join x (at ms k))) s
      (on eq e join j (joined join x (joined join x (at ms k))) (joined join (joined join x x) (at ms k)) (joined join x (at ms k))
      (back eq e join j (joined join (joined join x x) (at ms k)) (joined join x (joined join x (at ms k))) (assoc eq e join j x x (at ms k)))
      (cong eq e join j (joined join x x) x (at ms k) (at ms k) (idem eq e join j x) (same eq e join j (at ms k))))
  takes m (n ∷ ms) k (inr a) =
      let x = get cmp m k in
      let y = get cmp n k in
      let z = at ms k in
      on eq e join j (joined join x (joined join y z)) (joined join (joined join x y) z) (joined join y z)
      (back eq e join j (joined join (joined join x y) z) (joined join x (joined join y z)) (assoc eq e join j x y z))
      (on eq e join j (joined join (joined join x y) z) (joined join (joined join y x) z) (joined join y z)
      (cong eq e join j (joined join x y) (joined join y x) z z (comm eq e join j x y) (same eq e join j z))
      (on eq e join j (joined join (joined join y x) z) (joined join y (joined join x z)) (joined join y z) (assoc eq e join j y x z)
      (cong eq e join j y y (joined join x z) z (same eq e join j y) (takes m ms k a))))

  -- one of the maps that has joined the join of all is that join
  pub join_all : (m : List (K × V)) (ms : List (List (K × V))) (b c : List (K × V)) → AnyByRecursion (λ n. n ≡ m) ms → IsJoinOf cmp eq join ms b → IsJoin cmp eq join m b c → IsJoinOf cmp eq join ms c
  join_all m ms b c a p r = record {
    ascending = r.ascending;
    values = λ k.
        on eq e join j (get cmp c k) (joined join (get cmp m k) (get cmp b k)) (at ms k) (r.values k)
        (on eq e join j (joined join (get cmp m k) (get cmp b k)) (joined join (get cmp m k) (at ms k)) (at ms k)
        (cong eq e join j (get cmp m k) (get cmp m k) (get cmp b k) (at ms k) (same eq e join j (get cmp m k)) (p.values k)) (takes m ms k a));
  }

  absorbs : (ms ns : List (List (K × V))) (k : K) → AllByRecursion (λ m. AnyByRecursion (λ n. n ≡ m) ns) ms → Eq eq e join j (joined join (at ms k) (at ns k)) (at ns k)
  absorbs [] ns k a = same eq e join j (at ns k)
  absorbs (m ∷ ms) ns k a =
      let x = get cmp m k in
      on eq e join j (joined join (joined join x (at ms k)) (at ns k)) (joined join x (joined join (at ms k) (at ns k))) (at ns k) (assoc eq e join j x (at ms k) (at ns k))
      (on eq e join j (joined join x (joined join (at ms k) (at ns k))) (joined join x (at ns k)) (at ns k)
      (cong eq e join j x x (joined join (at ms k) (at ns k)) (at ns k) (same eq e join j x) (absorbs ms ns k a.1)) (takes m ns k a.0))

  -- maps in another order, or more than once
  pub same_join : (ms ns : List (List (K × V))) (rows : List (K × V)) → AllByRecursion (λ m. AnyByRecursion (λ n. n ≡ m) ns) ms → AllByRecursion (λ n. AnyByRecursion (λ m. m ≡ n) ms) ns
      → IsJoinOf cmp eq join ms rows → IsJoinOf cmp eq join ns rows
  same_join ms ns rows a b p = record {
    ascending = p.ascending;
    values = λ k.
        let x = at ms k in
        let y = at ns k in
        on eq e join j (get cmp rows k) x y (p.values k)
        (on eq e join j x (joined join y x) y (back eq e join j (joined join y x) x (absorbs ns ms k b))
        (on eq e join j (joined join y x) (joined join x y) y (comm eq e join j y x) (absorbs ms ns k a)));
  }

module _ {K V H : Type 0} (laws : Laws K V H) where
  -- one step more at the end
  pub gossip-more : (steps : List (ℕ × ℕ)) (s : ℕ × ℕ) (first mid last : ℕ → Side K V H) (met : List (Side K V H × Side K V H)) (count : ℕ) (after : List (K × V))
      → IsGossip laws steps first mid met → IsCatchUpOf laws (mid s.0) (mid s.1) count after → ((n : ℕ) → last n ≡ changed mid s.0 (with_rows (mid s.0) after) n)
      → IsGossip laws (steps ++ s ∷ []) first last (met ++ (mid s.0, mid s.1) ∷ [])
  gossip-more [] s first mid last met count after g c h =
      let m : mid ≡ first = λ i n. g.0 n i in
      let is : met ++ (mid s.0, mid s.1) ∷ [] ≡ (first s.0, first s.1) ∷ [] = (λ i. g.1 i ++ (m i s.0, m i s.1) ∷ []) in
      (count, after, [], is, subst (λ f. IsCatchUpOf laws (f s.0) (f s.1) count after) m c, (subst (λ f. (n : ℕ) → last n ≡ changed f s.0 (with_rows (f s.0) after) n) m h, refl))
  gossip-more (t ∷ steps) s first mid last met count after (n, rows, rest, is, caught, more) c h = (
    n,
    rows,
    rest ++ (mid s.0, mid s.1) ∷ [],
    ap (λ l. l ++ (mid s.0, mid s.1) ∷ []) is,
    caught,
    gossip-more steps s (changed first t.0 (with_rows (first t.0) rows)) mid last rest count after more c h,
  )

  -- a step that is refused
  pub gossip-stops : (steps : List (ℕ × ℕ)) (s : ℕ × ℕ) (others : List (ℕ × ℕ)) (first mid last : ℕ → Side K V H) (met : List (Side K V H × Side K V H)) (fault : CatchUpError) (after : List (K × V))
      → IsGossip laws steps first mid met → IsCatchUpRefused laws (mid s.0) (mid s.1) fault after → ((n : ℕ) → last n ≡ changed mid s.0 (with_rows (mid s.0) after) n)
      → StopsGossip laws (length steps) fault (steps ++ s ∷ others) first last
  gossip-stops [] s others first mid last met fault after g c h =
      let m : mid ≡ first = λ i n. g.0 n i in
      (after, subst (λ f. IsCatchUpRefused laws (f s.0) (f s.1) fault after) m c, subst (λ f. (n : ℕ) → last n ≡ changed f s.0 (with_rows (f s.0) after) n) m h)
  gossip-stops (t ∷ steps) s others first mid last met fault after (n, rows, rest, is, caught, more) c h =
      (n, rows, caught, gossip-stops steps s others (changed first t.0 (with_rows (first t.0) rows)) mid last rest fault after more c h)

  -- the rows of those that came to each are joined in each
  module _ (o : IsTotalOrder laws.cmp) (e : IsEquivalence laws.eq) (j : IsJoining laws.eq laws.join) (own : ℕ → List (K × V)) where
    abbrev Has : List ℕ → Side K V H → Type 0
    Has who s = IsJoinOf laws.cmp laws.eq laws.join (map own who) s.rows

    pub comes_to : (steps : List (ℕ × ℕ)) (who : ℕ → List ℕ) (sides sides' : ℕ → Side K V H) (met : List (Side K V H × Side K V H)) → IsGossip laws steps sides sides' met → AllFaithful laws met
        → ((n : ℕ) → Has (who n) (sides n)) → (n : ℕ) → Has (come_to who steps n) (sides' n)
    comes_to [] who sides sides' met g faith h n = subst (Has (who n)) (sym (g.0 n)) (h n)
    comes_to (s ∷ steps) who sides sides' met (count, after, rest, is, (keys, _, caught), more) faith h n =
        let all = subst (AllFaithful laws) is faith in
        let join = all_joined laws o (sides s.0) (sides s.1) e j keys after all.0 caught in
        let here : Has (who s.0 ++ who s.1) (with_rows (sides s.0) after) = subst (λ ms. IsJoinOf laws.cmp laws.eq laws.join ms after) (sym (map-append own (who s.0) (who s.1)))
        (join_both laws.cmp laws.eq e laws.join j (map own (who s.0)) (map own (who s.1)) (sides s.0).rows (sides s.1).rows after (h s.0) (h s.1) join) in
        comes_to steps (changed who s.0 (who s.0 ++ who s.1)) (changed sides s.0 (with_rows (sides s.0) after)) sides' rest more all.1
        (λ k. by (k == s.0) (who s.0 ++ who s.1) (with_rows (sides s.0) after) here (who k) (sides k) (h k)) n
      where
        by : (b : Bool) (x : List ℕ) (a : Side K V H) → Has x a → (y : List ℕ) (c : Side K V H) → Has y c → Has (if b then x else y) (if b then a else c)
        by true x a p y c q = p
        by false x a p y c q = q

-- the steps through a hub, parted at one of them
pub gathering-length : (n : ℕ) → length (gathering n) ≡ n
gathering-length zero = refl
gathering-length (suc n) = let more = gathering-length n in length-append (gathering n) ((0, suc n) ∷ []) ∙ omega arith

pub spreading-length : (n : ℕ) → length (spreading n) ≡ n
spreading-length zero = refl
spreading-length (suc n) = let more = spreading-length n in length-append (spreading n) ((suc n, 0) ∷ []) ∙ omega arith
