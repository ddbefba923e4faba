-- Entries inserted at their places gather what they and those before them gather.
use Rattle.std.proofs.Common.{◌≡◌, Bool, Option, List, [], ◌∷◌, ◌++◌, inl, inr, Equal}
use Rattle.std.specs.Cmp.{IsTotalOrder, IsEquivalence}
use Rattle.std.specs.Ordering.{eq_by_cmp}
use Rattle.key_order.specs.Join.{joined, IsJoining}
use Rattle.key_order.specs.Text.{Text as Key, text_order}
use Rattle.key_order.proofs.Values.{Eq, on, back, assoc, comm, cong, same, to_none, idem}
use Rattle.merkle_replica.specs.Puts.{join_of_values}
use Rattle.store_file.specs.Entries.{entry_order}
use Rattle.store_file.specs.Registers.{register_order}
use Rattle.store_file.specs.declared.register.Register.{Register}
use Rattle.store_file.proofs.Inserting.{IsPlaced, AreInserted}
use Rattle.merkle_store.proofs.Agreeing.{at, at_alike}

module _ (eq : Register → Register → Bool) (e : IsEquivalence eq) (join : Register → Register → Register) (j : IsJoining eq join) where
  abbrev J : Option Register → Option Register → Option Register
  J = joined join

  abbrev E : Option Register → Option Register → Type 0
  E = Eq eq e join j

  -- of three that are joined the first two change places
  pub swap : (a b c : Option Register) → E (J a (J b c)) (J b (J a c))
  swap a b c =
      on eq e join j (J a (J b c)) (J (J a b) c) (J b (J a c)) (back eq e join j (J (J a b) c) (J a (J b c)) (assoc eq e join j a b c))
      (on eq e join j (J (J a b) c) (J (J b a) c) (J b (J a c)) (cong eq e join j (J a b) (J b a) c c (comm eq e join j a b) (same eq e join j c)) (assoc eq e join j b a c))

  -- what is there already adds nothing
  again : (a b c : Option Register) → E b a → E (J b c) (J a (J b c))
  again a b c alike =
      back eq e join j (J a (J b c)) (J b c)
      (on eq e join j (J a (J b c)) (J (J a b) c) (J b c) (back eq e join j (J (J a b) c) (J a (J b c)) (assoc eq e join j a b c))
      (cong eq e join j (J a b) b c c (on eq e join j (J a b) (J b b) b (cong eq e join j a b b b (back eq e join j b a alike) (same eq e join j b)) (idem eq e join j b)) (same eq e join j c)))

  -- what adds n to c does so after y too
  behind : (n y b c : Option Register) → E b (J n c) → E (J y b) (J n (J y c))
  behind n y b c h = on eq e join j (J y b) (J y (J n c)) (J n (J y c)) (cong eq e join j y y b (J n c) (same eq e join j y) h) (swap y n c)

  module _ (total : IsTotalOrder text_order) (ties : (a b : Register) → eq a b ≡ eq_by_cmp register_order a b) where
    abbrev G : List (Key × Register) → Key → Option Register
    G = join_of_values text_order eq join

    abbrev A : Key → Key × Register → Option Register
    A = at eq e join j total ties

    module _ (new : Key × Register) (k : Key) where
      -- where an equal entry is there, a new one adds nothing
      stays : (front : List (Key × Register)) (x : Key × Register) (rest : List (Key × Register)) → entry_order x new ≡ Equal → E (G (front ++ x ∷ rest) k) (J (A k new) (G (front ++ x ∷ rest) k))
      stays [] x rest tie = again (A k new) (A k x) (G rest k) (at_alike eq e join j total ties k x new tie)
      stays (y ∷ front) x rest tie = let all = G (front ++ x ∷ rest) k in behind (A k new) (A k y) all all (stays front x rest tie)

      -- where it comes between others, it is joined with them
      comes : (front rest : List (Key × Register)) → E (G (front ++ new ∷ rest) k) (J (A k new) (G (front ++ rest) k))
      comes [] rest = same eq e join j (J (A k new) (G rest k))
      comes (y ∷ front) rest = behind (A k new) (A k y) (G (front ++ new ∷ rest) k) (G (front ++ rest) k) (comes front rest)

      placed_gather : (es all : List (Key × Register)) → IsPlaced new es all → E (G all k) (J (A k new) (G es k))
      placed_gather es all (inl there) = let own = there.1 in rw (there.0, own.parts) (stays own.front own.entry own.back own.equal)
      placed_gather es all (inr between) = rw (between.new, between.old) (comes between.front between.back)

    -- entries with others inserted gather what both gather
    pub inserted_gather : (k : Key) (added es all : List (Key × Register)) → AreInserted added es all → E (G all k) (J (G es k) (G added k))
    inserted_gather k [] es all is = rw is (back eq e join j (J (G es k) (G [] k)) (G es k) (to_none eq e join j (G es k)))
    inserted_gather k (new ∷ added) es all is =
        let N = A k new in
        let B = G es k in
        let M = G added k in
        let mid = G is.0 k in
        on eq e join j (G all k) (J mid M) (J B (J N M)) (inserted_gather k added is.0 all is.2)
        (on eq e join j (J mid M) (J (J B N) M) (J B (J N M))
        (cong eq e join j mid (J B N) M M (on eq e join j mid (J N B) (J B N) (placed_gather new k es is.0 is.1.placed) (comm eq e join j N B)) (same eq e join j M))
        (assoc eq e join j B N M))
