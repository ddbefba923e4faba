-- What a pull takes of one key, up to equality.
use Rattle.std.proofs.Common.{◌≡◌, Bool, true, false, cond, Option, Some, None, ◌∙◌, ◌⊎◌, inl, inr}
use Rattle.std.proofs.lemmas.Bool.{false≢true}
use Rattle.std.specs.Prelude.{⊤}
use Rattle.std.specs.Cmp.{IsEquivalence}
use Rattle.key_order.specs.Map.{IsPresent}
use Rattle.key_order.specs.Join.{IsJoining}
use Rattle.key_order.proofs.Values.{Eq, J, same, back, on, assoc, cong, idem, to_none}

module _ {V : Type 0} (eq : V → V → Bool) (e : IsEquivalence eq) (join : V → V → V) (j : IsJoining eq join) where
  -- what a pull takes of one key
  abbrev pub Taken : Bool → Option V → Option V
  Taken q y = cond q y None

  -- a pull leaves the join of both as it was
  pub keeps_join : (q : Bool) (x y x' : Option V) → Eq eq e join j x' (J eq e join j x (Taken q y)) → Eq eq e join j (J eq e join j x' y) (J eq e join j x y)
  keeps_join false x y x' h = cong eq e join j x' x y y (on eq e join j x' (J eq e join j x None) x h (to_none eq e join j x)) (same eq e join j y)
  keeps_join true x y x' h =
      on eq e join j (J eq e join j x' y) (J eq e join j (J eq e join j x y) y) (J eq e join j x y) (cong eq e join j x' (J eq e join j x y) y y h (same eq e join j y))
      (on eq e join j (J eq e join j (J eq e join j x y) y) (J eq e join j x (J eq e join j y y)) (J eq e join j x y) (assoc eq e join j x y y)
      (cong eq e join j x x (J eq e join j y y) y (same eq e join j x) (idem eq e join j y)))

  -- nothing there, or the same eq e join j as here
  abbrev pub SameOrAbsent : Option V → Option V → Type 0
  SameOrAbsent x None = ⊤
  SameOrAbsent None (Some b) = ⊥
  SameOrAbsent (Some a) (Some b) = eq a b ≡ true

  pub same_join : (x y : Option V) → SameOrAbsent x y → Eq eq e join j x (J eq e join j x y)
  same_join x None h = back eq e join j (J eq e join j x None) x (to_none eq e join j x)
  same_join None (Some b) h = absurd h
  same_join (Some a) (Some b) h =
      back eq e join j (Some (join a b)) (Some a) (on eq e join j (Some (join a b)) (Some (join a a)) (Some a) (j.respects a a b a (e.refl a) (e.symm b a ∙ h)) (j.idempotent a))

  -- a pull that takes all that differs leaves the join of both
  pub takes_all : (q : Bool) (x y x' : Option V) → Eq eq e join j x' (J eq e join j x (Taken q y)) → (q ≡ true) ⊎ SameOrAbsent x y → Eq eq e join j x' (J eq e join j x y)
  takes_all true x y x' h k = h
  takes_all false x y x' h (inl k) = absurd (false≢true k)
  takes_all false x y x' h (inr k) = on eq e join j x' x (J eq e join j x y) (on eq e join j x' (J eq e join j x None) x h (to_none eq e join j x)) (same_join x y k)

  -- a pull between two that are at the join stays there
  pub stays : (q : Bool) (x y x' f : Option V) → Eq eq e join j x' (J eq e join j x (Taken q y)) → Eq eq e join j x f → Eq eq e join j y f → Eq eq e join j x' f
  stays true x y x' f h k m = on eq e join j x' (J eq e join j x y) f h (on eq e join j (J eq e join j x y) (J eq e join j f f) f (cong eq e join j x f y f k m) (idem eq e join j f))
  stays false x y x' f h k m = on eq e join j x' (J eq e join j x None) f h (on eq e join j (J eq e join j x None) x f (to_none eq e join j x) k)

  -- ---- presence

  pub there : (a b : Option V) → Eq eq e join j a b → IsPresent a → IsPresent b
  there None b h p = absurd p
  there (Some a) None h p = absurd h
  there (Some a) (Some b) h p = tt

  pub there_left : (a b : Option V) → IsPresent a → IsPresent (J eq e join j a b)
  there_left None b p = absurd p
  there_left (Some a) None p = tt
  there_left (Some a) (Some b) p = tt

  pub there_right : (a b : Option V) → IsPresent b → IsPresent (J eq e join j a b)
  there_right None b p = p
  there_right (Some a) None p = tt
  there_right (Some a) (Some b) p = tt

  pub there_one : (a b : Option V) → IsPresent (J eq e join j a b) → IsPresent a ⊎ IsPresent b
  there_one None b p = inr p
  there_one (Some a) b p = inl tt

  pub taken_there : (q : Bool) (y : Option V) → IsPresent (Taken q y) → IsPresent y
  taken_there true y p = p
  taken_there false y p = absurd p
