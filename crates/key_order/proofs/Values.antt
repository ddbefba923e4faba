-- The laws of `joined`: values that are there or not, up to equality.
use Rattle.std.proofs.Common.{◌≡◌, Bool, true, Option, Some, None, ◌∙◌, subst}
use Rattle.std.specs.Cmp.{IsEquivalence}
use Rattle.key_order.specs.Map.{SameValue}
use Rattle.key_order.specs.Join.{joined, IsJoining}

module _ {V : Type 0} (eq : V → V → Bool) (e : IsEquivalence eq) (join : V → V → V) (j : IsJoining eq join) where
  -- the relation that values are in
  abbrev pub Eq : Option V → Option V → Type 0
  Eq = SameValue (λ x y. eq x y ≡ true)

  pub same : (a : Option V) → Eq a a
  same None = tt
  same (Some a) = e.refl a

  pub back : (a b : Option V) → Eq a b → Eq b a
  back None None h = tt
  back None (Some b) h = absurd h
  back (Some a) None h = absurd h
  back (Some a) (Some b) h = e.symm b a ∙ h

  pub on : (a b c : Option V) → Eq a b → Eq b c → Eq a c
  on None None None h k = tt
  on None None (Some c) h k = absurd k
  on None (Some b) c h k = absurd h
  on (Some a) None c h k = absurd h
  on (Some a) (Some b) None h k = absurd k
  on (Some a) (Some b) (Some c) h k = e.congr a b c h ∙ k

  pub along : (a b : Option V) → a ≡ b → Eq a b
  along a b h = subst (Eq a) h (same a)

  abbrev pub J : Option V → Option V → Option V
  J = joined join

  pub idem : (a : Option V) → Eq (J a a) a
  idem None = tt
  idem (Some a) = j.idempotent a

  pub comm : (a b : Option V) → Eq (J a b) (J b a)
  comm None None = tt
  comm None (Some b) = e.refl b
  comm (Some a) None = e.refl a
  comm (Some a) (Some b) = j.commutative a b

  pub assoc : (a b c : Option V) → Eq (J (J a b) c) (J a (J b c))
  assoc None b c = same (J b c)
  assoc (Some a) None c = same (J (Some a) c)
  assoc (Some a) (Some b) None = e.refl (join a b)
  assoc (Some a) (Some b) (Some c) = j.associative a b c

  pub cong : (a b c d : Option V) → Eq a b → Eq c d → Eq (J a c) (J b d)
  cong None None c d h k = k
  cong None (Some b) c d h k = absurd h
  cong (Some a) None c d h k = absurd h
  cong (Some a) (Some b) None None h k = h
  cong (Some a) (Some b) None (Some d) h k = absurd k
  cong (Some a) (Some b) (Some c) None h k = absurd k
  cong (Some a) (Some b) (Some c) (Some d) h k = j.respects a b c d h k

  pub to_none : (a : Option V) → Eq (J a None) a
  to_none None = tt
  to_none (Some a) = e.refl a
