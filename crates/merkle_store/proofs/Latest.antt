-- Of two registers the later stays.
use Rattle.std.proofs.Common.{◌≡◌, Bool, true, false, cond, List, [], ◌∷◌, Option, Some, None, ◌⊎◌, inl, inr, refl, sym, subst, ◌∙◌}
use Rattle.std.specs.List.{filter}
use Rattle.std.specs.Cmp.{IsTotalOrder, IsEquivalence}
use Rattle.std.specs.Ordering.{ord_max, is_eq, is_lt}
use Rattle.key_order.specs.Map.{get}
use Rattle.key_order.specs.Join.{joined, IsJoining}
use Rattle.key_order.specs.Order.{Below, Upto}
use Rattle.key_order.specs.Text.{Text as Key, text_order}
use Rattle.key_order.proofs.Bools.{which, is_equal}
use Rattle.key_order.proofs.Maps.{get_same}
use Rattle.key_order.proofs.Orders.{either, not_both}
use Rattle.key_order.proofs.Values.{Eq, on, back, assoc, cong, same, to_none}
use Rattle.merkle_replica.specs.Puts.{join_of_values}
use Rattle.store_file.specs.Registers.{is_later, register_order}
use Rattle.merkle_store.specs.Kept.{JoinTheSame}
use Rattle.merkle_store.proofs.Adding.{swap}
use Rattle.store_file.specs.declared.register.Register.{Register}

module _ (o : IsTotalOrder register_order) (eq : Register → Register → Bool) (e : IsEquivalence eq) (j : IsJoining eq (ord_max register_order)) (total : IsTotalOrder text_order) where
  second : (a b : Register) → Upto register_order a b → ord_max register_order a b ≡ b
  second a b h = by (which (is_lt (register_order b a)))
    where
      by : (is_lt (register_order b a) ≡ false) ⊎ (is_lt (register_order b a) ≡ true) → ord_max register_order a b ≡ b
      by (inl f) = rw f refl
      by (inr f) = absurd (not_both register_order o a b h f)

  -- what is not later adds nothing
  not_later : (own r : Register) → is_lt (register_order own r) ≡ false → eq (ord_max register_order own r) own ≡ true
  not_later own r n = by (either register_order o r own)
    where
      by : Upto register_order r own ⊎ Below register_order own r → eq (ord_max register_order own r) own ≡ true
      by (inl h) = subst (λ x. eq (ord_max register_order own r) x ≡ true) (second r own h) (j.commutative own r)
      by (inr h) = absurd (let k = sym n ∙ h in cc)

  module _ (rows : List (Key × Register)) where
    abbrev later : Key × Register → Bool
    later r = is_later (get text_order rows r.0) r.1

    abbrev at : Key → Key × Register → Option Register
    at k r = cond (is_eq (text_order r.0 k)) (Some r.1) None

    adds_nothing : (r : Key × Register) (k : Key) → later r ≡ false → Eq eq e (ord_max register_order) j (joined (ord_max register_order) (get text_order rows k) (at k r)) (get text_order rows k)
    adds_nothing r k n = by (which (is_eq (text_order r.0 k)))
      where
        own : (x : Option Register) → is_later x r.1 ≡ false → Eq eq e (ord_max register_order) j (joined (ord_max register_order) x (Some r.1)) x
        own None h = absurd (let z = h in cc)
        own (Some x) h = not_later x r.1 h

        by : (is_eq (text_order r.0 k) ≡ false) ⊎ (is_eq (text_order r.0 k) ≡ true)
            → Eq eq e (ord_max register_order) j (joined (ord_max register_order) (get text_order rows k) (at k r)) (get text_order rows k)
        by (inl f) = rw f (to_none eq e (ord_max register_order) j (get text_order rows k))
        by (inr f) = rw f (own (get text_order rows k) (subst (λ x. is_later x r.1 ≡ false) (get_same text_order total rows r.0 k (is_equal (text_order r.0 k) f)) n))

    abbrev J : Option Register → Option Register → Option Register
    J = joined (ord_max register_order)

    -- joined with the rows, the later entries make the same as all
    pub later_join_the_same : (entries : List (Key × Register)) → JoinTheSame eq (ord_max register_order) rows entries (filter later entries)
    later_join_the_same [] k = same eq e (ord_max register_order) j (joined (ord_max register_order) (get text_order rows k) None)
    later_join_the_same (r ∷ entries) k = by (which (later r)) (later_join_the_same entries k)
      where
        by : (later r ≡ false) ⊎ (later r ≡ true) → Eq eq e (ord_max register_order) j
            (joined (ord_max register_order) (get text_order rows k) (join_of_values text_order eq (ord_max register_order) entries k))
            (joined (ord_max register_order) (get text_order rows k) (join_of_values text_order eq (ord_max register_order) (filter later entries) k))
            → Eq eq e (ord_max register_order) j (joined (ord_max register_order) (get text_order rows k)
            (join_of_values text_order eq (ord_max register_order) (r ∷ entries) k))
            (joined (ord_max register_order) (get text_order rows k) (join_of_values text_order eq (ord_max register_order) (filter later (r ∷ entries)) k))
        by (inl n) h =
            let A = get text_order rows k in
            let G = join_of_values text_order eq (ord_max register_order) entries k in
            let G' = join_of_values text_order eq (ord_max register_order) (filter later entries) k in
            let R = at k r in
            rw n (on eq e (ord_max register_order) j (J A (J R G)) (J A G) (J A G')
            (on eq e (ord_max register_order) j (J A (J R G)) (J (J A R) G) (J A G) (back eq e (ord_max register_order) j (J (J A R) G) (J A (J R G)) (assoc eq e (ord_max register_order) j A R G))
            (cong eq e (ord_max register_order) j (J A R) A G G (adds_nothing r k n) (same eq e (ord_max register_order) j G))) h)
        by (inr n) h =
            let A = get text_order rows k in
            let G = join_of_values text_order eq (ord_max register_order) entries k in
            let G' = join_of_values text_order eq (ord_max register_order) (filter later entries) k in
            let R = at k r in
            rw n (on eq e (ord_max register_order) j (J A (J R G)) (J R (J A G)) (J A (J R G')) (swap eq e (ord_max register_order) j A R G)
            (on eq e (ord_max register_order) j (J R (J A G)) (J R (J A G')) (J A (J R G')) (cong eq e (ord_max register_order) j R R (J A G) (J A G') (same eq e (ord_max register_order) j R) h)
            (swap eq e (ord_max register_order) j R A G')))
