-- What holds of the value at each key that rows have is what holds of each row.
use Rattle.std.proofs.Common.{◌≡◌, Bool, true, false, List, [], ◌∷◌, Some, None, ◌⊎◌, inl, inr, sym, subst, ap, ◌∙◌}
use Rattle.std.specs.Prelude.{◌↔◌, IsTrue}
use Rattle.std.specs.List.{All, AllByRecursion}
use Rattle.std.proofs.lemmas.List.Elements.{All-from_recursion, recursion_from_All}
use Rattle.std.specs.Cmp.{IsTotalOrder}
use Rattle.std.specs.Ordering.{is_eq}
use Rattle.std.specs.declared.cmp.Ordering.{Ordering}
use Rattle.key_order.specs.Map.{IsMap, get}
use Rattle.key_order.specs.Order.{Same}
use Rattle.key_order.proofs.Bools.{which, is_equal}
use Rattle.key_order.proofs.Maps.{at_head, past_head, get_same}
use Rattle.merkle_diff.proofs.Each.{each-with}
use Rattle.merkle_replica.specs.Contents.{Contents, side}
use Rattle.merkle_replica.specs.Faithful.{HaveFaithfulValues}
use Rattle.merkle_replica.specs.Laws.{Laws}
use Rattle.merkle_wire.specs.Sessions.{DigestTheirValuesAlike}
use Rattle.merkle_wire.proofs.StepCovers.{finds_own}
use Rattle.merkle_audit.specs.Values.{HasOneDigest, IsToldApart}

-- what a call tells of all elements of a list it tells of what that comes to
pub told_of_all : {X T : Type 0} (P : X → Type 0) (told : Bool) (xs all : List X) → xs ≡ all → IsTrue told ↔ All P xs → (AllByRecursion P all → T) → (T → AllByRecursion P all)
    → IsTrue told ↔ T
told_of_all P told xs all same tells there back =
    (λ is. there (recursion_from_All P all (subst (All P) same (tells.0 is))), λ t. tells.1 (subst (All P) (sym same) (All-from_recursion P all (back t))))

module _ {K V : Type 0} (cmp : K → K → Ordering) (o : IsTotalOrder cmp) where
  -- what holds of each row holds of the value that is found at a key, with an equal key
  at_key : (P : K × V → Type 0) (rows : List (K × V)) (k : K) (v : V) → AllByRecursion P rows → get cmp rows k ≡ Some v → (j : K) × Same cmp j k × P (j, v)
  at_key P [] k v each e = absurd (cc)
  at_key P (r ∷ rs) k v each e = go (which (is_eq (cmp r.0 k))) (at_key P rs k v each.1)
    where
      go : (is_eq (cmp r.0 k) ≡ false) ⊎ (is_eq (cmp r.0 k) ≡ true) → (get cmp rs k ≡ Some v → (j : K) × Same cmp j k × P (j, v)) → (j : K) × Same cmp j k × P (j, v)
      go (inl other) rest = rest (sym (past_head cmp o r rs k other) ∙ e)
      go (inr same) rest =
          let s : Same cmp r.0 k = is_equal (cmp r.0 k) same in
          let found : Some r.1 ≡ Some v = sym (at_head cmp o r rs k s) ∙ e in
          let is : r.1 ≡ v = cc in
          (r.0, s, subst (λ w. P (r.0, w)) is each.0)

module _ {K V H : Type 0} (laws : Laws K V H) (o : IsTotalOrder laws.cmp) (a b : Contents K V H) where
  abbrev Apart : K × V → Type 0
  Apart = IsToldApart laws.cmp laws.eq laws.value_digest a b

  abbrev Alike : K × V → Type 0
  Alike = HasOneDigest laws.value_digest a b

  -- values are faithful where each row of the one side is told apart from what the other has at its key
  pub rows_faithful : AllByRecursion Apart a.rows → HaveFaithfulValues laws (side a) (side b)
  rows_faithful each k x y own other digests =
      let (j, s, apart) = at_key laws.cmp o Apart a.rows k x each own in
      apart y (get_same laws.cmp o b.rows j k s ∙ other) digests

  pub faithful_rows : IsMap laws.cmp a.rows → HaveFaithfulValues laws (side a) (side b) → AllByRecursion Apart a.rows
  faithful_rows up faithful =
      each-with (λ r. get laws.cmp a.rows r.0 ≡ Some r.1) Apart a.rows (λ r own y other digests. faithful r.0 r.1 y own other digests) (finds_own laws.cmp o a.rows up)

  -- values are digested alike where that of each row of the peer is
  pub rows_alike : AllByRecursion Alike b.rows → DigestTheirValuesAlike laws (side a) (side b)
  rows_alike each k v there =
      let (j, s, alike) = at_key laws.cmp o Alike b.rows k v each there in
      alike

  pub alike_rows : IsMap laws.cmp b.rows → DigestTheirValuesAlike laws (side a) (side b) → AllByRecursion Alike b.rows
  alike_rows up alike = each-with (λ r. get laws.cmp b.rows r.0 ≡ Some r.1) Alike b.rows (λ r own. alike r.0 r.1 own) (finds_own laws.cmp o b.rows up)
