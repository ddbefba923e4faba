-- Entries that are the same are equal by their tests, in both orders.
use Rattle.std.proofs.Common.{◌≡◌, Bool, true, ◌&&◌, List, [], ◌∷◌, refl, sym, ◌∙◌, ap, subst}
use Rattle.std.specs.Cmp.{IsTotalOrder}
use Rattle.std.specs.Ordering.{is_eq}
use Rattle.std.specs.declared.cmp.Ordering.{Ordering}
use Rattle.merkle_diff.specs.Entry.{Entry}
use Rattle.merkle_diff.specs.SameEntries.{SameEntry, SameEntries, same_entry, same_entries}
use Rattle.merkle_diff.proofs.OrderTests.{same_back}

join : {a b : Bool} → a ≡ true → b ≡ true → a && b ≡ true
join p q = λ i. p i && q i

module _ {K D : Type 0} (cmp : K → K → Ordering) (o : IsTotalOrder cmp) (eq : K → K → Bool) (matches : (x y : K) → eq x y ≡ is_eq (cmp x y))
    (alike : D → D → Bool) (itself : (d : D) → alike d d ≡ true) where
  equal_by : (a b : Entry K D) → SameEntry cmp a b → same_entry eq alike a b ≡ true
  equal_by a b h = join (matches a.first b.first ∙ ap is_eq h.0.0) (join (matches a.last b.last ∙ ap is_eq h.0.1) (subst (λ d. alike a.digest d ≡ true) h.1 (itself a.digest)))

  entry-back : (a b : Entry K D) → SameEntry cmp a b → SameEntry cmp b a
  entry-back a b h = ((same_back cmp o a.first b.first h.0.0, same_back cmp o a.last b.last h.0.1), sym h.1)

  -- so are lists of them
  pub lists_equal : (xs ys : List (Entry K D)) → SameEntries cmp xs ys → (same_entries eq alike xs ys ≡ true) × (same_entries eq alike ys xs ≡ true)
  lists_equal [] [] h = (refl, refl)
  lists_equal [] (b ∷ ys) h = absurd h
  lists_equal (a ∷ xs) [] h = absurd h
  lists_equal (a ∷ xs) (b ∷ ys) h = let rest = lists_equal xs ys h.1 in (join (equal_by a b h.0) rest.0, join (equal_by b a (entry-back a b h.0)) rest.1)

  pub entries_equal : (a b : Entry K D) → SameEntry cmp a b → (same_entry eq alike a b ≡ true) × (same_entry eq alike b a ≡ true)
  entries_equal a b h = (equal_by a b h, equal_by b a (entry-back a b h))
