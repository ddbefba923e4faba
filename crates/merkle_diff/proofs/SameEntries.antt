-- Lists of the same entries: what holds of one holds of the other.
use Rattle.std.proofs.Common.{List, [], ◌∷◌, ◌++◌, refl, sym, ◌∙◌, inl, inr}
use Rattle.std.specs.List.{AllByRecursion}
use Rattle.std.specs.Cmp.{IsTotalOrder, tied_itself, tied_back}
use Rattle.std.specs.declared.cmp.Ordering.{Ordering}
use Rattle.key_order.specs.Order.{AnyByRecursion}
use Rattle.merkle_diff.specs.Entry.{Entry}
use Rattle.merkle_diff.specs.SameEntries.{SameEntry, SameEntries}
use Rattle.merkle_diff.proofs.OrderTests.{same_trans}

module _ {K D : Type 0} (cmp : K → K → Ordering) where
  pub same_entries-append : (ls bs cs ds : List (Entry K D)) → SameEntries cmp ls bs → SameEntries cmp cs ds → SameEntries cmp (ls ++ cs) (bs ++ ds)
  same_entries-append [] [] cs ds h k = k
  same_entries-append [] (b ∷ bs) cs ds h k = absurd h
  same_entries-append (a ∷ ls) [] cs ds h k = absurd h
  same_entries-append (a ∷ ls) (b ∷ bs) cs ds h k = (h.0, same_entries-append ls bs cs ds h.1 k)

  pub any-entry : (P Q : Entry K D → Type 0) → ((a b : Entry K D) → SameEntry cmp a b → P a → Q b) → (ls bs : List (Entry K D)) → SameEntries cmp ls bs → AnyByRecursion P ls → AnyByRecursion Q bs
  any-entry P Q f [] bs h i = absurd i
  any-entry P Q f (a ∷ ls) [] h i = absurd h
  any-entry P Q f (a ∷ ls) (b ∷ bs) h (inl i) = inl (f a b h.0 i)
  any-entry P Q f (a ∷ ls) (b ∷ bs) h (inr i) = inr (any-entry P Q f ls bs h.1 i)

  pub each-entry : (P Q : Entry K D → Type 0) → ((a b : Entry K D) → SameEntry cmp a b → P a → Q b) → (ls bs : List (Entry K D)) → SameEntries cmp ls bs → AllByRecursion P ls → AllByRecursion Q bs
  each-entry P Q f [] [] h i = tt
  each-entry P Q f [] (b ∷ bs) h i = absurd h
  each-entry P Q f (a ∷ ls) [] h i = absurd h
  each-entry P Q f (a ∷ ls) (b ∷ bs) h i = (f a b h.0 i.0, each-entry P Q f ls bs h.1 i.1)

module _ {K D : Type 0} (cmp : K → K → Ordering) (o : IsTotalOrder cmp) where
  pub same_entries-own : (ls : List (Entry K D)) → SameEntries cmp ls ls
  same_entries-own [] = tt
  same_entries-own (a ∷ ls) = (((tied_itself o a.first, tied_itself o a.last), refl), same_entries-own ls)

  pub same_entry-back : (a b : Entry K D) → SameEntry cmp a b → SameEntry cmp b a
  same_entry-back a b h = ((tied_back o a.first b.first h.0.0, tied_back o a.last b.last h.0.1), sym h.1)

  pub same_entries-back : (ls bs : List (Entry K D)) → SameEntries cmp ls bs → SameEntries cmp bs ls
  same_entries-back [] [] h = tt
  same_entries-back [] (b ∷ bs) h = absurd h
  same_entries-back (a ∷ ls) [] h = absurd h
  same_entries-back (a ∷ ls) (b ∷ bs) h = (same_entry-back a b h.0, same_entries-back ls bs h.1)

  pub same_entries-trans : (ls bs cs : List (Entry K D)) → SameEntries cmp ls bs → SameEntries cmp bs cs → SameEntries cmp ls cs
  same_entries-trans [] [] cs h k = k
  same_entries-trans [] (b ∷ bs) cs h k = absurd h
  same_entries-trans (a ∷ ls) [] cs h k = absurd h
  same_entries-trans (a ∷ ls) (b ∷ bs) [] h k = absurd k
  same_entries-trans (a ∷ ls) (b ∷ bs) (c ∷ cs) h k = (
    ((same_trans cmp o a.first b.first c.first h.0.0.0 k.0.0.0, same_trans cmp o a.last b.last c.last h.0.0.1 k.0.0.1), h.0.1 ∙ k.0.1),
    same_entries-trans ls bs cs h.1 k.1,
  )
