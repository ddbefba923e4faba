-- Lists with the same entries, and what an iterator over a snapshot gives.
use Rattle.std.proofs.Common.{◌≡◌, List, [], ◌∷◌, ◌++◌, map, sym, ◌∙◌, ap}
use Rattle.std.proofs.lemmas.List.{map-append}
use Rattle.std.specs.declared.cmp.Ordering.{Ordering}
use Rattle.std.specs.Iterator.{Drains, YieldsFirstBy}
use Rattle.merkle_digest.specs.declared.PageDigest.{PageDigest}
use Rattle.merkle_diff.specs.declared.page_range.PageRange.{PageRange}
use Rattle.merkle_diff.specs.Entry.{Entry}
use Rattle.merkle_diff.specs.Iterable.{Gives}
use Rattle.merkle_diff.specs.PageRange.{entry, entries}
use Rattle.merkle_diff.specs.SameEntries.{SameEntry, SameEntries}

module _ {K D : Type 0} (cmp : K → K → Ordering) where
  -- one more entry
  pub same_entries-push : (xs ys : List (Entry K D)) (x y : Entry K D) → SameEntries cmp xs ys → SameEntry cmp x y → SameEntries cmp (xs ++ x ∷ []) (ys ++ y ∷ [])
  same_entries-push [] [] x y h e = (e, tt)
  same_entries-push [] (b ∷ bs) x y h e = absurd h
  same_entries-push (a ∷ xs) [] x y h e = absurd h
  same_entries-push (a ∷ xs) (b ∷ ys) x y h e = (h.0, same_entries-push xs ys x y h.1 e)

  -- one more range, whose entry `f` reads, and one more entry
  pub same_entries-taken : {A : Type 0} (f : A → Entry K D) (xs : List A) (ys zs : List (Entry K D)) (x : A) (y : Entry K D) → zs ≡ ys ++ y ∷ []
      → SameEntries cmp (map f xs) ys → SameEntry cmp (f x) y → SameEntries cmp (map f (xs ++ x ∷ [])) zs
  same_entries-taken f xs ys zs x y e h k = rw (e, map-append f xs) (same_entries-push (map f xs) ys (f x) y h k)

-- what an iterator gave up to its end is what it had left
pub drained : {S A B : Type 0} (view : A → B) (rest : S → List B) (s : S) (xs : List A) → Drains (YieldsFirstBy view rest) s xs → map view xs ≡ rest s
drained view rest s [] d = sym (ap rest d.1.1 ∙ d.1.2.0)
drained view rest s (x ∷ xs) d =
    ap (λ ys. view x ∷ ys) (drained view rest d.1.1.0 xs (d.0, (d.1.0, d.1.1.2, d.1.2))) ∙ sym d.1.1.1

-- the ranges that the iterator of a snapshot gives are those of the snapshot
pub given-by_snapshot : {K o e p : _} (s it : List (Entry K PageDigest)) (xs : List (PageRange K o e p)) → it ≡ s
    → Gives (λ from made. made ≡ from) (YieldsFirstBy entry (λ rest. rest)) it xs → entries xs ≡ s
given-by_snapshot s it xs e h = drained entry (λ rest. rest) h.0 xs h.2 ∙ h.1 ∙ e
