-- Lists of page ranges in the shape of a tree, and what two of them have in common at the front.
use Rattle.std.specs.Prelude.{not, ◌&&◌, if◌then◌else◌, List, [], ◌∷◌, ⊤}
use Rattle.std.specs.List.{AllByRecursion, list_any}
use Rattle.std.specs.declared.cmp.Ordering.{Ordering}
use Rattle.key_order.specs.Interval.{Span, meets, same_span}
use Rattle.merkle_diff.specs.Entry.{Entry, span_of, EntryWithin}

module _ {K D : Type 0} (cmp : K → K → Ordering) where
  -- no entry holds an entry before it
  abbrev pub HoldsNoneBefore : List (Entry K D) → Type 0
  HoldsNoneBefore [] = ⊤
  HoldsNoneBefore (e ∷ es) = AllByRecursion (λ x. ¬ (EntryWithin cmp e x)) es × HoldsNoneBefore es

  -- each entry is within the first, and no entry holds an entry before it
  abbrev pub IsTreeShaped : List (Entry K D) → Type 0
  IsTreeShaped [] = ⊤
  IsTreeShaped (e ∷ es) = AllByRecursion (λ x. EntryWithin cmp x e) es × HoldsNoneBefore (e ∷ es)

  -- the pairs from the front on whose spans are the same and meet none of those seen
  abbrev pub leading_from : List (Span K) → List (Entry K D) → List (Entry K D) → List (Entry K D × Entry K D)
  leading_from seen [] bs = []
  leading_from seen (a ∷ rest) [] = []
  leading_from seen (a ∷ rest) (b ∷ bs) =
      if same_span cmp (span_of a) (span_of b) && not (list_any (meets cmp (span_of a)) seen) then ((a, b) ∷ leading_from (span_of a ∷ seen) rest bs) else []

  -- the leading run: the pairs after the first entries, as far as their spans are the same and no two of these meet
  abbrev pub leading_run : List (Entry K D) → List (Entry K D) → List (Entry K D × Entry K D)
  leading_run [] bs = []
  leading_run (a ∷ rest) [] = []
  leading_run (a ∷ rest) (b ∷ bs) = leading_from [] rest bs
