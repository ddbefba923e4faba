-- Entries that are equal: equal bounds, and the same digest.
use Rattle.std.specs.Prelude.{◌≡◌, Bool, true, List, [], ◌∷◌, ⊤}
use Rattle.std.specs.Cmp.Lexicographic.{pointwise}
use Rattle.std.specs.Ordering.{eq_of_both, on}
use Rattle.std.specs.declared.cmp.Ordering.{Ordering}
use Rattle.key_order.specs.Interval.{SameSpan}
use Rattle.merkle_diff.specs.Entry.{Entry, span_of}

module _ {K D : Type 0} (cmp : K → K → Ordering) where
  -- equal bounds, and the same digest
  abbrev pub SameEntry : Entry K D → Entry K D → Type 0
  SameEntry a b = SameSpan cmp (span_of a) (span_of b) × (a.digest ≡ b.digest)

  -- the same entries, place by place
  abbrev pub SameEntries : List (Entry K D) → List (Entry K D) → Type 0
  SameEntries [] [] = ⊤
  SameEntries [] (b ∷ bs) = ⊥
  SameEntries (a ∷ rest) [] = ⊥
  SameEntries (a ∷ rest) (b ∷ bs) = SameEntry a b × SameEntries rest bs

module _ {K D : Type 0} (eq : K → K → Bool) (alike : D → D → Bool) where
  -- the test of `SameEntry`, by tests of keys and of digests
  abbrev pub same_entry : Entry K D → Entry K D → Bool
  same_entry = eq_of_both (on (λ e. e.first) eq) (eq_of_both (on (λ e. e.last) eq) (on (λ e. e.digest) alike))

  -- the test of `SameEntries`
  abbrev pub same_entries : List (Entry K D) → List (Entry K D) → Bool
  same_entries = pointwise same_entry

-- each of the two is equal to the other by the test
abbrev pub EqualBothWays : {X : Type 0} → (X → X → Bool) → X → X → Type 0
EqualBothWays eq a b = (eq a b ≡ true) × (eq b a ≡ true)
