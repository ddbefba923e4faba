-- The walk of the open ranges, the innermost first.
use Rattle.std.specs.Prelude.{◌≡◌, List, [], ◌∷◌, ◌++◌, Option, Some}
use Rattle.std.specs.declared.cmp.Ordering.{Ordering}
use Rattle.key_order.specs.Interval.{Span}
use Rattle.merkle_diff.specs.Entry.{Entry}
use Rattle.merkle_diff.specs.Walk.{Walk, Mark, front_within, after_within, bad_marks}

module _ {K D : Type 0} (cmp : K → K → Ordering) where
  -- the walk of R goes on after `last`; then those of the ranges below go on
  abbrev pub Rest : List (Span K) → Span K → Option (Span K) → List (Entry K D) → List (Entry K D) → List (Mark K) → List (Entry K D) → List (Entry K D) → Type 0
  Rest [] R last P L ms P' L' = Walk cmp R last P L ms P' L'
  Rest (O ∷ below) R last P L ms P' L' =
      (m1 : List (Mark K)) × (m2 : List (Mark K)) × (P1 : List (Entry K D)) × (L1 : List (Entry K D))
      × Walk cmp R last P L m1 P1 L1 × Rest below O (Some R) (after_within cmp R P1) L1 m2 P' L'
      × (ms ≡ m1 ++ (bad_marks cmp (front_within cmp R P1) ++ m2))
