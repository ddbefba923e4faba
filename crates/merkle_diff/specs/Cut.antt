-- Good spans cut out of bad ones: the laws of a cut, and the exact cut.
use Rattle.std.specs.Prelude.{if◌then◌else◌, List, [], ◌∷◌, ◌++◌, ◌⊎◌}
use Rattle.std.specs.List.{AllByRecursion, flat_map}
use Rattle.std.specs.declared.cmp.Ordering.{Ordering}
use Rattle.key_order.specs.Order.{AnyByRecursion, Same, below}
use Rattle.key_order.specs.Interval.{Span, IsInside, IsCovered, IsApart, meets}
use Rattle.merkle_diff.specs.Merge.{IsMerge}

module _ {K : Type 0} (cmp : K → K → Ordering) where
  -- k is equal to a bound of one of the spans
  abbrev pub IsBoundOf : List (Span K) → K → Type 0
  IsBoundOf ss k = AnyByRecursion (λ s. Same cmp k s.first ⊎ Same cmp k s.last) ss

  -- the laws of a cut of good spans out of bad ones
  pub record IsCut (bad good result : List (Span K)) : Type 0 where
    -- each key of the result is in a bad span, and strictly inside no good one
    pub kept : (k : K) → IsCovered cmp k result → IsCovered cmp k bad × AllByRecursion (λ g. ¬ (IsInside cmp k g)) good
    -- each key that is in a bad span and in no good one is in the result
    pub covers : (k : K) → IsCovered cmp k bad → ¬ (IsCovered cmp k good) → IsCovered cmp k result
    -- each bound of the result is equal to a bound of a bad or a good span
    pub bounds : AllByRecursion (λ s. (IsBoundOf bad s.first ⊎ IsBoundOf good s.first) × (IsBoundOf bad s.last ⊎ IsBoundOf good s.last)) result
    -- the result is ascending, and no two of its spans meet
    pub apart : IsApart cmp result

  -- the span from a to b, if a is below b
  abbrev pub piece : K → K → List (Span K)
  piece a b = if below cmp a b then (record { first = a; last = b } ∷ []) else []

  -- what is left of s where g is cut out of it
  abbrev pub cut_one : Span K → Span K → List (Span K)
  cut_one g s = if meets cmp g s then (piece s.first g.first ++ piece g.last s.last) else (s ∷ [])

  -- the pieces that are left where each of the good spans, in order, is cut out of the bad ones
  abbrev pub pieces_left : List (Span K) → List (Span K) → List (Span K)
  pieces_left bad [] = bad
  pieces_left bad (g ∷ good) = pieces_left (flat_map (cut_one g) bad) good

  -- the merge of these pieces
  abbrev pub IsExactCut : List (Span K) → List (Span K) → List (Span K) → Type 0
  IsExactCut bad good result = IsMerge cmp (pieces_left bad good) result
