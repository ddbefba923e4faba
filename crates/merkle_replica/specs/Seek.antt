-- Which of ascending ranges a key is in, or before.
use Rattle.std.specs.Prelude.{Bool, false, cond, List, [], ◌∷◌}
use Rattle.std.specs.declared.cmp.Ordering.{Ordering}
use Rattle.key_order.specs.Order.{upto, below}
use Rattle.key_order.specs.Interval.{Span}

module _ {K : Type 0} (cmp : K → K → Ordering) where
  -- the ranges from the first on that doesn't end below the key
  abbrev pub ranges_from : K → List (Span K) → List (Span K)
  ranges_from k [] = []
  ranges_from k (s ∷ ss) = cond (below cmp s.last k) (ranges_from k ss) (s ∷ ss)

  -- the first range begins at the key or below it
  abbrev pub begins_upto : K → List (Span K) → Bool
  begins_upto k [] = false
  begins_upto k (s ∷ ss) = upto cmp s.first k
