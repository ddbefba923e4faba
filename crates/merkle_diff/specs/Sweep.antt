-- Merging from the front on.
use Rattle.std.specs.Prelude.{if◌then◌else◌, List, [], ◌∷◌}
use Rattle.std.specs.declared.cmp.Ordering.{Ordering}
use Rattle.key_order.specs.Interval.{Span}
use Rattle.key_order.specs.Order.{upto}

module _ {K : Type 0} (cmp : K → K → Ordering) where
  -- the greater end
  abbrev pub greater : K → K → K
  greater a b = if upto cmp b a then a else b

  -- `open` grows by each range that begins in it, until one does not
  abbrev pub sweep : Span K → List (Span K) → List (Span K)
  sweep current [] = current ∷ []
  sweep current (s ∷ ss) =
      if upto cmp s.first current.last then sweep (record { first = current.first; last = greater current.last s.last }) ss else (current ∷ sweep s ss)

  abbrev pub sweep_of : List (Span K) → List (Span K)
  sweep_of [] = []
  sweep_of (s ∷ ss) = sweep s ss
