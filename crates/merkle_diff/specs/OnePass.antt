-- What a pass over two lists of ranges leaves.
use Rattle.std.specs.Global.{Vec}
use Rattle.std.specs.Prelude.{◌≡◌, ℕ, List, [], ◌∷◌, drop}
use Rattle.std.specs.List.{AllByRecursion}
use Rattle.std.specs.declared.cmp.Ordering.{Ordering}
use Rattle.key_order.specs.Interval.{Span}
use Rattle.key_order.specs.Order.{Below}
use Rattle.merkle_diff.specs.Cut.{pieces_left}
use Rattle.merkle_diff.specs.DiffRange.{span, spans, AddsSpans}
use Rattle.merkle_diff.specs.declared.diff_range.DiffRange.{DiffRange}

-- of ranges after the key, both lists of good ones leave the same pieces
abbrev pub LeavesAlike : {K : Type 0} → (K → K → Ordering) → K → List (Span K) → List (Span K) → Type 0
LeavesAlike {K} cmp last good rest = (later : List (Span K)) → AllByRecursion (λ s. Below cmp last s.first) later → pieces_left cmp later rest ≡ pieces_left cmp later good

-- so do the good ranges from `first` on and those from `next` on
abbrev pub LeavesAlikeFrom : {K : Type 0} {o e p : _} → (K → K → Ordering) → K → List (DiffRange K o e p) → ℕ → ℕ → Type 0
LeavesAlikeFrom cmp last good first next = LeavesAlike cmp last (spans (drop first good)) (spans (drop next good))

-- the pieces were added that are left of the range where the good ones are cut out of it
abbrev pub AddsPiecesLeft : {K : Type 0} {o e p : _} → (K → K → Ordering) → DiffRange K o e p → List (DiffRange K o e p)
    → Vec (DiffRange K o e p) → Vec (DiffRange K o e p) → Type 0
AddsPiecesLeft cmp range good old new = AddsSpans old (pieces_left cmp (span range ∷ []) (spans good)) new
