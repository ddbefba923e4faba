-- A range of keys as a span.
use Rattle.std.specs.Global.{Vec}
use Rattle.std.specs.Prelude.{◌≡◌, ◌++◌, List, map}
use Rattle.key_order.specs.Interval.{Span}
use Rattle.merkle_diff.specs.declared.diff_range.DiffRange.{DiffRange}

-- the bounds
abbrev pub span : {K o e p : _} → DiffRange K o e p → Span K
span r = record { first = r.start.now; last = r.end.now }

-- the spans of a list of ranges
abbrev pub spans : {K o e p : _} → List (DiffRange K o e p) → List (Span K)
spans = map span

-- these spans were added after those of the vector
abbrev pub AddsSpans : {K o e p : _} → Vec (DiffRange K o e p) → List (Span K) → Vec (DiffRange K o e p) → Type 0
AddsSpans old ss new = spans new.items ≡ spans old.items ++ ss
