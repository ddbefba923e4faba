-- Entries of a list of page ranges.
use Rattle.std.specs.Prelude.{Result, IsOk}
use Rattle.std.specs.Coded.{Coded, coded×, code_by}
use Rattle.std.specs.declared.cmp.Ordering.{Ordering}
use Rattle.std.proofs.Common.{refl}
use Rattle.key_order.specs.Interval.{Span, IsWithin}

-- the span of a page, and its digest
pub record Entry (K D : Type 0) : Type 0 where
  pub first : K
  pub last : K
  pub digest : D

-- the code of entries, by which a proof tells them apart
abbrev pub entry_code : {K D : Type 0} → Coded K → Coded D → Coded (Entry K D)
entry_code {K} {D} k d = code_by (K × (K × D)) (coded× k (coded× k d)) (λ e. (e.first, (e.last, e.digest))) (λ p. record { first = p.0; last = p.1.0; digest = p.1.1 }) (λ _. refl)

-- the span of an entry
abbrev pub span_of : {K D : Type 0} → Entry K D → Span K
span_of e = record { first = e.first; last = e.last }

-- the span of a is within that of b, and b holds a
abbrev pub EntryWithin : {K D : Type 0} → (K → K → Ordering) → Entry K D → Entry K D → Type 0
EntryWithin cmp a b = IsWithin cmp (span_of a) (span_of b)

-- the call succeeds where P holds of both bounds
abbrev pub SucceedsAtBounds : {K D A E : Type 0} → (K → Type 0) → Entry K D → Result A E → Type 0
SucceedsAtBounds P e result = P e.first → P e.last → IsOk result
