-- What calls find: ranges of keys, by what two iterables gave.
use Rattle.std.specs.Global.{Vec}
use Rattle.std.specs.Prelude.{◌≡◌, ◌⊎◌, List, [], Option, Some, None, Result, IfOk, IsOkAnd}
use Rattle.std.specs.declared.cmp.Ordering.{Ordering}
use Rattle.merkle_digest.specs.declared.PageDigest.{PageDigest}
use Rattle.merkle_diff.specs.declared.diff_range.DiffRange.{DiffRange}
use Rattle.merkle_diff.specs.declared.page_range.PageRange.{PageRange}
use Rattle.key_order.specs.Interval.{Span}
use Rattle.merkle_diff.specs.DiffRange.{spans}
use Rattle.merkle_diff.specs.Difference.{MayAnswer}
use Rattle.merkle_diff.specs.Entry.{Entry}
use Rattle.merkle_diff.specs.PageRange.{entry, entries}

-- where the call succeeds, P holds of the spans of the ranges that it found
abbrev pub IfFound : {K E : Type 0} {o e p : _} → Result (Vec (DiffRange K o e p)) E → (List (Span K) → Type 0) → Type 0
IfFound result P = IfOk result (λ found. P (spans found.items))

-- the call succeeds, and found no range
abbrev pub FindsNothing : {K E : Type 0} {o e p : _} → Result (Vec (DiffRange K o e p)) E → Type 0
FindsNothing result = IsOkAnd result (λ found. spans found.items ≡ [])

-- x comes of a local and a peer list that are given: R holds of their entries and of x
abbrev pub ComesOf : {K X : Type 0} {o e p : _} → (List (PageRange K o e p) → Type 0) → (List (PageRange K o e p) → Type 0)
    → (List (Entry K PageDigest) → List (Entry K PageDigest) → X → Type 0) → X → Type 0
ComesOf {K} {X} {o} {e} {p} IsLocal IsPeer R x =
    (ls : List (PageRange K o e p)) × (ps : List (PageRange K o e p)) × IsLocal ls × IsPeer ps × R (entries ls) (entries ps) x

-- the first page ranges are such that a range may be answered: the peer has one, and local has none, or the two are so
abbrev pub FirstsMayAnswer : {K : Type 0} {o e p : _} → (K → K → Ordering)
    → (Option (PageRange K o e p) → Type 0) → (Option (PageRange K o e p) → Type 0) → Type 0
FirstsMayAnswer {K} {o} {e} {p} cmp IsLocal IsPeer =
    (b : PageRange K o e p) × IsPeer (Some b) × (IsLocal None ⊎ ((a : PageRange K o e p) × IsLocal (Some a) × MayAnswer cmp (entry a) (entry b)))
