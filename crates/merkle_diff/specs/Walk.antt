-- The walk of `diff` over a peer's and a local list, by cases.
use Rattle.std.specs.Prelude.{◌≡◌, ◌≢◌, Bool, true, false, if◌then◌else◌, List, [], ◌∷◌, ◌++◌, map, Option, Some, None}
use Rattle.std.specs.declared.cmp.Ordering.{Ordering}
use Rattle.key_order.specs.Order.{upto}
use Rattle.key_order.specs.Interval.{Span, is_within}
use Rattle.merkle_diff.specs.Entry.{Entry, span_of}

-- a span that the walk marks
pub data Mark (K : Type 0) : Type 0 where
  Bad : Span K → Mark K
  Good : Span K → Mark K

-- the mark of a span: good where it agrees
abbrev pub mark_of : {K : Type 0} → Bool → Span K → Mark K
mark_of agrees s = if agrees then Good s else Bad s

-- the spans that are marked bad
abbrev pub bad_of : {K : Type 0} → List (Mark K) → List (Span K)
bad_of [] = []
bad_of (Bad s ∷ ms) = s ∷ bad_of ms
bad_of (Good s ∷ ms) = bad_of ms

-- the spans that are marked good
abbrev pub good_of : {K : Type 0} → List (Mark K) → List (Span K)
good_of [] = []
good_of (Bad s ∷ ms) = good_of ms
good_of (Good s ∷ ms) = s ∷ good_of ms

-- where the gap before the next peer entry begins: at the end of the last one, or at the start of R
abbrev pub gap_start : {K : Type 0} → Span K → Option (Span K) → K
gap_start R None = R.first
gap_start R (Some last) = last.last

module _ {K : Type 0} (cmp : K → K → Ordering) where
  -- the bad mark from a to b, if a is at most b
  abbrev pub gap_mark : K → K → List (Mark K)
  gap_mark a b = if upto cmp a b then (Bad (record { first = a; last = b }) ∷ []) else []

module _ {K D : Type 0} (cmp : K → K → Ordering) where
  -- where the gap ends: at the end of p, or at the start of the next local entry if that is less
  abbrev pub gap_end : Entry K D → List (Entry K D) → K
  gap_end p [] = p.last
  gap_end p (l ∷ L) = if upto cmp p.last l.first then p.last else l.first

  -- the entries at the front that are within s
  abbrev pub front_within : Span K → List (Entry K D) → List (Entry K D)
  front_within s [] = []
  front_within s (x ∷ P) = if is_within cmp (span_of x) s then (x ∷ front_within s P) else []

  -- the entries after them
  abbrev pub after_within : Span K → List (Entry K D) → List (Entry K D)
  after_within s [] = []
  after_within s (x ∷ P) = if is_within cmp (span_of x) s then after_within s P else (x ∷ P)

  -- of l and the entries at the front that hold s, the last
  abbrev pub last_holder : Span K → Entry K D → List (Entry K D) → Entry K D
  last_holder s l [] = l
  last_holder s l (x ∷ L) = if is_within cmp s (span_of x) then last_holder s x L else l

  -- the entries after them
  abbrev pub after_holders : Span K → List (Entry K D) → List (Entry K D)
  after_holders s [] = []
  after_holders s (x ∷ L) = if is_within cmp s (span_of x) then after_holders s L else (x ∷ L)

  -- each entry, marked bad
  abbrev pub bad_marks : List (Entry K D) → List (Mark K)
  bad_marks = map (λ e. Bad (span_of e))

-- `Walk cmp R last P L ms P' L'`: the walk of the span R, after the peer entry `last`, over the peer's entries P and the local
-- entries L, makes the marks ms and leaves the rests P' and L'
pub data Walk {K D : Type 0} (cmp : K → K → Ordering) : Span K → Option (Span K) → List (Entry K D) → List (Entry K D) → List (Mark K) → List (Entry K D) → List (Entry K D) → Type 0 where
  -- no peer entry is left
  no_peer : {R : Span K} {last : Option (Span K)} {L : List (Entry K D)} → Walk cmp R last [] L [] [] L
  -- the next peer entry is not within R
  outside : {R : Span K} {last : Option (Span K)} {p : Entry K D} {P L : List (Entry K D)}
      → is_within cmp (span_of p) R ≡ false
      → Walk cmp R last (p ∷ P) L [] (p ∷ P) L
  -- the next local entry is not within the peer's, and holds it
  held : {R : Span K} {last : Option (Span K)} {p l : Entry K D} {P L : List (Entry K D)}
      → is_within cmp (span_of p) R ≡ true → is_within cmp (span_of l) (span_of p) ≡ false → is_within cmp (span_of p) (span_of l) ≡ true
      → Walk cmp R last (p ∷ P) (l ∷ L) [] P (l ∷ L)
  -- no local entry is left
  no_local : {R : Span K} {last : Option (Span K)} {p : Entry K D} {P : List (Entry K D)}
      → is_within cmp (span_of p) R ≡ true
      → Walk cmp R last (p ∷ P) [] (gap_mark cmp (gap_start R last) (gap_end cmp p [])) P []
  -- the next local entry is neither within the peer's nor holds it
  between : {R : Span K} {last : Option (Span K)} {p l : Entry K D} {P L : List (Entry K D)}
      → is_within cmp (span_of p) R ≡ true → is_within cmp (span_of l) (span_of p) ≡ false → is_within cmp (span_of p) (span_of l) ≡ false
      → Walk cmp R last (p ∷ P) (l ∷ L) (gap_mark cmp (gap_start R last) (gap_end cmp p (l ∷ L))) P (l ∷ L)
  -- the next local entry is within the peer's, and the last that holds the peer's has its digest: the walk goes into it
  agrees : {R : Span K} {last : Option (Span K)} {p l : Entry K D} {P L P' L' P'' L'' : List (Entry K D)} {inner after : List (Mark K)}
      → is_within cmp (span_of p) R ≡ true → is_within cmp (span_of l) (span_of p) ≡ true
      → (last_holder cmp (span_of p) l L).digest ≡ p.digest
      → Walk cmp (span_of p) None (after_within cmp (span_of p) P) (after_holders cmp (span_of p) L) inner P' L'
      → Walk cmp R (Some (span_of p)) (after_within cmp (span_of p) P') L' after P'' L''
      → Walk cmp R last (p ∷ P) (l ∷ L) (Good (span_of p) ∷ (inner ++ (bad_marks cmp (front_within cmp (span_of p) P') ++ after))) P'' L''
  -- the same where the digests differ
  differs : {R : Span K} {last : Option (Span K)} {p l : Entry K D} {P L P' L' P'' L'' : List (Entry K D)} {inner after : List (Mark K)}
      → is_within cmp (span_of p) R ≡ true → is_within cmp (span_of l) (span_of p) ≡ true
      → (last_holder cmp (span_of p) l L).digest ≢ p.digest
      → Walk cmp (span_of p) None P (after_holders cmp (span_of p) L) inner P' L'
      → Walk cmp R (Some (span_of p)) (after_within cmp (span_of p) P') L' after P'' L''
      → Walk cmp R last (p ∷ P) (l ∷ L) (Bad (span_of p) ∷ (inner ++ (bad_marks cmp (front_within cmp (span_of p) P') ++ after))) P'' L''
