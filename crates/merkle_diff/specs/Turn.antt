-- What a step of the walk does to the queues and the marks.
use Rattle.std.specs.Prelude.{◌≡◌, Bool, true, false, if◌then◌else◌, ◌&&◌, ◌||◌, ◌⊎◌, List, [], ◌∷◌, ◌++◌, Option, Some, None, MatchOption}
use Rattle.std.specs.declared.cmp.Ordering.{Ordering}
use Rattle.merkle_digest.specs.declared.PageDigest.{PageDigest}
use Rattle.merkle_diff.specs.declared.lookahead.Lookahead.{Lookahead}
use Rattle.merkle_diff.specs.declared.diff_range.DiffRange.{DiffRange}
use Rattle.merkle_diff.specs.declared.marks.Marks.{Marks}
use Rattle.merkle_diff.specs.declared.page_range.PageRange.{PageRange}
use Rattle.key_order.specs.Interval.{Span, is_within}
use Rattle.merkle_diff.specs.Entry.{Entry, span_of}
use Rattle.key_order.specs.Order.{upto, below}
use Rattle.merkle_diff.specs.Lookahead.{LeavesItems}
use Rattle.merkle_diff.specs.Answers.{ComesOf, FirstsMayAnswer}
use Rattle.merkle_diff.specs.DiffRange.{span, spans, AddsSpans}
use Rattle.merkle_diff.specs.PageRange.{entry, entries}
use Rattle.merkle_diff.specs.Stack.{Rest}
use Rattle.merkle_diff.specs.Walk.{Walk, Mark, bad_of, good_of, gap_mark, gap_start, front_within, after_within, after_holders, bad_marks}

-- an item stands at the head, and the test holds of it
abbrev pub head_is : {X : Type 0} → (X → Bool) → Option X → Bool
head_is test None = false
head_is test (Some x) = test x

-- local's first range and the peer's are such that a range may be answered
abbrev pub may_answer : {K : Type 0} → (K → K → Ordering) → Span K → Span K → Bool
may_answer cmp a b = is_within cmp a b || (below cmp b.first a.first && below cmp b.last a.last)

abbrev pub head_may_answer : {K : Type 0} {o e p : _} → (K → K → Ordering) → Option (PageRange K o e p) → Span K → Bool
head_may_answer cmp None b = true
head_may_answer cmp (Some a) b = may_answer cmp (span_of (entry a)) b

-- the heads of the local and the peer queue are such that a range may be answered
abbrev pub HeadsMayAnswer : {K : Type 0} {o e p : _} → (K → K → Ordering) → Option (PageRange K o e p) → Option (PageRange K o e p) → Type 0
HeadsMayAnswer cmp local peer = FirstsMayAnswer cmp (λ a. local ≡ a) (λ b. peer ≡ b)

-- where a gap ends: at the lesser of `end` and the start of the next local entry
abbrev pub gap_end_at : {K : Type 0} {o e p : _} → (K → K → Ordering) → K → Option (PageRange K o e p) → K
gap_end_at cmp end None = end
gap_end_at cmp end (Some l) = if upto cmp end l.start.now then end else l.start.now

-- the digest of the last of the entries at the front that hold s, or d where there is none
abbrev pub last_digest : {K D : Type 0} → (K → K → Ordering) → Span K → D → List (Entry K D) → D
last_digest cmp s d [] = d
last_digest cmp s d (x ∷ L) = if is_within cmp s (span_of x) then last_digest cmp s x.digest L else d

-- the marks of a turn that goes into no range, where `from` is the start of a gap
abbrev pub between_marks : {K : Type 0} {o e p : _} → (K → K → Ordering) → K → Span K → Option (PageRange K o e p) → List (Mark K)
between_marks cmp from s head = if head_is (λ l. is_within cmp s (span_of (entry l))) head then [] else gap_mark cmp from (gap_end_at cmp s.last head)

-- of the marks `m`, the bad ones were added to those that were bad
abbrev pub MarkedBad : {K o e p : _} → Marks K o e p → List (Mark K) → Marks K o e p → Type 0
MarkedBad old m new = AddsSpans old.bad (bad_of m) new.bad

-- and the good ones to those that were good
abbrev pub MarkedGood : {K o e p : _} → Marks K o e p → List (Mark K) → Marks K o e p → Type 0
MarkedGood old m new = AddsSpans old.good (good_of m) new.good

-- the marks `m` were added
abbrev pub Marked : {K o e p : _} → Marks K o e p → List (Mark K) → Marks K o e p → Type 0
Marked old m new = MarkedBad old m new × MarkedGood old m new

-- the gap before the range was marked bad, from `from` on, unless the next local entry holds the range
abbrev pub MarksGapBefore : {I K : Type 0} {o e p : _} → (K → K → Ordering) → K → DiffRange K o e p
    → Lookahead I (PageRange K o e p) → Marks K o e p → Marks K o e p → Type 0
MarksGapBefore cmp from range locals old new = Marked old (between_marks cmp from (span range) locals.head) new

-- whatever the queue leaves now, it left before some items that relate to them
abbrev pub Leads : {I K : Type 0} {o e p : _} → (I → Option (PageRange K o e p) → I → Type 0) → Lookahead I (PageRange K o e p) → Lookahead I (PageRange K o e p)
    → (List (Entry K PageDigest) → List (Entry K PageDigest) → Type 0) → Type 0
Leads {I} {K} {o} {e} {p} steps old new R = (ps : List (PageRange K o e p)) → LeavesItems steps new ps → (qs : List (PageRange K o e p)) × LeavesItems steps old qs × R (entries qs) (entries ps)

-- both queues, and the marks between
abbrev pub LeadsBoth : {I J K : Type 0} {o e p : _} → (I → Option (PageRange K o e p) → I → Type 0) → (J → Option (PageRange K o e p) → J → Type 0)
    → Lookahead I (PageRange K o e p) → Lookahead J (PageRange K o e p) → Lookahead I (PageRange K o e p) → Lookahead J (PageRange K o e p)
    → (List (Entry K PageDigest) → List (Entry K PageDigest) → List (Entry K PageDigest) → List (Entry K PageDigest) → Type 0) → Type 0
LeadsBoth {I} {J} {K} {o} {e} {p} steps peer_steps locals peers locals' peers' R =
    (ls : List (PageRange K o e p)) (ps : List (PageRange K o e p)) → LeavesItems steps locals' ls → LeavesItems peer_steps peers' ps
    → (ks : List (PageRange K o e p)) × (qs : List (PageRange K o e p)) × LeavesItems steps locals ks × LeavesItems peer_steps peers qs × R (entries ks) (entries qs) (entries ls) (entries ps)

-- x comes of all that both queues leave
abbrev pub LeavesBoth : {I J K X : Type 0} {o e p : _} → (I → Option (PageRange K o e p) → I → Type 0) → (J → Option (PageRange K o e p) → J → Type 0)
    → Lookahead I (PageRange K o e p) → Lookahead J (PageRange K o e p)
    → (List (Entry K PageDigest) → List (Entry K PageDigest) → X → Type 0) → X → Type 0
LeavesBoth steps peer_steps locals peers = ComesOf (LeavesItems steps locals) (LeavesItems peer_steps peers)

module _ {K D : Type 0} (cmp : K → K → Ordering) where
  -- the walk of R ends, with the marks m
  abbrev pub Ends : Span K → K → (List (Mark K) → Type 0) → List (Entry K D) → List (Entry K D) → List (Entry K D) → List (Entry K D) → Type 0
  Ends R from Did L P L' P' = (last : Option (Span K)) → gap_start R last ≡ from → (m : List (Mark K)) × Did m × Walk cmp R last P L m P' L'

  -- the walk of R goes into s
  abbrev pub Enters : Span K → K → Span K → (List (Mark K) → Type 0) → List (Entry K D) → List (Entry K D) → List (Entry K D) → List (Entry K D) → Type 0
  Enters R from s Did L P L' P' = (last : Option (Span K)) → gap_start R last ≡ from
      → (b : Mark K) × Did (b ∷ []) × ((below : List (Span K)) (m : List (Mark K)) (P2 L2 : List (Entry K D)) → Rest cmp (R ∷ below) s None P' L' m P2 L2 → Rest cmp below R last P L (b ∷ m) P2 L2)

  -- the walk of R from its start on, with the marks m
  abbrev pub Walks : Span K → (List (Mark K) → Type 0) → List (Entry K D) → List (Entry K D) → List (Entry K D) → List (Entry K D) → Type 0
  Walks R Did L P L' P' = (m : List (Mark K)) × Did m × Walk cmp R None P L m P' L'

  -- the walk of R from its start on leaves these marks
  abbrev pub Walked : Span K → List (Entry K D) → List (Entry K D) → List (Span K) → List (Span K) → Type 0
  Walked R L P bad good = (m : List (Mark K)) × (P' : List (Entry K D)) × (L' : List (Entry K D)) × Walk cmp R None P L m P' L' × (bad ≡ bad_of m) × (good ≡ good_of m)

  -- where s agrees, the entries at the front that are within s were taken
  abbrev pub TakesAgreed : Span K → Bool → List (Entry K D) → List (Entry K D) → Type 0
  TakesAgreed s agrees P P' = P' ≡ (if agrees then after_within cmp s P else P)

  -- the entries at the front that hold s were taken; d' is the digest of the last, or d where there is none
  abbrev pub TakesHolders : Span K → D → D → List (Entry K D) → List (Entry K D) → Type 0
  TakesHolders s d d' L L' = (L' ≡ after_holders cmp s L) × (d' ≡ last_digest cmp s d L)

module _ {K : Type 0} {o e p : _} (cmp : K → K → Ordering) where
  -- the entries at the front that are within the range were taken, and each was marked bad
  abbrev pub MarksWithin : {D : Type 0} → DiffRange K o e p → Marks K o e p → Marks K o e p → List (Entry K D) → List (Entry K D) → Type 0
  MarksWithin range old new P P' = (P' ≡ after_within cmp (span range) P) × Marked old (bad_marks cmp (front_within cmp (span range) P)) new

  -- the walk of the range from its start on, with the marks that were added
  abbrev pub MarksWalk : {D : Type 0} → DiffRange K o e p → Marks K o e p → Marks K o e p
      → List (Entry K D) → List (Entry K D) → List (Entry K D) → List (Entry K D) → Type 0
  MarksWalk range old new = Walks cmp (span range) (λ m. Marked old m new)

  -- the walk of the range from its start on leaves these marks
  abbrev pub HasWalked : {D : Type 0} → DiffRange K o e p → List (Entry K D) → List (Entry K D) → Marks K o e p → Type 0
  HasWalked range L P marks = Walked cmp (span range) L P (spans marks.bad.items) (spans marks.good.items)

  -- a turn of the walk of the range ends it, or goes into the range that it answers; `LeadsBy` tells of the queues
  abbrev pub TakesTurn : {D : Type 0} → DiffRange K o e p → K → Marks K o e p → Marks K o e p
      → ((List (Entry K D) → List (Entry K D) → List (Entry K D) → List (Entry K D) → Type 0) → Type 0) → Option (DiffRange K o e p) → Type 0
  TakesTurn range from old new LeadsBy r =
      MatchOption r (LeadsBy (Ends cmp (span range) from (λ m. Marked old m new)))
      (λ s. LeadsBy (Enters cmp (span range) from (span s) (λ m. Marked old m new)))
