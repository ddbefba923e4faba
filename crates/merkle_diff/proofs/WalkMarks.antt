-- What a walk marks.
use Rattle.std.proofs.Common.{◌≡◌, Bool, true, false, List, [], ◌∷◌, ◌++◌, Option, Some, refl, if◌then◌else◌}
use Rattle.std.specs.Cmp.{IsTotalOrder}
use Rattle.std.specs.List.{AllByRecursion}
use Rattle.std.specs.declared.cmp.Ordering.{Ordering}
use Rattle.key_order.specs.Interval.{Span, IsOrdered, IsWithin, is_within}
use Rattle.merkle_diff.specs.Entry.{Entry, span_of}
use Rattle.key_order.specs.Order.{Upto, upto}
use Rattle.merkle_diff.specs.Walk.{Walk, Mark, no_peer, outside, held, no_local, between, agrees, differs, gap_mark, gap_start, gap_end, front_within, after_within, bad_marks}
use Rattle.merkle_diff.specs.Walk.Mark.{Bad, Good}
use Rattle.key_order.proofs.Orders.{up_up, up_self, low_is_up}
use Rattle.key_order.proofs.ListParts.{each-append}
use Rattle.merkle_diff.proofs.Each.{each-with}
use Rattle.merkle_diff.proofs.OrderTests.{by_above, within_by, within_trans}

abbrev pub span_marked : {K : Type 0} → Mark K → Span K
span_marked (Bad s) = s
span_marked (Good s) = s

module _ {K : Type 0} (cmp : K → K → Ordering) (o : IsTotalOrder cmp) where
  abbrev pub MarksWithin : Span K → List (Mark K) → Type 0
  MarksWithin R = AllByRecursion (λ m. IsWithin cmp (span_marked m) R)

  -- a gap of R may begin there
  abbrev pub BeginsIn : Span K → Option (Span K) → Type 0
  BeginsIn R last = Upto cmp R.first (gap_start R last)

  gap_within : (R : Span K) (a b : K) → Upto cmp R.first a → Upto cmp b R.last → MarksWithin R (gap_mark cmp a b)
  gap_within R a b h k = go (upto cmp a b)
    where
      go : (t : Bool) → MarksWithin R (if t then (Bad (record { first = a; last = b }) ∷ []) else [])
      go true = ((h, k), tt)
      go false = tt

  wider : (R p : Span K) (ms : List (Mark K)) → IsWithin cmp p R → MarksWithin p ms → MarksWithin R ms
  wider R p ms h k = each-with (λ m. IsWithin cmp (span_marked m) p) (λ m. IsWithin cmp (span_marked m) R) ms (λ m w. within_trans cmp o (span_marked m) p R w h) k

  -- the gaps of R go on after p
  begins : (R p : Span K) → IsWithin cmp p R → IsOrdered cmp p → BeginsIn R (Some p)
  begins R p h k = up_up cmp o R.first p.first p.last h.0 k

-- what holds of each entry holds of those after the front
pub each-after : {K D : Type 0} (cmp : K → K → Ordering) (P : Entry K D → Type 0) (s : Span K) (es : List (Entry K D)) → AllByRecursion P es → AllByRecursion P (after_within cmp s es)
each-after cmp P s [] h = tt
each-after cmp P s (x ∷ es) h = go (is_within cmp (span_of x) s) (each-after cmp P s es h.1)
  where
    go : (t : Bool) → AllByRecursion P (after_within cmp s es) → AllByRecursion P (if t then after_within cmp s es else (x ∷ es))
    go true k = k
    go false k = h

module _ {K D : Type 0} (cmp : K → K → Ordering) (o : IsTotalOrder cmp) where
  abbrev pub AllOrdered : List (Entry K D) → Type 0
  AllOrdered = AllByRecursion (λ e. IsOrdered cmp (span_of e))

  gap_ends : (p : Entry K D) (L : List (Entry K D)) → Upto cmp (gap_end cmp p L) p.last
  gap_ends p [] = up_self cmp o p.last
  gap_ends p (l ∷ L) = go (upto cmp p.last l.first) refl
    where
      go : (t : Bool) → upto cmp p.last l.first ≡ t → Upto cmp (if t then p.last else l.first) p.last
      go true e = up_self cmp o p.last
      go false e = low_is_up cmp o l.first p.last (by_above cmp o p.last l.first e)

  front_marks : (p : Span K) (P : List (Entry K D)) → MarksWithin cmp o p (bad_marks cmp (front_within cmp p P))
  front_marks p [] = tt
  front_marks p (x ∷ P) = go (is_within cmp (span_of x) p) refl (front_marks p P)
    where
      go : (t : Bool) → is_within cmp (span_of x) p ≡ t → MarksWithin cmp o p (bad_marks cmp (front_within cmp p P))
          → MarksWithin cmp o p (bad_marks cmp (if t then (x ∷ front_within cmp p P) else []))
      go true e k = (within_by cmp o (span_of x) p e, k)
      go false e k = tt

  joined : (R p : Span K) (front : List (Entry K D)) (inner after : List (Mark K)) → IsWithin cmp p R → MarksWithin cmp o p inner → MarksWithin cmp o R after
      → MarksWithin cmp o R (inner ++ (bad_marks cmp (front_within cmp p front) ++ after))
  joined R p front inner after h i a =
      each-append (λ m. IsWithin cmp (span_marked m) R) inner (bad_marks cmp (front_within cmp p front) ++ after) (wider cmp o R p inner h i)
      (each-append (λ m. IsWithin cmp (span_marked m) R) (bad_marks cmp (front_within cmp p front)) after (wider cmp o R p (bad_marks cmp (front_within cmp p front)) h (front_marks p front)) a)

  pub walk_marks : {R : Span K} {last : Option (Span K)} {P L P' L' : List (Entry K D)} {ms : List (Mark K)} → Walk cmp R last P L ms P' L'
      → BeginsIn cmp o R last → AllOrdered P → MarksWithin cmp o R ms × AllOrdered P'
  walk_marks no_peer b d = (tt, d)
  walk_marks (outside h) b d = (tt, d)
  walk_marks (held h i j) b d = (tt, d.1)
  walk_marks {R} {last} (no_local {p = p} h) b d = (gap_within cmp o R (gap_start R last) (gap_end cmp p []) b (within_by cmp o (span_of p) R h).1, d.1)
  walk_marks {R} {last} (between {p = p} {l = l} {L = L} h i j) b d = (
    gap_within cmp o R (gap_start R last) (gap_end cmp p (l ∷ L)) b
        (up_up cmp o (gap_end cmp p (l ∷ L)) p.last R.last (gap_ends p (l ∷ L)) (within_by cmp o (span_of p) R h).1),
    d.1,
  )
  walk_marks {R} (agrees {p = p} {P = P} {P' = P'} {inner = inner} {after = after} h i j w v) b d =
      let n = walk_marks w (up_self cmp o p.first) (each-after cmp (λ e. IsOrdered cmp (span_of e)) (span_of p) P d.1) in
      let r = within_by cmp o (span_of p) R h in
      let a = walk_marks v (begins cmp o R (span_of p) r d.0) (each-after cmp (λ e. IsOrdered cmp (span_of e)) (span_of p) P' n.1) in
      ((r, joined R (span_of p) P' inner after r n.0 a.0), a.1)
  walk_marks {R} (differs {p = p} {P' = P'} {inner = inner} {after = after} h i j w v) b d =
      let n = walk_marks w (up_self cmp o p.first) d.1 in
      let r = within_by cmp o (span_of p) R h in
      let a = walk_marks v (begins cmp o R (span_of p) r d.0) (each-after cmp (λ e. IsOrdered cmp (span_of e)) (span_of p) P' n.1) in
      ((r, joined R (span_of p) P' inner after r n.0 a.0), a.1)
