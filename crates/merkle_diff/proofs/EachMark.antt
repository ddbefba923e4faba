-- What holds of each mark of a walk.
use Rattle.std.proofs.Common.{◌≡◌, Bool, true, false, List, [], ◌∷◌, ◌++◌, Option, refl, if◌then◌else◌}
use Rattle.std.specs.Cmp.{IsTotalOrder}
use Rattle.std.specs.List.{AllByRecursion}
use Rattle.std.specs.declared.cmp.Ordering.{Ordering}
use Rattle.key_order.specs.Interval.{Span, is_within}
use Rattle.merkle_diff.specs.Entry.{Entry, span_of}
use Rattle.key_order.specs.Order.{Upto, upto}
use Rattle.key_order.proofs.ListParts.{each-append}
use Rattle.merkle_diff.specs.Walk.{Walk, Mark, no_peer, outside, held, no_local, between, agrees, differs, bad_of, good_of, gap_mark, gap_start, gap_end, front_within, bad_marks, last_holder, after_holders}
use Rattle.merkle_diff.specs.Walk.Mark.{Bad, Good}
use Rattle.merkle_diff.proofs.OrderTests.{by_upto}
use Rattle.merkle_diff.proofs.WalkMarks.{each-after}

module _ {K D : Type 0} (cmp : K → K → Ordering) (o : IsTotalOrder cmp)
    (PE : Entry K D → Type 0) (LE : Entry K D → Type 0) (KB : K → Type 0) (MK : Mark K → Type 0)
    (peer-bounds : (e : Entry K D) → PE e → KB e.first × KB e.last)
    (local-bound : (e : Entry K D) → LE e → KB e.first)
    (whole : (e : Entry K D) → PE e → MK (Bad (span_of e)))
    (gap : (a b : K) → KB a → KB b → Upto cmp a b → MK (Bad (record { first = a; last = b })))
    (good : (p l : Entry K D) → PE p → LE l → l.digest ≡ p.digest → MK (Good (span_of p))) where
  gap-has : (a b : K) → KB a → KB b → AllByRecursion MK (gap_mark cmp a b)
  gap-has a b h k = go (upto cmp a b) refl
    where
      go : (t : Bool) → upto cmp a b ≡ t → AllByRecursion MK (if t then (Bad (record { first = a; last = b }) ∷ []) else [])
      go true e = (gap a b h k (by_upto cmp o a b e), tt)
      go false e = tt

  gap-end : (p : Entry K D) (L : List (Entry K D)) → KB p.last → AllByRecursion LE L → KB (gap_end cmp p L)
  gap-end p [] h d = h
  gap-end p (l ∷ L) h d = go (upto cmp p.last l.first)
    where
      go : (t : Bool) → KB (if t then p.last else l.first)
      go true = h
      go false = local-bound l d.0

  front-has : (s : Span K) (P : List (Entry K D)) → AllByRecursion PE P → AllByRecursion MK (bad_marks cmp (front_within cmp s P))
  front-has s [] h = tt
  front-has s (x ∷ P) h = go (is_within cmp (span_of x) s) (front-has s P h.1)
    where
      go : (t : Bool) → AllByRecursion MK (bad_marks cmp (front_within cmp s P)) → AllByRecursion MK (bad_marks cmp (if t then (x ∷ front_within cmp s P) else []))
      go true k = (whole x h.0, k)
      go false k = tt

  holders-has : (s : Span K) (L : List (Entry K D)) → AllByRecursion LE L → AllByRecursion LE (after_holders cmp s L)
  holders-has s [] h = tt
  holders-has s (x ∷ L) h = go (is_within cmp s (span_of x)) (holders-has s L h.1)
    where
      go : (t : Bool) → AllByRecursion LE (after_holders cmp s L) → AllByRecursion LE (if t then after_holders cmp s L else (x ∷ L))
      go true k = k
      go false k = h

  holder-has : (s : Span K) (l : Entry K D) (L : List (Entry K D)) → LE l → AllByRecursion LE L → LE (last_holder cmp s l L)
  holder-has s l [] h d = h
  holder-has s l (x ∷ L) h d = go (is_within cmp s (span_of x)) (holder-has s x L d.0 d.1)
    where
      go : (t : Bool) → LE (last_holder cmp s x L) → LE (if t then last_holder cmp s x L else l)
      go true k = k
      go false k = h

  -- the mark of an entry, those that are made within it, and those that come after
  marks-have : (s : Span K) (m : Mark K) (inner after : List (Mark K)) (P : List (Entry K D)) → MK m → AllByRecursion MK inner → AllByRecursion PE P
      → AllByRecursion MK after → AllByRecursion MK (m ∷ (inner ++ (bad_marks cmp (front_within cmp s P) ++ after)))
  marks-have s m inner after P h i p a = (h, each-append MK inner (bad_marks cmp (front_within cmp s P) ++ after) i (each-append MK (bad_marks cmp (front_within cmp s P)) after (front-has s P p) a))

  pub walk-each : {R : Span K} {last : Option (Span K)} {P L P' L' : List (Entry K D)} {ms : List (Mark K)} → Walk cmp R last P L ms P' L'
      → KB (gap_start R last) → AllByRecursion PE P → AllByRecursion LE L → AllByRecursion MK ms × AllByRecursion PE P' × AllByRecursion LE L'
  walk-each no_peer b p l = (tt, tt, l)
  walk-each (outside h) b p l = (tt, p, l)
  walk-each (held h i j) b p l = (tt, p.1, l)
  walk-each {R} {last} (no_local {p = x} h) b p l = (gap-has (gap_start R last) x.last b (peer-bounds x p.0).1, p.1, tt)
  walk-each {R} {last} (between {p = x} {l = y} {L = L} h i j) b p l = (gap-has (gap_start R last) (gap_end cmp x (y ∷ L)) b (gap-end x (y ∷ L) (peer-bounds x p.0).1 l), p.1, l)
  walk-each (agrees {p = x} {l = y} {P = P} {L = L} {P' = P'} {inner = inner} {after = after} h i j w v) b p l =
      let n = walk-each w (peer-bounds x p.0).0 (each-after cmp PE (span_of x) P p.1) (holders-has (span_of x) L l.1) in
      let a = walk-each v (peer-bounds x p.0).1 (each-after cmp PE (span_of x) P' n.1) n.2 in
      (marks-have (span_of x) (Good (span_of x)) inner after P' (good x (last_holder cmp (span_of x) y L) p.0 (holder-has (span_of x) y L l.0 l.1) j) n.0 n.1 a.0, a.1, a.2)
  walk-each (differs {p = x} {l = y} {P = P} {L = L} {P' = P'} {inner = inner} {after = after} h i j w v) b p l =
      let n = walk-each w (peer-bounds x p.0).0 p.1 (holders-has (span_of x) L l.1) in
      let a = walk-each v (peer-bounds x p.0).1 (each-after cmp PE (span_of x) P' n.1) n.2 in
      (marks-have (span_of x) (Bad (span_of x)) inner after P' (whole x p.0) n.0 n.1 a.0, a.1, a.2)

-- of the marks, the bad and the good ones
pub each-bad : {K : Type 0} (Q : Span K → Type 0) (MK : Mark K → Type 0) (ms : List (Mark K)) → ((s : Span K) → MK (Bad s) → Q s) → AllByRecursion MK ms → AllByRecursion Q (bad_of ms)
each-bad Q MK [] f h = tt
each-bad Q MK (Bad s ∷ ms) f h = (f s h.0, each-bad Q MK ms f h.1)
each-bad Q MK (Good s ∷ ms) f h = each-bad Q MK ms f h.1

pub each-good : {K : Type 0} (Q : Span K → Type 0) (MK : Mark K → Type 0) (ms : List (Mark K)) → ((s : Span K) → MK (Good s) → Q s) → AllByRecursion MK ms → AllByRecursion Q (good_of ms)
each-good Q MK [] f h = tt
each-good Q MK (Bad s ∷ ms) f h = each-good Q MK ms f h.1
each-good Q MK (Good s ∷ ms) f h = (f s h.0, each-good Q MK ms f h.1)
