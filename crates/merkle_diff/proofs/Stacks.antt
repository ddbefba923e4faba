-- The walk of the open ranges, the innermost first.
use Rattle.std.proofs.Common.{◌≡◌, ◌≢◌, ◌↔◌, IsTrue, Bool, true, false, List, [], ◌∷◌, ◌++◌, Option, Some, None, refl, ◌∙◌, ap, append_assoc, if◌then◌else◌}
use Rattle.std.specs.declared.cmp.Ordering.{Ordering}
use Rattle.key_order.specs.Interval.{Span, is_within}
use Rattle.merkle_diff.specs.Entry.{Entry, span_of}
use Rattle.merkle_diff.specs.Walk.{Walk, Mark, agrees, differs, front_within, after_within, bad_marks, last_holder, after_holders}
use Rattle.merkle_diff.specs.Walk.Mark.{Bad, Good}
use Rattle.merkle_diff.specs.Stack.{Rest}

-- the answer of the test whether two digests are equal
abbrev pub Agree : {D : Type 0} → Bool → D → D → Type 0
Agree true d e = d ≡ e
Agree false d e = d ≢ e

pub agree-from : {D : Type 0} {d e : D} (agree : Bool) → (IsTrue agree ↔ (d ≡ e)) → Agree agree d e
agree-from true h = h.0 refl
agree-from false h = λ same. let e = h.1 same in cc

regroup : {K : Type 0} (b : Mark K) (m1 f n1 g n2 : List (Mark K)) → b ∷ (m1 ++ (f ++ (n1 ++ (g ++ n2)))) ≡ (b ∷ (m1 ++ (f ++ n1))) ++ (g ++ n2)
regroup b m1 f n1 g n2 = simp append_assoc

module _ {K D : Type 0} (cmp : K → K → Ordering) where
  -- where the walk of R ends, the one of O goes on
  pub closes : (below : List (Span K)) (O R : Span K) (last : Option (Span K)) (P L P1 L1 P' L' : List (Entry K D)) (m1 m2 : List (Mark K))
      → Walk cmp R last P L m1 P1 L1 → Rest cmp below O (Some R) (after_within cmp R P1) L1 m2 P' L'
      → Rest cmp (O ∷ below) R last P L (m1 ++ (bad_marks cmp (front_within cmp R P1) ++ m2)) P' L'
  closes below O R last P L P1 L1 P' L' m1 m2 w r = (m1, m2, P1, L1, w, r, refl)

  -- the two cases that go into an entry
  met : (R : Span K) (last : Option (Span K)) (p l : Entry K D) (P L P' L' P'' L'' : List (Entry K D)) (inner after : List (Mark K)) (agree : Bool)
      → is_within cmp (span_of p) R ≡ true → is_within cmp (span_of l) (span_of p) ≡ true → Agree agree (last_holder cmp (span_of p) l L).digest p.digest
      → Walk cmp (span_of p) None (if agree then after_within cmp (span_of p) P else P) (after_holders cmp (span_of p) L) inner P' L'
      → Walk cmp R (Some (span_of p)) (after_within cmp (span_of p) P') L' after P'' L''
      → Walk cmp R last (p ∷ P) (l ∷ L) ((if agree then Good (span_of p) else Bad (span_of p)) ∷ (inner ++ (bad_marks cmp (front_within cmp (span_of p) P') ++ after))) P'' L''
  met R last p l P L P' L' P'' L'' inner after true h i j w v = agrees h i j w v
  met R last p l P L P' L' P'' L'' inner after false h i j w v = differs h i j w v

  -- an entry that is met is gone into
  pub goes_into : (below : List (Span K)) (R : Span K) (last : Option (Span K)) (p l : Entry K D) (P L P' L' : List (Entry K D)) (m : List (Mark K)) (agree : Bool)
      → is_within cmp (span_of p) R ≡ true → is_within cmp (span_of l) (span_of p) ≡ true → Agree agree (last_holder cmp (span_of p) l L).digest p.digest
      → Rest cmp (R ∷ below) (span_of p) None (if agree then after_within cmp (span_of p) P else P) (after_holders cmp (span_of p) L) m P' L'
      → Rest cmp below R last (p ∷ P) (l ∷ L) ((if agree then Good (span_of p) else Bad (span_of p)) ∷ m) P' L'
  goes_into [] R last p l P L P' L' m agree h i j r = rw r.6 (met R last p l P L r.2 r.3 P' L' r.0 r.1 agree h i j r.4 r.5)
  goes_into (O ∷ below) R last p l P L P' L' m agree h i j r =
      let s = r.5 in
      let b = (if agree then Good (span_of p) else Bad (span_of p)) in (
        b ∷ (r.0 ++ (bad_marks cmp (front_within cmp (span_of p) r.2) ++ s.0)),
        s.1,
        s.2,
        s.3,
        met R last p l P L r.2 r.3 s.2 s.3 r.0 s.0 agree h i j r.4 s.4,
        s.5,
        ap (λ ms. b ∷ ms) (r.6 ∙ ap (λ ms. r.0 ++ (bad_marks cmp (front_within cmp (span_of p) r.2) ++ ms)) s.6)
            ∙ regroup b r.0 (bad_marks cmp (front_within cmp (span_of p) r.2)) s.0 (bad_marks cmp (front_within cmp R s.2)) s.1,
      )
