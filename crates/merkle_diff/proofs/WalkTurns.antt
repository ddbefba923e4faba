-- What a turn of the walk does.
use Rattle.std.proofs.Common.{◌≡◌, Bool, true, false, List, [], ◌∷◌, Option, Some, None, IfSome, if◌then◌else◌, refl, sym, ◌∙◌, ap, subst}
use Rattle.std.specs.declared.cmp.Ordering.{Ordering}
use Rattle.merkle_digest.specs.declared.PageDigest.{PageDigest}
use Rattle.merkle_diff.specs.declared.lookahead.Lookahead.{Lookahead}
use Rattle.merkle_diff.specs.declared.page_range.PageRange.{PageRange}
use Rattle.key_order.specs.Interval.{Span, is_within}
use Rattle.merkle_diff.specs.Entry.{Entry, span_of}
use Rattle.merkle_diff.specs.PageRange.{entry, entries}
use Rattle.merkle_diff.specs.Stack.{Rest}
use Rattle.merkle_diff.specs.Turn.{Leads, LeadsBoth, Ends, Enters, head_is, between_marks, gap_end_at, last_digest}
use Rattle.merkle_diff.specs.Walk.{Walk, Mark, no_peer, outside, held, no_local, between, gap_mark, gap_start, after_within, after_holders}
use Rattle.merkle_diff.specs.Walk.Mark.{Bad, Good}
use Rattle.merkle_diff.proofs.QueueSteps.{last_digest-is}
use Rattle.merkle_diff.proofs.Queues.{Leaves-cons, front_of, front-is}
use Rattle.merkle_diff.proofs.Stacks.{Agree, goes_into}

module _ {K : Type 0} {o e p : _} (cmp : K → K → Ordering) where
  ends-at : (R : Span K) (last : Option (Span K)) (ps : List (PageRange K o e p)) (L : List (Entry K PageDigest))
      → head_is (λ r. is_within cmp (span_of (entry r)) R) (front_of ps) ≡ false → Walk cmp R last (entries ps) L [] (entries ps) L
  ends-at R last [] L h = no_peer
  ends-at R last (x ∷ ps) L h = outside h

  ends-by : (R : Span K) (last : Option (Span K)) (from : K) (x : PageRange K o e p) (P : List (Entry K PageDigest)) (ls : List (PageRange K o e p))
      → gap_start R last ≡ from → is_within cmp (span_of (entry x)) R ≡ true → head_is (λ r. is_within cmp (span_of (entry r)) (span_of (entry x))) (front_of ls) ≡ false
      → Walk cmp R last (entry x ∷ P) (entries ls) (between_marks cmp from (span_of (entry x)) (front_of ls)) P (entries ls)
  ends-by R last from x P [] g h k = subst (λ a. Walk cmp R last (entry x ∷ P) [] (gap_mark cmp a x.end.now) P []) g (no_local h)
  ends-by R last from x P (l ∷ ls) g h k = go (is_within cmp (span_of (entry x)) (span_of (entry l))) refl
    where
      go : (t : Bool) → is_within cmp (span_of (entry x)) (span_of (entry l)) ≡ t
          → Walk cmp R last (entry x ∷ P) (entry l ∷ entries ls) (if t then [] else gap_mark cmp from (gap_end_at cmp x.end.now (Some l))) P (entry l ∷ entries ls)
      go true m = held h k m
      go false m = subst (λ a. Walk cmp R last (entry x ∷ P) (entry l ∷ entries ls) (gap_mark cmp a (gap_end_at cmp x.end.now (Some l))) P (entry l ∷ entries ls)) g (between h k m)

module _ {I J K : Type 0} {o e p : _} (cmp : K → K → Ordering) (steps : I → Option (PageRange K o e p) → I → Type 0) (peer_steps : J → Option (PageRange K o e p) → J → Type 0) where
  pub ends-outside : (l : Lookahead I (PageRange K o e p)) (p0 : Lookahead J (PageRange K o e p)) (R : Span K) (from : K) (Did : List (Mark K) → Type 0)
      → head_is (λ r. is_within cmp (span_of (entry r)) R) p0.head ≡ false → Did [] → LeadsBoth steps peer_steps l p0 l p0 (Ends cmp R from Did)
  ends-outside l p0 R from Did h d ls ps hl hp =
      (ls, ps, hl, hp, λ last g. ([], d, ends-at cmp R last ps (entries ls) (ap (head_is (λ r. is_within cmp (span_of (entry r)) R)) (sym (front-is peer_steps p0 ps hp)) ∙ h)))

  pub ends-between : (l : Lookahead I (PageRange K o e p)) (p0 p1 : Lookahead J (PageRange K o e p)) (R : Span K) (from : K) (Did : List (Mark K) → Type 0) (x : PageRange K o e p) (s : Span K)
      → Some x ≡ p0.head → IfSome p0.head (λ _. peer_steps p0.rest p1.head p1.rest) → span_of (entry x) ≡ s
      → is_within cmp (span_of (entry x)) R ≡ true → head_is (λ r. is_within cmp (span_of (entry r)) s) l.head ≡ false
      → Did (between_marks cmp from s l.head) → LeadsBoth steps peer_steps l p0 l p1 (Ends cmp R from Did)
  ends-between l p0 p1 R from Did x s hx st e h k d ls ps hl hp =
      let f = front-is steps l ls hl in (
        ls,
        x ∷ ps,
        hl,
        Leaves-cons peer_steps p0 p1 x ps hx st hp,
        λ last g. (
          between_marks cmp from s l.head,
          d,
          subst (λ z. Walk cmp R last (entry x ∷ entries ps) (entries ls) (between_marks cmp from z l.head) (entries ps) (entries ls)) e
              (subst (λ z. Walk cmp R last (entry x ∷ entries ps) (entries ls) (between_marks cmp from (span_of (entry x)) z) (entries ps) (entries ls)) (sym f)
              (ends-by cmp R last from x (entries ps) ls g h
              (subst (λ z. head_is (λ r. is_within cmp (span_of (entry r)) (span_of (entry x))) z ≡ false) f
              (subst (λ z. head_is (λ r. is_within cmp (span_of (entry r)) z) l.head ≡ false) (sym e) k)))),
        ),
      )

  module _ (l l1 l2 : Lookahead I (PageRange K o e p)) (p0 p1 p2 : Lookahead J (PageRange K o e p)) (R : Span K) (from : K) (Did : List (Mark K) → Type 0)
      (x f : PageRange K o e p) (d : PageDigest) (agree : Bool) where
    -- where local's next range is within s and the queues have come after the fronts of s, the walk goes into s
    abbrev GoesInto : Span K → Type 0
    GoesInto s = is_within cmp (span_of (entry f)) s ≡ true
        → Agree agree d x.hash
        → Leads steps l1 l2 (λ ks ls. (ls ≡ after_holders cmp s ks) × (d ≡ last_digest cmp s f.hash ks))
        → Leads peer_steps p1 p2 (λ qs ps. ps ≡ (if agree then after_within cmp s qs else qs))
        → Did ((if agree then Good s else Bad s) ∷ [])
        → LeadsBoth steps peer_steps l p0 l2 p2 (Enters cmp R from s Did)

    enters : Some x ≡ p0.head → IfSome p0.head (λ _. peer_steps p0.rest p1.head p1.rest)
        → Some f ≡ l.head → IfSome l.head (λ _. steps l.rest l1.head l1.rest)
        → is_within cmp (span_of (entry x)) R ≡ true → GoesInto (span_of (entry x))
    enters hx sx hf sf h k a ll lp did ls ps hl hp =
        let s = span_of (entry x) in
        let rl = ll ls hl in
        let rp = lp ps hp in (
          f ∷ rl.0,
          x ∷ rp.0,
          Leaves-cons steps l l1 f rl.0 hf sf rl.1,
          Leaves-cons peer_steps p0 p1 x rp.0 hx sx rp.1,
          λ last g. (
            (if agree then Good s else Bad s),
            did,
            λ below ms P2 L2 r. goes_into cmp below R last (entry x) (entry f) (entries rp.0) (entries rl.0) P2 L2 ms agree h k
                (subst (λ q. Agree agree q x.hash) (rl.2.1 ∙ last_digest-is cmp s (entry f) (entries rl.0)) a)
                (subst (λ z. Rest cmp (R ∷ below) s None z (after_holders cmp s (entries rl.0)) ms P2 L2) rp.2
                (subst (λ z. Rest cmp (R ∷ below) s None (entries ps) z ms P2 L2) rl.2.0 r)),
          ),
        )

    pub enters-met : (s : Span K) → span_of (entry x) ≡ s
        → Some x ≡ p0.head → IfSome p0.head (λ _. peer_steps p0.rest p1.head p1.rest)
        → Some f ≡ l.head → IfSome l.head (λ _. steps l.rest l1.head l1.rest)
        → is_within cmp (span_of (entry x)) R ≡ true → GoesInto s
    enters-met s e hx sx hf sf h = subst GoesInto e (enters hx sx hf sf h)
