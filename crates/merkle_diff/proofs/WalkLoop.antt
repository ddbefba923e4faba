-- The loop of the walk.
use Rattle.std.proofs.Common.{◌≡◌, List, [], ◌∷◌, ◌++◌, reverse, Option, Some, None, refl, sym, ◌∙◌, ap, subst, append_assoc}
use Rattle.std.proofs.lemmas.List.{reverse-append}
use Rattle.std.specs.declared.cmp.Ordering.{Ordering}
use Rattle.merkle_diff.specs.declared.lookahead.Lookahead.{Lookahead}
use Rattle.merkle_diff.specs.declared.marks.Marks.{Marks}
use Rattle.merkle_diff.specs.declared.page_range.PageRange.{PageRange}
use Rattle.merkle_diff.specs.declared.diff_range.DiffRange.{DiffRange}
use Rattle.key_order.specs.Interval.{Span}
use Rattle.merkle_diff.specs.Entry.{Entry}
use Rattle.merkle_diff.specs.DiffRange.{span, spans}
use Rattle.merkle_diff.specs.PageRange.{entries}
use Rattle.merkle_diff.specs.Stack.{Rest}
use Rattle.merkle_diff.specs.Turn.{Leads, LeadsBoth, Ends, Enters, Walks, Marked}
use Rattle.merkle_diff.specs.Walk.{Walk, Mark, bad_of, good_of, gap_start, front_within, after_within, bad_marks}
use Rattle.merkle_diff.specs.Walk.Mark.{Bad, Good}
use Rattle.merkle_diff.proofs.Stacks.{closes}

pub bad_of-append : {K : Type 0} (xs ys : List (Mark K)) → bad_of (xs ++ ys) ≡ bad_of xs ++ bad_of ys
bad_of-append [] ys = refl
bad_of-append (Bad s ∷ xs) ys = ap (λ t. s ∷ t) (bad_of-append xs ys)
bad_of-append (Good s ∷ xs) ys = bad_of-append xs ys

pub good_of-append : {K : Type 0} (xs ys : List (Mark K)) → good_of (xs ++ ys) ≡ good_of xs ++ good_of ys
good_of-append [] ys = refl
good_of-append (Bad s ∷ xs) ys = good_of-append xs ys
good_of-append (Good s ∷ xs) ys = ap (λ t. s ∷ t) (good_of-append xs ys)

-- marks that were added to a list, and more of them
more : {K : Type 0} (of : List (Mark K) → List (Span K)) → ((xs ys : List (Mark K)) → of (xs ++ ys) ≡ of xs ++ of ys)
    → (X X' : List (Span K)) (ms ns : List (Mark K)) → X' ≡ X ++ of ms → X' ++ of ns ≡ X ++ of (ms ++ ns)
more of append X X' ms ns h = ap (λ t. t ++ of ns) h ∙ append_assoc X (of ms) (of ns) ∙ ap (λ t. X ++ t) (sym (append ms ns))

-- the opened ranges, the innermost first
abbrev pub stack_of : {K : Type 0} {o e p : _} → List (DiffRange K o e p) → List (Span K)
stack_of rs = reverse (spans rs)

pub stack-push : {K : Type 0} {o e p : _} (old new : List (DiffRange K o e p)) (r : DiffRange K o e p) → new ≡ old ++ r ∷ [] → stack_of new ≡ span r ∷ stack_of old
stack-push {K} {o} {e} {p} old new r h = ap stack_of h ∙ (ap reverse (go old) ∙ reverse-append (spans old) (span r ∷ []))
  where
    go : (xs : List (DiffRange K o e p)) → spans (xs ++ r ∷ []) ≡ spans xs ++ span r ∷ []
    go [] = refl
    go (x ∷ xs) = ap (λ t. span x ∷ t) (go xs)

module _ {K D : Type 0} (cmp : K → K → Ordering) (outer : Span K) (B0 G0 : List (Span K)) where
  -- how far the walk of `outer` has come
  abbrev pub Going : List (Span K) → Span K → Option (Span K) → List (Span K) → List (Span K) → List (Entry K D) → List (Entry K D) → List (Entry K D) → List (Entry K D) → Type 0
  Going opened R last B G L P L' P' = (m : List (Mark K)) (P2 L2 : List (Entry K D)) → Rest cmp opened R last P' L' m P2 L2
      → (all : List (Mark K)) × (B ++ bad_of m ≡ B0 ++ bad_of all) × (G ++ good_of m ≡ G0 ++ good_of all) × Walk cmp outer None P L all P2 L2

module _ {I J K : Type 0} {o e p : _} (cmp : K → K → Ordering) (steps : I → Option (PageRange K o e p) → I → Type 0) (peer_steps : J → Option (PageRange K o e p) → J → Type 0)
    (outer : Span K) (M0 : Marks K o e p) (l0 : Lookahead I (PageRange K o e p)) (p0 : Lookahead J (PageRange K o e p)) where
  abbrev pub Goes : List (Span K) → Span K → Option (Span K) → Marks K o e p → Lookahead I (PageRange K o e p) → Lookahead J (PageRange K o e p) → Type 0
  Goes opened R last M l q = LeadsBoth steps peer_steps l0 p0 l q (Going cmp outer (spans M0.bad.items) (spans M0.good.items) opened R last (spans M.bad.items) (spans M.good.items))

  abbrev Done : Span K → K → Marks K o e p → Marks K o e p → Lookahead I (PageRange K o e p) → Lookahead J (PageRange K o e p)
      → Lookahead I (PageRange K o e p) → Lookahead J (PageRange K o e p) → Type 0
  Done R from M M' l q l' q' = LeadsBoth steps peer_steps l q l' q' (Ends cmp R from (λ m. Marked M m M'))

  pub goes-in : (opened : List (Span K)) (R s : Span K) (last : Option (Span K)) (from : K) (M M' : Marks K o e p) (l l' : Lookahead I (PageRange K o e p)) (q q' : Lookahead J (PageRange K o e p))
      → gap_start R last ≡ from → Goes opened R last M l q → LeadsBoth steps peer_steps l q l' q' (Enters cmp R from s (λ m. Marked M m M')) → Goes (R ∷ opened) s None M' l' q'
  goes-in opened R s last from M M' l l' q q' g i t ls ps hl hp =
      let r = t ls ps hl hp in
      let f = r.4 last g in
      let a = i r.0 r.1 r.2 r.3 in (
        a.0,
        a.1,
        a.2,
        a.3,
        λ m P2 L2 h.
            let w = a.4 (f.0 ∷ m) P2 L2 (f.2 opened m P2 L2 h) in (
              w.0,
              more bad_of bad_of-append (spans M.bad.items) (spans M'.bad.items) (f.0 ∷ []) m f.1.0 ∙ w.1,
              more good_of good_of-append (spans M.good.items) (spans M'.good.items) (f.0 ∷ []) m f.1.1 ∙ w.2,
              w.3,
            ),
      )

  pub goes-out : (opened : List (Span K)) (O R : Span K) (last : Option (Span K)) (from : K) (M M' M'' : Marks K o e p)
      (l l' : Lookahead I (PageRange K o e p)) (q q' q'' : Lookahead J (PageRange K o e p))
      → gap_start R last ≡ from → Goes (O ∷ opened) R last M l q → Done R from M M' l q l' q'
      → Leads peer_steps q' q'' (λ qs ps. (ps ≡ after_within cmp R qs) × Marked M' (bad_marks cmp (front_within cmp R qs)) M'')
      → Goes opened O (Some R) M'' l' q''
  goes-out opened O R last from M M' M'' l l' q q' q'' g i t w ls ps hl hp =
      let u = w ps hp in
      let r = t ls u.0 hl u.1 in
      let f = r.4 last g in
      let a = i r.0 r.1 r.2 r.3 in
      let fr = bad_marks cmp (front_within cmp R (entries u.0)) in (
        a.0,
        a.1,
        a.2,
        a.3,
        λ m P2 L2 h.
            let v = a.4 (f.0 ++ (fr ++ m)) P2 L2
            (closes cmp opened O R last (entries r.1) (entries r.0) (entries u.0) (entries ls) P2 L2 f.0 m f.2
            (subst (λ z. Rest cmp opened O (Some R) z (entries ls) m P2 L2) u.2.0 h)) in (
              v.0,
              more bad_of bad_of-append (spans M'.bad.items) (spans M''.bad.items) fr m u.2.1.0 ∙ more bad_of bad_of-append (spans M.bad.items) (spans M'.bad.items) f.0 (fr ++ m) f.1.0 ∙ v.1,
              more good_of good_of-append (spans M'.good.items) (spans M''.good.items) fr m u.2.1.1 ∙ more good_of good_of-append (spans M.good.items) (spans M'.good.items) f.0 (fr ++ m) f.1.1 ∙ v.2,
              v.3,
            ),
      )

  pub goes-last : (R : Span K) (last : Option (Span K)) (from : K) (M M' : Marks K o e p) (l l' : Lookahead I (PageRange K o e p)) (q q' : Lookahead J (PageRange K o e p))
      → gap_start R last ≡ from → Goes [] R last M l q → Done R from M M' l q l' q'
      → LeadsBoth steps peer_steps l0 p0 l' q' (Walks cmp outer (λ m. Marked M0 m M'))
  goes-last R last from M M' l l' q q' g i t ls ps hl hp =
      let r = t ls ps hl hp in
      let f = r.4 last g in
      let a = i r.0 r.1 r.2 r.3 in
      let v = a.4 f.0 (entries ps) (entries ls) f.2 in
      (a.0, a.1, a.2, a.3, (v.0, (f.1.0 ∙ v.1, f.1.1 ∙ v.2), v.3))
