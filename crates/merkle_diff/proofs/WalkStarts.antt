-- What a walk does first, by the tests of its first entries.
use Rattle.std.proofs.Common.{◌≡◌, ◌≢◌, Bool, true, false, List, [], ◌∷◌, ◌++◌, Option, Some, None, refl, sym, ◌∙◌, if◌then◌else◌}
use Rattle.std.specs.declared.cmp.Ordering.{Ordering}
use Rattle.key_order.specs.Interval.{Span, is_within}
use Rattle.merkle_diff.specs.Entry.{Entry, span_of}
use Rattle.merkle_diff.specs.Walk.{Walk, Mark, no_peer, outside, held, no_local, between, agrees, differs, gap_mark, gap_start, gap_end, front_within, after_within, last_holder, after_holders, bad_marks}
use Rattle.merkle_diff.specs.Walk.Mark.{Bad, Good}
use Rattle.merkle_diff.proofs.Stacks.{Agree}

module _ {K D : Type 0} (cmp : K → K → Ordering) where
  pub inv-empty : {R : Span K} {last : Option (Span K)} {L P' L' : List (Entry K D)} {ms : List (Mark K)} → Walk cmp R last [] L ms P' L' → (ms ≡ []) × (P' ≡ []) × (L' ≡ L)
  inv-empty no_peer = (refl, refl, refl)

  pub inv-outside : {R : Span K} {last : Option (Span K)} {p : Entry K D} {P L P' L' : List (Entry K D)} {ms : List (Mark K)} → Walk cmp R last (p ∷ P) L ms P' L'
      → is_within cmp (span_of p) R ≡ false → (ms ≡ []) × (P' ≡ p ∷ P) × (L' ≡ L)
  inv-outside (outside h) f = (refl, refl, refl)
  inv-outside (held h i j) f = let e = sym h ∙ f in cc
  inv-outside (no_local h) f = let e = sym h ∙ f in cc
  inv-outside (between h i j) f = let e = sym h ∙ f in cc
  inv-outside (agrees h i j w v) f = let e = sym h ∙ f in cc
  inv-outside (differs h i j w v) f = let e = sym h ∙ f in cc

  pub inv-nil : {R : Span K} {last : Option (Span K)} {p : Entry K D} {P P' L' : List (Entry K D)} {ms : List (Mark K)} → Walk cmp R last (p ∷ P) [] ms P' L'
      → is_within cmp (span_of p) R ≡ true → (ms ≡ gap_mark cmp (gap_start R last) p.last) × (P' ≡ P) × (L' ≡ [])
  inv-nil (outside h) k = let e = sym h ∙ k in cc
  inv-nil (no_local h) k = (refl, refl, refl)

  pub inv-held : {R : Span K} {last : Option (Span K)} {p l : Entry K D} {P L P' L' : List (Entry K D)} {ms : List (Mark K)} → Walk cmp R last (p ∷ P) (l ∷ L) ms P' L'
      → is_within cmp (span_of p) R ≡ true → is_within cmp (span_of l) (span_of p) ≡ false → is_within cmp (span_of p) (span_of l) ≡ true → (ms ≡ []) × (P' ≡ P) × (L' ≡ l ∷ L)
  inv-held (outside h) k f g = let e = sym h ∙ k in cc
  inv-held (held h i j) k f g = (refl, refl, refl)
  inv-held (between h i j) k f g = let e = sym j ∙ g in cc
  inv-held (agrees h i j w v) k f g = let e = sym i ∙ f in cc
  inv-held (differs h i j w v) k f g = let e = sym i ∙ f in cc

  pub inv-between : {R : Span K} {last : Option (Span K)} {p l : Entry K D} {P L P' L' : List (Entry K D)} {ms : List (Mark K)} → Walk cmp R last (p ∷ P) (l ∷ L) ms P' L'
      → is_within cmp (span_of p) R ≡ true → is_within cmp (span_of l) (span_of p) ≡ false → is_within cmp (span_of p) (span_of l) ≡ false
      → (ms ≡ gap_mark cmp (gap_start R last) (gap_end cmp p (l ∷ L))) × (P' ≡ P) × (L' ≡ l ∷ L)
  inv-between (outside h) k f g = let e = sym h ∙ k in cc
  inv-between (held h i j) k f g = let e = sym j ∙ g in cc
  inv-between (between h i j) k f g = (refl, refl, refl)
  inv-between (agrees h i j w v) k f g = let e = sym i ∙ f in cc
  inv-between (differs h i j w v) k f g = let e = sym i ∙ f in cc

  -- the walk goes into the peer's entry
  abbrev pub Into : Span K → Entry K D → Entry K D → List (Entry K D) → List (Entry K D) → List (Entry K D) → List (Entry K D) → List (Mark K) → Type 0
  Into R p l P L P' L' ms =
      (agree : Bool) × (inner : List (Mark K)) × (after : List (Mark K)) × (P1 : List (Entry K D)) × (L1 : List (Entry K D))
      × Agree agree (last_holder cmp (span_of p) l L).digest p.digest
      × Walk cmp (span_of p) None (if agree then after_within cmp (span_of p) P else P) (after_holders cmp (span_of p) L) inner P1 L1
      × Walk cmp R (Some (span_of p)) (after_within cmp (span_of p) P1) L1 after P' L'
      × (ms ≡ (if agree then Good (span_of p) else Bad (span_of p)) ∷ (inner ++ (bad_marks cmp (front_within cmp (span_of p) P1) ++ after)))

  pub inv-into : {R : Span K} {last : Option (Span K)} {p l : Entry K D} {P L P' L' : List (Entry K D)} {ms : List (Mark K)} → Walk cmp R last (p ∷ P) (l ∷ L) ms P' L'
      → is_within cmp (span_of p) R ≡ true → is_within cmp (span_of l) (span_of p) ≡ true → Into R p l P L P' L' ms
  inv-into (outside h) k f = let e = sym h ∙ k in cc
  inv-into (held h i j) k f = let e = sym i ∙ f in cc
  inv-into (between h i j) k f = let e = sym i ∙ f in cc
  inv-into (agrees {P' = P1} {L' = L1} {inner = inner} {after = after} h i j w v) k f = (true, inner, after, P1, L1, j, w, v, refl)
  inv-into (differs {P' = P1} {L' = L1} {inner = inner} {after = after} h i j w v) k f = (false, inner, after, P1, L1, j, w, v, refl)

pub agree-by : {D : Type 0} {d e : D} (agree : Bool) → Agree agree d e → d ≡ e → agree ≡ true
agree-by true h f = refl
agree-by false h f = absurd (h f)

pub differ-by : {D : Type 0} {d e : D} (agree : Bool) → Agree agree d e → d ≢ e → agree ≡ false
differ-by true h n = absurd (n h)
differ-by false h n = refl
