-- What a step of the walk does to a queue.
use Rattle.std.proofs.Common.{◌≡◌, Bool, true, false, List, [], ◌∷◌, ◌++◌, Option, Some, None, IfSome, if◌then◌else◌, refl, sym, ◌∙◌, ap, append-nil}
use Rattle.std.specs.declared.cmp.Ordering.{Ordering}
use Rattle.merkle_digest.specs.declared.PageDigest.{PageDigest}
use Rattle.merkle_diff.specs.declared.lookahead.Lookahead.{Lookahead}
use Rattle.merkle_diff.specs.declared.page_range.PageRange.{PageRange}
use Rattle.merkle_diff.specs.declared.diff_range.DiffRange.{DiffRange}
use Rattle.key_order.specs.Interval.{Span, is_within}
use Rattle.merkle_diff.specs.Entry.{Entry, span_of}
use Rattle.merkle_diff.specs.DiffRange.{span, spans}
use Rattle.merkle_diff.specs.PageRange.{entry, entries}
use Rattle.merkle_diff.specs.Turn.{Leads, head_is, last_digest}
use Rattle.merkle_diff.specs.Walk.{bad_of, good_of, front_within, after_within, last_holder, after_holders, bad_marks}
use Rattle.merkle_diff.proofs.Queues.{Leaves-cons, front_of, front-is}

-- the head of which a test holds
pub head-item : {X : Type 0} (test : X → Bool) (h : Option X) → head_is test h ≡ true → (x : X) × (h ≡ Some x) × (test x ≡ true)
head-item test None h = cc
head-item test (Some x) h = (x, refl, h)

-- one more item was taken from the front
pub Leads-more : {I K : Type 0} {o e p : _} (steps : I → Option (PageRange K o e p) → I → Type 0) (q0 q q' : Lookahead I (PageRange K o e p))
    (R S : List (Entry K PageDigest) → List (Entry K PageDigest) → Type 0) (x : PageRange K o e p)
    → q.head ≡ Some x → IfSome q.head (λ _. steps q.rest q'.head q'.rest)
    → ((qs ps : List (Entry K PageDigest)) → R qs (entry x ∷ ps) → S qs ps) → Leads steps q0 q R → Leads steps q0 q' S
Leads-more steps q0 q q' R S x h st f l ps lv =
    let r = l (x ∷ ps) (Leaves-cons steps q q' x ps (sym h) st lv) in
    (r.0, r.1, f (entries r.0) (entries ps) r.2)

-- no more are taken
pub Leads-end : {I K : Type 0} {o e p : _} (steps : I → Option (PageRange K o e p) → I → Type 0) (q0 q : Lookahead I (PageRange K o e p))
    (R S : List (Entry K PageDigest) → List (Entry K PageDigest) → Type 0) (test : PageRange K o e p → Bool)
    → head_is test q.head ≡ false
    → ((qs : List (Entry K PageDigest)) (ps : List (PageRange K o e p)) → head_is test (front_of ps) ≡ false → R qs (entries ps) → S qs (entries ps)) → Leads steps q0 q R → Leads steps q0 q S
Leads-end steps q0 q R S test h f l ps lv =
    let r = l ps lv in
    (r.0, r.1, f (entries r.0) ps (ap (head_is test) (sym (front-is steps q ps lv)) ∙ h) r.2)

module _ {K D : Type 0} (cmp : K → K → Ordering) where
  -- an entry within s is at the front
  pub within-more : (s : Span K) (x : Entry K D) (P : List (Entry K D)) → is_within cmp (span_of x) s ≡ true
      → (after_within cmp s (x ∷ P) ≡ after_within cmp s P) × (front_within cmp s (x ∷ P) ≡ x ∷ front_within cmp s P)
  within-more s x P h = rw h (refl, refl)

  -- so is one that holds s
  pub holders-more : (s : Span K) (d : D) (x : Entry K D) (P : List (Entry K D)) → is_within cmp s (span_of x) ≡ true
      → (after_holders cmp s (x ∷ P) ≡ after_holders cmp s P) × (last_digest cmp s d (x ∷ P) ≡ last_digest cmp s x.digest P)
  holders-more s d x P h = rw h (refl, refl)

  -- the last digest is that of the last holder
  pub last_digest-is : (s : Span K) (l : Entry K D) (L : List (Entry K D)) → last_digest cmp s l.digest L ≡ (last_holder cmp s l L).digest
  last_digest-is s l [] = refl
  last_digest-is s l (x ∷ L) = go (is_within cmp s (span_of x)) (last_digest-is s x L)
    where
      go : (t : Bool) → last_digest cmp s x.digest L ≡ (last_holder cmp s x L).digest
          → (if t then last_digest cmp s x.digest L else l.digest) ≡ (if t then last_holder cmp s x L else l).digest
      go true h = h
      go false h = refl

-- no entry is at the front
pub within-stops : {K : Type 0} {o e p : _} (cmp : K → K → Ordering) (s : Span K) (ps : List (PageRange K o e p))
    → head_is (λ r. is_within cmp (span_of (entry r)) s) (front_of ps) ≡ false → (after_within cmp s (entries ps) ≡ entries ps) × (front_within cmp s (entries ps) ≡ [])
within-stops cmp s [] h = (refl, refl)
within-stops cmp s (x ∷ ps) h = let e : is_within cmp (span_of (entry x)) s ≡ false = h in rw e (refl, refl)

pub holders-stop : {K : Type 0} {o e p : _} (cmp : K → K → Ordering) (s : Span K) (d : PageDigest) (ps : List (PageRange K o e p))
    → head_is (λ r. is_within cmp s (span_of (entry r))) (front_of ps) ≡ false → (after_holders cmp s (entries ps) ≡ entries ps) × (last_digest cmp s d (entries ps) ≡ d)
holders-stop cmp s d [] h = (refl, refl)
holders-stop cmp s d (x ∷ ps) h = let e : is_within cmp s (span_of (entry x)) ≡ false = h in rw e (refl, refl)

-- one range was added at the end
pub added : {K : Type 0} {o e p : _} (old new : List (DiffRange K o e p)) (r : DiffRange K o e p) (ys : List (Span K)) → new ≡ old ++ r ∷ [] → spans new ++ ys ≡ spans old ++ (span r ∷ ys)
added {K} {o} {e} {p} old new r ys h = rw h (go old)
  where
    go : (xs : List (DiffRange K o e p)) → spans (xs ++ r ∷ []) ++ ys ≡ spans xs ++ (span r ∷ ys)
    go [] = refl
    go (x ∷ xs) = ap (λ t. span x ∷ t) (go xs)

module _ {K D : Type 0} (cmp : K → K → Ordering) (s : Span K) (B0 G0 : List (Span K)) where
  -- how far the marking has come
  abbrev pub Marking : List (Span K) → List (Span K) → List (Entry K D) → List (Entry K D) → Type 0
  Marking B G qs ps = (after_within cmp s ps ≡ after_within cmp s qs)
      × (B ++ bad_of (bad_marks cmp (front_within cmp s ps)) ≡ B0 ++ bad_of (bad_marks cmp (front_within cmp s qs)))
      × (G ++ good_of (bad_marks cmp (front_within cmp s ps)) ≡ G0 ++ good_of (bad_marks cmp (front_within cmp s qs)))

  pub mark-more : (B B' G : List (Span K)) (x : Entry K D) (qs ps : List (Entry K D)) → is_within cmp (span_of x) s ≡ true
      → ((ys : List (Span K)) → B' ++ ys ≡ B ++ (span_of x ∷ ys)) → Marking B G qs (x ∷ ps) → Marking B' G qs ps
  mark-more B B' G x qs ps h f r = (
    sym (within-more cmp s x ps h).0 ∙ r.0,
    f (bad_of (bad_marks cmp (front_within cmp s ps))) ∙ (sym (ap (λ F. B ++ bad_of (bad_marks cmp F)) (within-more cmp s x ps h).1) ∙ r.1),
    sym (ap (λ F. G ++ good_of (bad_marks cmp F)) (within-more cmp s x ps h).1) ∙ r.2,
  )

  pub mark-end : (B G : List (Span K)) (qs ps : List (Entry K D)) → after_within cmp s ps ≡ ps → front_within cmp s ps ≡ [] → Marking B G qs ps
      → (ps ≡ after_within cmp s qs) × ((B ≡ B0 ++ bad_of (bad_marks cmp (front_within cmp s qs))) × (G ≡ G0 ++ good_of (bad_marks cmp (front_within cmp s qs))))
  mark-end B G qs ps h k r = (
    sym h ∙ r.0,
    (sym (append-nil B) ∙ (sym (ap (λ F. B ++ bad_of (bad_marks cmp F)) k) ∙ r.1), sym (append-nil G) ∙ (sym (ap (λ F. G ++ good_of (bad_marks cmp F)) k) ∙ r.2)),
  )
