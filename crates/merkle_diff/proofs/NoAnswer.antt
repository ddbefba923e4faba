-- Where the first entries have no range for an answer.
use Rattle.std.proofs.Common.{◌≡◌, Bool, true, false, ◌&&◌, List, [], ◌∷◌, Option, Some, None, Result, Ok, Err, OnErr, refl, sym, ◌∙◌, ap, subst, ◌⊎◌, inl, inr}
use Rattle.std.proofs.lemmas.Bool.{or_cases, and_parts, or_parts}
use Rattle.std.specs.Cmp.{IsTotalOrder}
use Rattle.std.specs.declared.cmp.Ordering.{Ordering}
use Rattle.merkle_digest.specs.declared.PageDigest.{PageDigest}
use Rattle.merkle_diff.specs.declared.lookahead.Lookahead.{Lookahead}
use Rattle.merkle_diff.specs.declared.page_range.PageRange.{PageRange}
use Rattle.key_order.specs.Interval.{Span, IsOrdered, is_within}
use Rattle.merkle_diff.specs.Entry.{Entry, span_of}
use Rattle.key_order.specs.Order.{Upto, Below, below}
use Rattle.merkle_diff.specs.Merge.{IsMerge}
use Rattle.merkle_diff.specs.Walk.{Walk, held, between, gap_mark, gap_end}
use Rattle.merkle_diff.specs.Iterable.{Gives, Begins}
use Rattle.merkle_diff.specs.PageRange.{entry, entries}
use Rattle.merkle_diff.specs.Turn.{may_answer, head_may_answer, HeadsMayAnswer}
use Rattle.merkle_diff.specs.Difference.{IsByFirsts, IsByWalk, MayAnswer}
use Rattle.key_order.proofs.Orders.{either, low_up, low_is_up, not_both, same_up, same_down}
use Rattle.merkle_diff.proofs.SweepIsMerge.{none-merged}
use Rattle.merkle_diff.proofs.Queues.{front_of, Drains-from}
use Rattle.merkle_diff.proofs.OrderTests.{not_upto, to_within, within_self, within_by}

module _ {K : Type 0} (cmp : K → K → Ordering) (o : IsTotalOrder cmp) where
  nothing : (a b : Entry K PageDigest) (ls ps : List (Entry K PageDigest)) → IsOrdered cmp (span_of b) → may_answer cmp (span_of a) (span_of b) ≡ false
      → Walk cmp (span_of b) None (b ∷ ps) (a ∷ ls) [] ps (a ∷ ls)
  nothing a b ls ps d h = go (is_within cmp (span_of b) (span_of a)) refl
    where
      f : is_within cmp (span_of a) (span_of b) ≡ false
      f = (or_parts (is_within cmp (span_of a) (span_of b)) (below cmp b.first a.first && below cmp b.last a.last) h).0

      n : below cmp b.first a.first && below cmp b.last a.last ≡ false
      n = (or_parts (is_within cmp (span_of a) (span_of b)) (below cmp b.first a.first && below cmp b.last a.last) h).1

      early : Below cmp a.first b.first → gap_mark cmp b.first (gap_end cmp b (a ∷ ls)) ≡ []
      early x = rw (not_upto cmp o b.last a.first (low_up cmp o a.first b.first b.last x d)) (rw (not_upto cmp o b.first a.first x) refl)

      low : Upto cmp b.first a.first → Upto cmp a.last b.last ⊎ Below cmp b.last a.last → Upto cmp a.first b.first ⊎ Below cmp b.first a.first → is_within cmp (span_of b) (span_of a) ≡ false → ⊥
      low x (inl y) z e = let q = sym (to_within cmp o (span_of a) (span_of b) (x, y)) ∙ f in cc
      low x (inr y) (inl z) e = let q = sym (to_within cmp o (span_of b) (span_of a) (z, low_is_up cmp o b.last a.last y)) ∙ e in cc
      low x (inr y) (inr z) e = let q = sym (ap (λ t. t && below cmp b.last a.last) z ∙ y) ∙ n in cc

      gone : is_within cmp (span_of b) (span_of a) ≡ false → Upto cmp b.first a.first ⊎ Below cmp a.first b.first → gap_mark cmp b.first (gap_end cmp b (a ∷ ls)) ≡ []
      gone e (inl x) = absurd (low x (either cmp o a.last b.last) (either cmp o a.first b.first) e)
      gone e (inr x) = early x

      go : (t : Bool) → is_within cmp (span_of b) (span_of a) ≡ t → Walk cmp (span_of b) None (b ∷ ps) (a ∷ ls) [] ps (a ∷ ls)
      go true e = held (within_self cmp o (span_of b)) f e
      go false e = subst (λ m. Walk cmp (span_of b) None (b ∷ ps) (a ∷ ls) m ps (a ∷ ls)) (gone e (either cmp o b.first a.first)) (between (within_self cmp o (span_of b)) f e)

  pub may-be : (a b : Entry K PageDigest) → may_answer cmp (span_of a) (span_of b) ≡ true → MayAnswer cmp a b
  may-be a b h = go (or_cases (is_within cmp (span_of a) (span_of b)) (below cmp b.first a.first && below cmp b.last a.last) h)
    where
      go : (is_within cmp (span_of a) (span_of b) ≡ true) ⊎ (below cmp b.first a.first && below cmp b.last a.last ≡ true) → MayAnswer cmp a b
      go (inl x) = inr (within_by cmp o (span_of a) (span_of b) x)
      go (inr x) = inl (and_parts (below cmp b.first a.first) (below cmp b.last a.last) x)

-- a range may be answered, or none is
module _ {K D : Type 0} (cmp : K → K → Ordering) (o : IsTotalOrder cmp) where
  pub may-or_none : (a b : Entry K D) (ls ps : List (Entry K D)) (found : List (Span K)) → IsByFirsts cmp a b ls ps found → MayAnswer cmp a b ⊎ (found ≡ [])
  may-or_none a b ls ps found t = go (either cmp o a.first b.first) (either cmp o b.first a.first) (either cmp o a.last b.last) (either cmp o b.last a.last)
    where
      go : Upto cmp a.first b.first ⊎ Below cmp b.first a.first → Upto cmp b.first a.first ⊎ Below cmp a.first b.first → Upto cmp a.last b.last
          ⊎ Below cmp b.last a.last → Upto cmp b.last a.last ⊎ Below cmp a.last b.last → MayAnswer cmp a b ⊎ (found ≡ [])
      go (inr l) s (inr m) e = inl (inl (l, m))
      go (inr l) s (inl m) e = inl (inr (low_is_up cmp o b.first a.first l, m))
      go (inl l) (inl s) (inl m) e = inl (inr (s, m))
      go (inl l) (inl s) (inr m) e = inr (t.within (l, low_is_up cmp o b.last a.last m) (λ same. not_both cmp o a.last b.last (same_up cmp o a.last b.last same.1) m))
      go (inl l) (inr s) m (inl e) = inr (t.within (l, e) (λ same. not_both cmp o b.first a.first (same_down cmp o a.first b.first same.0) s))
      go (inl l) (inr s) m (inr e) = inr (t.behind s e)

pub nothing-by_walk : {K : Type 0} {o e p : _} (cmp : K → K → Ordering) (t : IsTotalOrder cmp) (ls ps : List (PageRange K o e p))
    (head : Option (PageRange K o e p)) (first : PageRange K o e p) (s : Span K) (found : List (Span K))
    → ((r : PageRange K o e p) → IsOrdered cmp (span_of (entry r))) → Some first ≡ front_of ps → head ≡ front_of ls → s ≡ span_of (entry first)
    → head_may_answer cmp head s ≡ false → found ≡ [] → IsByWalk cmp (entries ls) (entries ps) found
nothing-by_walk cmp t ls [] head first s found d f g q h z = cc
nothing-by_walk cmp t [] (b ∷ ps) head first s found d f g q h z = let r = sym (ap (λ v. head_may_answer cmp v s) g) ∙ h in cc
nothing-by_walk cmp t (a ∷ ls) (b ∷ ps) head first s found d f g q h z =
    let x : first ≡ b = cc in
    let r = sym (ap (λ v. head_may_answer cmp v s) g) ∙ h in
    let m = subst (λ v. may_answer cmp (span_of (entry a)) v ≡ false) (q ∙ ap (λ v. span_of (entry v)) x) r in (
      [],
      entries ps,
      entry a ∷ entries ls,
      [],
      [],
      nothing cmp t (entry a) (entry b) (entries ls) (entries ps) (d b) m,
      none-merged cmp,
      none-merged cmp,
      subst (IsMerge cmp []) (sym z) (none-merged cmp),
    )

pub begun : {V I X : Type 0} (becomes : V → I → Type 0) (steps : I → Option X → I → Type 0) (v : V) (it : I) (q : Lookahead I X) (x : X) → becomes v it
    → steps it q.head q.rest → q.head ≡ Some x → Begins becomes steps v (x ∷ [])
begun becomes steps v it q x b s h = (it, q.rest, b, (q.rest, subst (λ z. steps it z q.rest) h s, refl))

pub on_err : {A E : Type 0} (r : Result A E) (P : Type 0) → P → OnErr r P
on_err (Ok a) P p = tt
on_err (Err e) P p = p

-- where the test of the heads passes, a range may be answered
pub heads-may_answer : {K : Type 0} {o e p : _} (cmp : K → K → Ordering) (t : IsTotalOrder cmp) (local peer : Option (PageRange K o e p)) (first : PageRange K o e p) (s : Span K)
    → peer ≡ Some first → s ≡ span_of (entry first) → head_may_answer cmp local s ≡ true → HeadsMayAnswer cmp local peer
heads-may_answer cmp t None peer first s z q h = (first, z, inl refl)
heads-may_answer cmp t (Some a) peer first s z q h = (first, z, inr (a, refl, may-be cmp t (entry a) (entry first) (subst (λ v. may_answer cmp (span_of (entry a)) v ≡ true) q h)))

-- why memory was asked for, as the iterables gave it
pub cause : {U IU T IT K : Type 0} {o e p : _} (cmp : K → K → Ordering)
    (bu : U → IU → Type 0) (su : IU → Option (PageRange K o e p) → IU → Type 0) (peer : U) (iu : IU) (qu : Lookahead IU (PageRange K o e p))
    (bt : T → IT → Type 0) (st : IT → Option (PageRange K o e p) → IT → Type 0) (local : T) (it : IT) (qt : Lookahead IT (PageRange K o e p))
    → bu peer iu → su iu qu.head qu.rest → bt local it → st it qt.head qt.rest → HeadsMayAnswer cmp qt.head qu.head
    → (b : PageRange K o e p) × Begins bu su peer (b ∷ []) × (Gives bt st local [] ⊎ ((a : PageRange K o e p) × Begins bt st local (a ∷ []) × MayAnswer cmp (entry a) (entry b)))
cause {K = K} {o = o} {e = e} {p = p} cmp bu su peer iu qu bt st local it qt xu yu xt yt (b, h, m) = (b, begun bu su peer iu qu b xu yu h, go m)
  where
    go : (qt.head ≡ None) ⊎ ((a : PageRange K o e p) × (qt.head ≡ Some a) × MayAnswer cmp (entry a) (entry b)) → Gives bt st local []
        ⊎ ((a : PageRange K o e p) × Begins bt st local (a ∷ []) × MayAnswer cmp (entry a) (entry b))
    go (inl f) = inl (it, xt, Drains-from st [] it qt yt f)
    go (inr (a, f, n)) = inr (a, begun bt st local it qt a xt yt f, n)
