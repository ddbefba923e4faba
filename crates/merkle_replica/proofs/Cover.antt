-- Coverage: where the peer's span holds local's, each key of the peer that local lacks or has with another digest is in a range.
use Rattle.std.proofs.Common.{◌≡◌, Bool, true, false, cond, List, [], ◌∷◌, Option, Some, None, refl, sym, ◌∙◌, ap, ◌⊎◌, inl, inr, subst}
use Rattle.std.specs.List.{AllByRecursion}
use Rattle.std.specs.Cmp.{IsTotalOrder, tied_back}
use Rattle.std.specs.declared.cmp.Ordering.{Ordering}
use Rattle.key_order.specs.Order.{AnyByRecursion, Upto}
use Rattle.key_order.specs.Interval.{Span, IsIn, IsCovered, is_in}
use Rattle.key_order.specs.Map.{SameValue, IsPresent, IsMap, get, SameMap, last_key}
use Rattle.key_order.proofs.Maps.{get_at, get_by_same}
use Rattle.key_order.proofs.Orders.{up_up, same_up, same_down}
use Rattle.key_order.proofs.Spans.{test_from_in, is_in-same}
use Rattle.merkle_diff.specs.Difference.{IsDifference, IsAgreed, IsByTable}
use Rattle.merkle_diff.specs.Entry.{Entry, span_of}
use Rattle.merkle_diff.specs.Merge.{SameSpans}
use Rattle.merkle_tree_theory.specs.Listing.{IsWhole, IsListing, entry_rows}
use Rattle.merkle_tree_theory.specs.Faithful.{HasFaithfulPages}
use Rattle.merkle_replica.specs.Faithful.{SpanHolds}
use Rattle.merkle_replica.proofs.Bounds.{first_bound, last_bound, present_head, present_last, present_same}

pub any_all : {X : Type 0} {P Q : X → Type 0} (xs : List X) → AllByRecursion P xs → AnyByRecursion Q xs → (x : X) × P x × Q x
any_all [] a h = absurd h
any_all (x ∷ xs) a (inl h) = (x, a.0, h)
any_all (x ∷ xs) a (inr h) = any_all xs a.1 h

module _ {K X : Type 0} (cmp : K → K → Ordering) where
  -- each key of a has a key of b at most it
  abbrev pub Lo : List (K × X) → List (K × X) → Type 0
  Lo b a = (k : K) → IsPresent (get cmp a k) → (j : K) × IsPresent (get cmp b j) × Upto cmp j k

  -- each key of a has a key of b at least it
  abbrev pub Hi : List (K × X) → List (K × X) → Type 0
  Hi b a = (k : K) → IsPresent (get cmp a k) → (j : K) × IsPresent (get cmp b j) × Upto cmp k j

module _ {K : Type 0} (cmp : K → K → Ordering) (o : IsTotalOrder cmp) where
  module _ {X : Type 0} where
    pub lo_from_span : (a b : List (K × X)) → IsMap cmp a → SpanHolds cmp b a → Lo cmp b a
    lo_from_span [] b p h k q = absurd q
    lo_from_span (r ∷ rs) [] p h k q = absurd h
    lo_from_span (r ∷ rs) (s ∷ ss) p h k q = (s.0, present_head cmp o s ss, up_up cmp o s.0 r.0 k h.0 (first_bound cmp o r rs k p q))

    pub hi_from_span : (a b : List (K × X)) → IsMap cmp a → SpanHolds cmp b a → Hi cmp b a
    hi_from_span [] b p h k q = absurd q
    hi_from_span (r ∷ rs) [] p h k q = absurd h
    hi_from_span (r ∷ rs) (s ∷ ss) p h k q = (last_key s.0 ss, present_last cmp o s ss, up_up cmp o k (last_key r.0 rs) (last_key s.0 ss) (last_bound cmp o r rs k p q) h.1)

  in_whole : {P : Type 0} (b : Entry K P) (found : List (Span K)) → SameSpans cmp found (span_of b ∷ []) → (k : K) → IsIn cmp k (span_of b) → IsCovered cmp k found
  in_whole b [] h k i = absurd h
  in_whole b (s ∷ ss) h k i = inl (up_up cmp o s.first b.first k (same_up cmp o s.first b.first h.0.0) i.0, up_up cmp o k b.last s.last i.1 (same_down cmp o s.last b.last h.0.1))

  module _ {D P : Type 0} where
    pub no_entry : (m : List (K × D)) → (es : List (Entry K P)) → IsWhole cmp m es → es ≡ [] → m ≡ []
    no_entry [] es h e = refl
    no_entry (p ∷ ps) [] h e = absurd h
    no_entry (p ∷ ps) (x ∷ es) h e = cc

    pub first_there : (m : List (K × D)) (e : Entry K P) (es : List (Entry K P)) → IsWhole cmp m (e ∷ es) → IsPresent (get cmp m e.first)
    first_there [] e es h = absurd h
    first_there (p ∷ ps) e es h = present_same cmp o (p ∷ ps) p.0 e.first (tied_back o e.first p.0 h.0) (present_head cmp o p ps)

    pub last_there : (m : List (K × D)) (e : Entry K P) (es : List (Entry K P)) → IsWhole cmp m (e ∷ es) → IsPresent (get cmp m e.last)
    last_there [] e es h = absurd h
    last_there (p ∷ ps) e es h = present_same cmp o (p ∷ ps) (last_key p.0 ps) e.last (tied_back o e.last (last_key p.0 ps) h.1) (present_last cmp o p ps)

    pub all_in_first : (m : List (K × D)) (e : Entry K P) (es : List (Entry K P)) → IsMap cmp m → IsWhole cmp m (e ∷ es) → (k : K) → IsPresent (get cmp m k) → IsIn cmp k (span_of e)
    all_in_first [] e es a h k q = absurd q
    all_in_first (p ∷ ps) e es a h k q = (
      up_up cmp o e.first p.0 k (same_up cmp o e.first p.0 h.0) (first_bound cmp o p ps k a q),
      up_up cmp o k (last_key p.0 ps) e.last (last_bound cmp o p ps k a q) (same_down cmp o e.last (last_key p.0 ps) h.1),
    )

    pub found_or_agreed : (a b : List (K × D)) (ls ps : List (Entry K P)) (found : List (Span K)) → IsMap cmp a → IsMap cmp b → IsWhole cmp a ls
        → IsWhole cmp b ps → Lo cmp b a → Hi cmp b a → IsByTable cmp ls ps found → (k : K) → IsPresent (get cmp b k) → IsCovered cmp k found ⊎ IsAgreed cmp ls ps k
    found_or_agreed a b ls [] found p q w v lo hi t k h = absurd (subst (λ m. IsPresent (get cmp m k)) (no_entry b [] v refl) h)
    found_or_agreed a b [] (y ∷ ys) found p q w v lo hi t k h = inl (in_whole y found t k (all_in_first b y ys q v k h))
    found_or_agreed a b (x ∷ xs) (y ∷ ys) found p q w v lo hi t k h =
        let (j, there, below) = lo x.first (first_there a x xs w) in
        let (i, here, above) = hi x.last (last_there a x xs w) in
        t.holds (up_up cmp o y.first j x.first (all_in_first b y ys q v j there).0 below, up_up cmp o x.last i y.last above (all_in_first b y ys q v i here).1) k (all_in_first b y ys q v k h)

  -- pages with equal digests have the same maps, so a key in one that agrees has the same digest on both sides
  module _ {D P T : Type 0} (IsPageOfA IsPageOfB : T → List (K × D) → Type 0) (dig_a dig_b : T → P) (pairs : T → List (K × D)) where
    is_same : (x y : Option D) → SameValue (λ d e. d ≡ e) x y → x ≡ y
    is_same None None s = refl
    is_same None (Some y) s = absurd s
    is_same (Some x) None s = absurd s
    is_same (Some x) (Some y) s = ap Some s

    from_is : (x y : Option D) → x ≡ y → SameValue (λ d e. d ≡ e) x y
    from_is x y e = subst (SameValue (λ d e. d ≡ e) x) e (itself x)
      where
        itself : (x : Option D) → SameValue (λ d e. d ≡ e) x x
        itself None = tt
        itself (Some x) = refl

    out : (l p : Bool) (x y n : Option D) → n ≡ None → p ≡ true → IsPresent y → cond l x n ≡ cond p y n → x ≡ y
    out l false x y n z e h s = cc
    out true true x y n z e h s = s
    out false true x None n z e h s = absurd h
    out false true x (Some y) n z e h s = cc

    -- the value at k in a page of the map, where k is in the page's entry
    in_page : (m : List (K × D)) (l : Entry K P) (s : T) (k : K) → SameMap cmp (λ d e. d ≡ e) (pairs s) (entry_rows cmp l m) → get cmp (pairs s) k ≡ cond (is_in cmp k (span_of l)) (get cmp m k) None
    in_page m l s k h =
        is_same (get cmp (pairs s) k) (get cmp (entry_rows cmp l m) k) (get_by_same cmp o (λ d e. d ≡ e) (pairs s) (entry_rows cmp l m) h k)
        ∙ get_at cmp o (λ j. is_in cmp j (span_of l)) (is_in-same cmp o (span_of l)) m k

    pub same_if_agreed : (a b : List (K × D)) (ls ps : List (Entry K P)) → IsListing cmp IsPageOfA dig_a pairs a ls → IsListing cmp IsPageOfB dig_b pairs b ps
        → HasFaithfulPages cmp IsPageOfA IsPageOfB dig_a dig_b pairs a b → (k : K) → IsPresent (get cmp b k) → IsAgreed cmp ls ps k
        → SameValue (λ d e. d ≡ e) (get cmp a k) (get cmp b k)
    same_if_agreed a b ls ps u v same k h agreed =
        let (p, (t, of_b, dig_t, pairs_t), (here, some)) = any_all ps v.pages agreed in
        let (l, (s, of_a, dig_s, pairs_s), alike) = any_all ls u.pages some in
        let maps = same s t of_a of_b (dig_s ∙ alike ∙ sym dig_t) in
        from_is (get cmp a k) (get cmp b k)
        (out (is_in cmp k (span_of l)) (is_in cmp k (span_of p)) (get cmp a k) (get cmp b k) None refl (test_from_in cmp o k (span_of p) here) h
        (sym (in_page a l s k pairs_s) ∙ is_same (get cmp (pairs s) k) (get cmp (pairs t) k) (get_by_same cmp o (λ d e. d ≡ e) (pairs s) (pairs t) maps k) ∙ in_page b p t k pairs_t))

    pub found_or_same : (a b : List (K × D)) (ls ps : List (Entry K P)) (found : List (Span K)) → IsMap cmp a → IsMap cmp b
        → IsListing cmp IsPageOfA dig_a pairs a ls → IsListing cmp IsPageOfB dig_b pairs b ps → Lo cmp b a → Hi cmp b a
        → HasFaithfulPages cmp IsPageOfA IsPageOfB dig_a dig_b pairs a b → IsDifference cmp ls ps found → (k : K) → IsPresent (get cmp b k)
        → IsCovered cmp k found ⊎ SameValue (λ d e. d ≡ e) (get cmp a k) (get cmp b k)
    found_or_same a b ls ps found p q u v lo hi same d k h = go (found_or_agreed a b ls ps found p q u.whole v.whole lo hi d.table k h)
      where
        go : IsCovered cmp k found ⊎ IsAgreed cmp ls ps k → IsCovered cmp k found ⊎ SameValue (λ d e. d ≡ e) (get cmp a k) (get cmp b k)
        go (inl i) = inl i
        go (inr g) = inr (same_if_agreed a b ls ps u v same k h g)

    has : (x y : Option D) (d : D) → y ≡ Some d → SameValue (λ d e. d ≡ e) x y → x ≡ Some d
    has None None d e s = e
    has None (Some y) d e s = absurd s
    has (Some x) None d e s = absurd s
    has (Some x) (Some y) d e s = ap Some s ∙ e

    -- coverage
    pub covers : (a b : List (K × D)) (ls ps : List (Entry K P)) (found : List (Span K)) → IsMap cmp a → IsMap cmp b → IsListing cmp IsPageOfA dig_a pairs a ls
        → IsListing cmp IsPageOfB dig_b pairs b ps → SpanHolds cmp b a → HasFaithfulPages cmp IsPageOfA IsPageOfB dig_a dig_b pairs a b
        → IsDifference cmp ls ps found → (k : K) (d : D) → get cmp b k ≡ Some d → ¬ (get cmp a k ≡ Some d) → IsCovered cmp k found
    covers a b ls ps found p q u v holds same diff k d e n =
        go (found_or_same a b ls ps found p q u v (lo_from_span a b p holds) (hi_from_span a b p holds) same diff k (subst IsPresent (sym e) tt))
      where
        go : IsCovered cmp k found ⊎ SameValue (λ d e. d ≡ e) (get cmp a k) (get cmp b k) → IsCovered cmp k found
        go (inl i) = i
        go (inr g) = absurd (n (has (get cmp a k) (get cmp b k) d e g))
