-- Looking keys up, and maps that are the same.
use Rattle.std.proofs.Common.{◌≡◌, Bool, true, false, cond, List, [], ◌∷◌, Option, Some, None, refl, sym, ◌∙◌, ap, ◌⊎◌, inl, inr, subst, arith}
use Rattle.std.proofs.lemmas.Grind.{common_steps}
use Rattle.std.specs.List.{AllByRecursion}
use Rattle.std.specs.Cmp.{IsTotalOrder, tied_itself, tied_back, alike_right}
use Rattle.std.specs.Ordering.{is_eq, is_lt}
use Rattle.std.specs.declared.cmp.Ordering.{Ordering}
use Rattle.std.specs.declared.cmp.Ordering.TheVariants.{Less, Equal, Greater}
use Rattle.key_order.specs.Order.{Below, Same, Upto}
use Rattle.key_order.proofs.Orders.{not_both, up_low, low_low, same_up, same_down, same_from, either}
use Rattle.key_order.specs.Map.{SameValue, IsMap, get, SameMap, rows_at}
use Rattle.key_order.proofs.Bools.{which, is_equal}

not_less : (r : Ordering) → is_eq r ≡ true → is_lt r ≡ true → ⊥
not_less Less h k = cc
not_less Equal h k = cc
not_less Greater h k = cc

one : {X : Type 0} (b : Bool) (n : Option X) → n ≡ cond b n n
one true n = refl
one false n = refl

tf : true ≡ false → ⊥
tf h = cc

module _ {K : Type 0} (cmp : K → K → Ordering) (o : IsTotalOrder cmp) where
  not_same : (a b : K) → Below cmp a b → is_eq (cmp a b) ≡ false
  not_same a b h = go (which (is_eq (cmp a b)))
    where
      go : (is_eq (cmp a b) ≡ false) ⊎ (is_eq (cmp a b) ≡ true) → is_eq (cmp a b) ≡ false
      go (inl e) = e
      go (inr e) = absurd (not_less (cmp a b) e h)

module _ {K X : Type 0} (cmp : K → K → Ordering) (o : IsTotalOrder cmp) where
  -- a key finds what an equal key finds
  pub get_same : (m : List (K × X)) (k j : K) → Same cmp k j → get cmp m k ≡ get cmp m j
  get_same [] k j h = refl
  get_same (r ∷ rs) k j h = rw (alike_right o k j r.0 h, get_same rs k j h) refl

  pub get_at : (test : K → Bool) → ((k j : K) → Same cmp k j → test k ≡ test j) → (m : List (K × X)) (k : K) → get cmp (rows_at test m) k ≡ cond (test k) (get cmp m k) None
  get_at test resp [] k = one (test k) None
  get_at test resp (r ∷ rs) k = grind (arith, common_steps, get_at test resp rs k, resp r.0 k, is_equal)

  -- a key below all is not there
  pub absent : (m : List (K × X)) (k : K) → AllByRecursion (λ s. Below cmp k s.0) m → get cmp m k ≡ None
  absent [] k h = refl
  absent (r ∷ rs) k h = go (which (is_eq (cmp r.0 k))) (absent rs k h.1)
    where
      go : (is_eq (cmp r.0 k) ≡ false) ⊎ (is_eq (cmp r.0 k) ≡ true) → get cmp rs k ≡ None → get cmp (r ∷ rs) k ≡ None
      go (inl e) rest = rw e rest
      go (inr e) rest = absurd (not_both cmp o r.0 k (same_up cmp o r.0 k (is_equal (cmp r.0 k) e)) h.0)

  below_all : (m : List (K × X)) (j k : K) → Below cmp j k → AllByRecursion (λ s. Below cmp k s.0) m → AllByRecursion (λ s. Below cmp j s.0) m
  below_all [] j k h a = tt
  below_all (r ∷ rs) j k h a = (low_low cmp o j k r.0 h a.0, below_all rs j k h a.1)

  up_all : (m : List (K × X)) (j k : K) → Upto cmp j k → AllByRecursion (λ s. Below cmp k s.0) m → AllByRecursion (λ s. Below cmp j s.0) m
  up_all [] j k h a = tt
  up_all (r ∷ rs) j k h a = (up_low cmp o j k r.0 h a.0, up_all rs j k h a.1)

  pub at_head : (r : K × X) (rs : List (K × X)) (k : K) → Same cmp r.0 k → get cmp (r ∷ rs) k ≡ Some r.1
  at_head r rs k h = rw h refl

  pub past_head : (r : K × X) (rs : List (K × X)) (k : K) → is_eq (cmp r.0 k) ≡ false → get cmp (r ∷ rs) k ≡ get cmp rs k
  past_head r rs k h = rw h refl

  module _ (R : X → X → Type 0) where
    none_some : (a b : Option X) (x : X) → SameValue R a b → a ≡ Some x → b ≡ None → ⊥
    none_some None b x h e f = cc
    none_some (Some a) None x h e f = h
    none_some (Some a) (Some b) x h e f = cc

    some_none : (a b : Option X) (x : X) → SameValue R a b → a ≡ None → b ≡ Some x → ⊥
    some_none None None x h e f = cc
    some_none None (Some b) x h e f = h
    some_none (Some a) b x h e f = cc

    both_none : (a b : Option X) → a ≡ None → b ≡ None → SameValue R a b
    both_none None None e f = tt
    both_none None (Some b) e f = absurd (let g : ⊥ = cc in g)
    both_none (Some a) b e f = absurd (let g : ⊥ = cc in g)

    -- maps with the same value at each key are the same, place by place
    pub same_by_get : (a b : List (K × X)) → IsMap cmp a → IsMap cmp b → ((k : K) → SameValue R (get cmp a k) (get cmp b k)) → SameMap cmp R a b
    same_by_get [] [] p q h = tt
    same_by_get [] (s ∷ ss) p q h = absurd (some_none (get cmp [] s.0) (get cmp (s ∷ ss) s.0) s.1 (h s.0) refl (at_head s ss s.0 (tied_itself o s.0)))
    same_by_get (r ∷ rs) [] p q h = absurd (none_some (get cmp (r ∷ rs) r.0) (get cmp [] r.0) r.1 (h r.0) (at_head r rs r.0 (tied_itself o r.0)) refl)
    same_by_get (r ∷ rs) (s ∷ ss) p q h = go (λ e. same_by_get rs ss p.1 q.1 (rest e)) (either cmp o r.0 s.0) (either cmp o s.0 r.0)
      where
        rest : Same cmp r.0 s.0 → (k : K) → SameValue R (get cmp rs k) (get cmp ss k)
        rest e k = pick (which (is_eq (cmp r.0 k)))
          where
            pick : (is_eq (cmp r.0 k) ≡ false) ⊎ (is_eq (cmp r.0 k) ≡ true) → SameValue R (get cmp rs k) (get cmp ss k)
            pick (inl n) = let m : is_eq (cmp s.0 k) ≡ false = sym (ap is_eq (o.congr r.0 s.0 k e)) ∙ n in
                subst (SameValue R (get cmp rs k)) (past_head s ss k m) (subst (λ w. SameValue R w (get cmp (s ∷ ss) k)) (past_head r rs k n) (h k))
            pick (inr n) =
                let f = is_equal (cmp r.0 k) n in
                let u = same_down cmp o r.0 k f in
                let v = sym (o.congr r.0 s.0 k e) ∙ f in
                both_none (get cmp rs k) (get cmp ss k) (absent rs k (up_all rs k r.0 u p.0)) (absent ss k (up_all ss k s.0 (same_down cmp o s.0 k v) q.0))

        go : (Same cmp r.0 s.0 → SameMap cmp R rs ss) → Upto cmp r.0 s.0 ⊎ Below cmp s.0 r.0 → Upto cmp s.0 r.0 ⊎ Below cmp r.0 s.0 → SameMap cmp R (r ∷ rs) (s ∷ ss)
        go more (inl u) (inl v) =
            let e = same_from cmp o r.0 s.0 u v in (
              e,
              subst (SameValue R (Some r.1)) (at_head s ss r.0 (tied_back o r.0 s.0 e)) (subst (λ w. SameValue R w (get cmp (s ∷ ss) r.0)) (at_head r rs r.0 (tied_itself o r.0)) (h r.0)),
              more e,
            )
        go more (inr u) w =
            absurd (some_none (get cmp (r ∷ rs) s.0) (get cmp (s ∷ ss) s.0) s.1 (h s.0) (absent (r ∷ rs) s.0 (u, below_all rs s.0 r.0 u p.0)) (at_head s ss s.0 (tied_itself o s.0)))
        go more (inl u) (inr v) =
            absurd (none_some (get cmp (r ∷ rs) r.0) (get cmp (s ∷ ss) r.0) r.1 (h r.0) (at_head r rs r.0 (tied_itself o r.0)) (absent (s ∷ ss) r.0 (v, below_all ss r.0 s.0 v q.0)))

    -- and the other way round
    pub get_by_same : (a b : List (K × X)) → SameMap cmp R a b → (k : K) → SameValue R (get cmp a k) (get cmp b k)
    get_by_same [] [] h k = tt
    get_by_same [] (s ∷ ss) h k = absurd h
    get_by_same (r ∷ rs) [] h k = absurd h
    get_by_same (r ∷ rs) (s ∷ ss) h k = rw (o.congr r.0 s.0 k h.0) (go (get_by_same rs ss h.2 k) (is_eq (cmp s.0 k)))
      where
        go : SameValue R (get cmp rs k) (get cmp ss k) → (b : Bool) → SameValue R (cond b (Some r.1) (get cmp rs k)) (cond b (Some s.1) (get cmp ss k))
        go more true = h.1
        go more false = more
