-- Lists of equal keys: what holds of one holds of the other.
use Rattle.std.proofs.Common.{List, [], ◌∷◌, ◌++◌, ◌∙◌, inl, inr}
use Rattle.std.specs.Bool.{⊤}
use Rattle.std.specs.List.{AllByRecursion}
use Rattle.std.specs.Cmp.{IsTotalOrder, tied_itself, tied_back}
use Rattle.std.specs.declared.cmp.Ordering.{Ordering}
use Rattle.key_order.specs.Order.{AnyByRecursion, Below, Same, IsAscending}
use Rattle.key_order.proofs.Orders.{up_low, low_up, same_up, same_down}

-- the same keys, place by place
abbrev pub SameKeys : {K : Type 0} → (K → K → Ordering) → List K → List K → Type 0
SameKeys cmp [] [] = ⊤
SameKeys cmp [] (j ∷ js) = ⊥
SameKeys cmp (k ∷ ks) [] = ⊥
SameKeys cmp (k ∷ ks) (j ∷ js) = Same cmp k j × SameKeys cmp ks js

module _ {K : Type 0} (cmp : K → K → Ordering) where
  pub same_keys-append : (ks js ls ms : List K) → SameKeys cmp ks js → SameKeys cmp ls ms → SameKeys cmp (ks ++ ls) (js ++ ms)
  same_keys-append [] [] ls ms s t = t
  same_keys-append [] (j ∷ js) ls ms s t = absurd s
  same_keys-append (k ∷ ks) [] ls ms s t = absurd s
  same_keys-append (k ∷ ks) (j ∷ js) ls ms s t = (s.0, same_keys-append ks js ls ms s.1 t)

  -- what some key has, some equal key has that shares it
  pub any-same : (P Q : K → Type 0) → ((k j : K) → Same cmp k j → P k → Q j) → (ks js : List K) → SameKeys cmp ks js → AnyByRecursion P ks → AnyByRecursion Q js
  any-same P Q f [] js s h = absurd h
  any-same P Q f (k ∷ ks) [] s h = absurd s
  any-same P Q f (k ∷ ks) (j ∷ js) s (inl h) = inl (f k j s.0 h)
  any-same P Q f (k ∷ ks) (j ∷ js) s (inr h) = inr (any-same P Q f ks js s.1 h)

  -- and what each key has, each equal key
  pub all-same : (P Q : K → Type 0) → ((k j : K) → Same cmp k j → P k → Q j) → (ks js : List K) → SameKeys cmp ks js → AllByRecursion P ks → AllByRecursion Q js
  all-same P Q f [] [] s h = tt
  all-same P Q f [] (j ∷ js) s h = absurd s
  all-same P Q f (k ∷ ks) [] s h = absurd s
  all-same P Q f (k ∷ ks) (j ∷ js) s h = (f k j s.0 h.0, all-same P Q f ks js s.1 h.1)

module _ {K : Type 0} (cmp : K → K → Ordering) (o : IsTotalOrder cmp) where
  pub same_keys-own : (ks : List K) → SameKeys cmp ks ks
  same_keys-own [] = tt
  same_keys-own (k ∷ ks) = (tied_itself o k, same_keys-own ks)

  pub same_keys-back : (ks js : List K) → SameKeys cmp ks js → SameKeys cmp js ks
  same_keys-back [] [] s = tt
  same_keys-back [] (j ∷ js) s = absurd s
  same_keys-back (k ∷ ks) [] s = absurd s
  same_keys-back (k ∷ ks) (j ∷ js) s = (tied_back o k j s.0, same_keys-back ks js s.1)

  pub same_keys-trans : (ks js ls : List K) → SameKeys cmp ks js → SameKeys cmp js ls → SameKeys cmp ks ls
  same_keys-trans [] [] ls s t = t
  same_keys-trans [] (j ∷ js) ls s t = absurd s
  same_keys-trans (k ∷ ks) [] ls s t = absurd s
  same_keys-trans (k ∷ ks) (j ∷ js) [] s t = absurd t
  same_keys-trans (k ∷ ks) (j ∷ js) (l ∷ ls) s t = (o.congr k j l s.0 ∙ t.0, same_keys-trans ks js ls s.1 t.1)

  pub ascending-same : (ks js : List K) → SameKeys cmp ks js → IsAscending cmp ks → IsAscending cmp js
  ascending-same [] [] s a = tt
  ascending-same [] (j ∷ js) s a = absurd s
  ascending-same (k ∷ ks) [] s a = absurd s
  ascending-same (k ∷ ks) (j ∷ js) s a = (
    all-same cmp (Below cmp k) (Below cmp j) (λ l m e b. up_low cmp o j k m (same_down cmp o k j s.0) (low_up cmp o k l m b (same_up cmp o l m e))) ks js s.1 a.0,
    ascending-same ks js s.1 a.1,
  )
