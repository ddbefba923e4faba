-- What `diff` answers on two lists that are at hand.
use Rattle.std.proofs.Common.{◌≡◌, List, [], ◌∷◌, map, Option, Some, ◌⊎◌, inl, inr, Result, Ok, Err, sym, ap, ◌∙◌, subst}
use Rattle.std.proofs.IntoIterSteps.{takes, All-taken}
use Rattle.std.specs.Prelude.{IfOk, IsOkAnd, OnErr}
use Rattle.std.specs.Cmp.{IsTotalOrder}
use Rattle.std.specs.Iterator.{Drains, Yields, YieldsFirstBy}
use Rattle.std.specs.declared.cmp.Ordering.{Ordering}
use Rattle.std.specs.declared.vec.IntoIter.{IntoIter}
use Rattle.key_order.specs.Interval.{Span}
use Rattle.merkle_diff.specs.Difference.{IsAnswer, IsByTable, MayAnswer, MayAsk}
use Rattle.merkle_diff.specs.Entry.{Entry}
use Rattle.merkle_diff.proofs.NoAnswer.{may-or_none}
use Rattle.merkle_diff.proofs.Snapshots.{drained}

module _ {I X B : Type 0} (view : X → B) (starts : I → Type 0) (steps : I → Option X → I → Type 0) where
  -- what iterators give that start so is this list: all of it up to the end, and its first item first
  pub record IsAtHand (list : List B) : Type 0 where
    pub whole : (it : I) (xs : List X) → starts it → Drains steps it xs → map view xs ≡ list
    pub begins : (it : I) (x : X) (next : I) → starts it → steps it (Some x) next → (rest : List B) × (list ≡ view x ∷ rest)

-- a vector that is given by value
pub vector-at_hand : {X A B : Type 0} (view : X → B) (starts : IntoIter X A → Type 0) (items : List X)
    → ((it : IntoIter X A) → starts it → it.rest.items ≡ items) → IsAtHand view starts takes (map view items)
vector-at_hand view starts items from = record {
  whole = λ it xs s d. ap (map view) (All-taken it xs d ∙ from it s);
  begins = λ it x next s t. (map view next.rest.items, ap (map view) (sym (from it s) ∙ t.0));
}

-- an iterator over a list that it refers to
pub iterator-at_hand : {S X B : Type 0} (view : X → B) (rest : S → List B) (from : S) (list : List B) → rest from ≡ list → IsAtHand view (λ it. it ≡ from) (YieldsFirstBy view rest) list
iterator-at_hand view rest from list is = record {
  whole = λ it xs s d. drained view rest it xs d ∙ (ap rest s ∙ is);
  begins = λ it x next s t. (rest next, sym (ap rest s ∙ is) ∙ t);
}

module _ {K D : Type 0} (cmp : K → K → Ordering) where
  -- a range may be answered where the peer has an entry, and local has none or one so
  may_ask : (ls ps : List (Entry K D)) (b : Entry K D) (bs : List (Entry K D)) → ps ≡ b ∷ bs → (ls ≡ [])
      ⊎ ((a : Entry K D) × (rest : List (Entry K D)) × (ls ≡ a ∷ rest) × MayAnswer cmp a b) → MayAsk cmp ls ps
  may_ask ls ps b bs e (inl f) = subst (MayAsk cmp ls) (sym e) (subst (λ xs. MayAsk cmp xs (b ∷ bs)) (sym f) tt)
  may_ask ls ps b bs e (inr (a, rest, f, m)) = subst (MayAsk cmp ls) (sym e) (subst (λ xs. MayAsk cmp xs (b ∷ bs)) (sym f) m)

  module _ (o : IsTotalOrder cmp) where
    none-by_table : (ls ps : List (Entry K D)) (found : List (Span K)) → IsByTable cmp ls ps found → ¬ (MayAsk cmp ls ps) → found ≡ []
    none-by_table ls [] found t n = t
    none-by_table [] (b ∷ ps) found t n = absurd (n tt)
    none-by_table (a ∷ ls) (b ∷ ps) found t n = go (may-or_none cmp o a b (a ∷ ls) (b ∷ ps) found t)
      where
        go : MayAnswer cmp a b ⊎ (found ≡ []) → found ≡ []
        go (inl m) = absurd (n m)
        go (inr e) = e

    -- what `diff` promises of what two iterables gave, said of the two lists
    pub answers : {A E I J X : Type 0} (spans : A → List (Span K)) (view : X → Entry K D) (local : I → Type 0) (local_steps : I → Option X → I → Type 0)
        (peer : J → Type 0) (peer_steps : J → Option X → J → Type 0) (ls ps : List (Entry K D)) (r : Result A E)
        → IsAtHand view local local_steps ls → IsAtHand view peer peer_steps ps
        → IfOk r (λ found. (xs : List X) × (ys : List X) × ((it : I) × local it × Drains local_steps it xs) × ((it : J) × peer it × Drains peer_steps it ys)
        × IsAnswer cmp (map view xs) (map view ys) (spans found))
        → OnErr r ((y : X) × ((it : J) × (next : J) × peer it × Yields peer_steps it (y ∷ []) next)
        × (((it : I) × local it × Drains local_steps it []) ⊎ ((x : X) × ((it : I) × (next : I) × local it × Yields local_steps it (x ∷ []) next) × MayAnswer cmp (view x) (view y))))
        → IfOk r (λ found. IsAnswer cmp ls ps (spans found)) × OnErr r (MayAsk cmp ls ps) × (¬ (MayAsk cmp ls ps) → IsOkAnd r (λ found. spans found ≡ []))
    answers spans view local local_steps peer peer_steps ls ps (Ok found) a b h m =
        let is : IsAnswer cmp ls ps (spans found) =
        subst (λ xs. IsAnswer cmp xs ps (spans found)) (a.whole h.2.0 h.0 h.2.1 h.2.2)
        (subst (λ ys. IsAnswer cmp (map view h.0) ys (spans found)) (b.whole h.3.0 h.1 h.3.1 h.3.2) h.4) in
        (is, tt, λ none. none-by_table ls ps (spans found) is.interval_laws.table none)
    answers {I = I} {X = X} spans view local local_steps peer peer_steps ls ps (Err e) a b h m =
        let p = b.begins m.1.0 m.0 m.1.3.0 m.1.2 m.1.3.1 in
        let may : MayAsk cmp ls ps = may_ask ls ps (view m.0) p.0 p.1 (first m.2) in
        (tt, may, λ none. absurd (none may))
      where
        first : (((it : I) × local it × Drains local_steps it [])
            ⊎ ((x : X) × ((it : I) × (next : I) × local it × Yields local_steps it (x ∷ []) next) × MayAnswer cmp (view x) (view m.0))) → (ls ≡ [])
            ⊎ ((x : Entry K D) × (rest : List (Entry K D)) × (ls ≡ x ∷ rest) × MayAnswer cmp x (view m.0))
        first (inl n) = inl (sym (a.whole n.0 [] n.1 n.2))
        first (inr n) = let p = a.begins n.1.0 n.0 n.1.3.0 n.1.2 n.1.3.1 in inr (view n.0, p.0, p.1, n.2)
