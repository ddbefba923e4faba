-- Rows with the same keys and related values, and their joins.
use Rattle.std.proofs.Common.{◌≡◌, suc, Bool, true, false, cond, List, [], ◌∷◌, length, refl, ◌∙◌, ap}
use Rattle.std.specs.Cmp.{IsTotalOrder, IsEquivalence, tied_itself, tied_back}
use Rattle.std.specs.declared.cmp.Ordering.{Ordering}
use Rattle.key_order.specs.Order.{Same}
use Rattle.key_order.specs.Map.{SameMap, rows_at, get}
use Rattle.key_order.specs.Join.{IsJoining, IsJoin, joined}
use Rattle.key_order.proofs.Maps.{get_by_same}
use Rattle.key_order.proofs.SameMaps.{same_is_map}
use Rattle.key_order.proofs.Values.{back, on, cong}

module _ {K X : Type 0} (cmp : K → K → Ordering) (o : IsTotalOrder cmp) (R : X → X → Type 0) where
  pub same_rows-own : ((x : X) → R x x) → (rows : List (K × X)) → SameMap cmp R rows rows
  same_rows-own own [] = tt
  same_rows-own own (r ∷ rows) = (tied_itself o r.0, own r.1, same_rows-own own rows)

  pub same_rows-back : ((x y : X) → R x y → R y x) → (a b : List (K × X)) → SameMap cmp R a b → SameMap cmp R b a
  same_rows-back turn [] [] s = tt
  same_rows-back turn [] (q ∷ b) s = absurd s
  same_rows-back turn (p ∷ a) [] s = absurd s
  same_rows-back turn (p ∷ a) (q ∷ b) s = (tied_back o p.0 q.0 s.0, turn p.1 q.1 s.1, same_rows-back turn a b s.2)

  pub same_rows-trans : ((x y z : X) → R x y → R y z → R x z) → (a b c : List (K × X)) → SameMap cmp R a b → SameMap cmp R b c → SameMap cmp R a c
  same_rows-trans chain [] [] c s t = t
  same_rows-trans chain [] (q ∷ b) c s t = absurd s
  same_rows-trans chain (p ∷ a) [] c s t = absurd s
  same_rows-trans chain (p ∷ a) (q ∷ b) [] s t = absurd t
  same_rows-trans chain (p ∷ a) (q ∷ b) (r ∷ c) s t = (o.congr p.0 q.0 r.0 s.0 ∙ t.0, chain p.1 q.1 r.1 s.1 t.1, same_rows-trans chain a b c s.2 t.2)

  pub same_rows-length : (a b : List (K × X)) → SameMap cmp R a b → length a ≡ length b
  same_rows-length [] [] s = refl
  same_rows-length [] (q ∷ b) s = absurd s
  same_rows-length (p ∷ a) [] s = absurd s
  same_rows-length (p ∷ a) (q ∷ b) s = ap suc (same_rows-length a b s.2)

  -- the rows whose key passes a test that equal keys share
  pub same_rows-at : (test : K → Bool) → ((k j : K) → Same cmp k j → test k ≡ test j) → (a b : List (K × X)) → SameMap cmp R a b → SameMap cmp R (rows_at test a) (rows_at test b)
  same_rows-at test alike [] [] s = tt
  same_rows-at test alike [] (q ∷ b) s = absurd s
  same_rows-at test alike (p ∷ a) [] s = absurd s
  same_rows-at test alike (p ∷ a) (q ∷ b) s = by (test p.0) (test q.0) (alike p.0 q.0 s.0) (same_rows-at test alike a b s.2)
    where
      by : (v w : Bool) → v ≡ w → SameMap cmp R (rows_at test a) (rows_at test b) → SameMap cmp R (cond v (p ∷ rows_at test a) (rows_at test a)) (cond w (q ∷ rows_at test b) (rows_at test b))
      by true true e rest = (s.0, s.1, rest)
      by false false e rest = rest
      by true false e rest = absurd (cc)
      by false true e rest = absurd (cc)

module _ {K V : Type 0} (cmp : K → K → Ordering) (o : IsTotalOrder cmp) (eq : V → V → Bool) (e : IsEquivalence eq) where
  -- rows with the same keys and equal values
  abbrev pub SameRows : List (K × V) → List (K × V) → Type 0
  SameRows = SameMap cmp (λ x y. eq x y ≡ true)

  pub equal_rows-own : (rows : List (K × V)) → SameRows rows rows
  equal_rows-own = same_rows-own cmp o (λ x y. eq x y ≡ true) e.refl

  pub equal_rows-back : (a b : List (K × V)) → SameRows a b → SameRows b a
  equal_rows-back = same_rows-back cmp o (λ x y. eq x y ≡ true) (λ x y h. e.symm y x ∙ h)

  -- a join of rows is one of the same rows
  pub joins-same : (join : V → V → V) → IsJoining eq join → (a b c a' b' c' : List (K × V)) → SameRows a a' → SameRows b b' → SameRows c c' → IsJoin cmp eq join a b c → IsJoin cmp eq join a' b' c'
  joins-same join j a b c a' b' c' sa sb sc h = record {
    ascending = same_is_map cmp o (λ x y. eq x y ≡ true) c c' sc h.ascending;
    values = λ k.
        let both = joined join (get cmp a k) (get cmp b k) in
        let both' = joined join (get cmp a' k) (get cmp b' k) in
        let at = get_by_same cmp o (λ x y. eq x y ≡ true) in
        on eq e join j (get cmp c' k) (get cmp c k) both' (back eq e join j (get cmp c k) (get cmp c' k) (at c c' sc k))
        (on eq e join j (get cmp c k) both both' (h.values k) (cong eq e join j (get cmp a k) (get cmp a' k) (get cmp b k) (get cmp b' k) (at a a' sa k) (at b b' sb k)));
  }

  -- so where the rows that came are those that were sent, the join with the one is that with the other
  pub joins-came : (join : V → V → V) → IsJoining eq join → (a sent came c : List (K × V)) → SameRows sent came → IsJoin cmp eq join a came c → IsJoin cmp eq join a sent c
  joins-came join j a sent came c s = joins-same join j a came c a sent c (equal_rows-own a) (equal_rows-back sent came s) (equal_rows-own c)
