-- Rows sorted by key, and what they gather.
use Rattle.std.proofs.Common.{◌≡◌, ℕ, zero, suc, ◌≤◌, Bool, true, false, not, ◌&&◌, cond, add-one, List, [], ◌∷◌, length, get_or, Some, None, Result, refl, sym, ◌∙◌, ap, subst, arith}
use Rattle.std.specs.List.{filter}
use Rattle.std.specs.List.Sorted.{IsSortedBy, IsStableBy, ties}
use Rattle.std.specs.Cmp.{IsTotalOrder, IsStrictWeakOrder}
use Rattle.std.specs.Result.{is_ok, IsOk}
use Rattle.std.specs.Ordering.{is_eq, is_lt, ordering_reverse}
use Rattle.std.specs.declared.cmp.Ordering.{Ordering}
use Rattle.std.specs.declared.cmp.Ordering.TheVariants.{Less, Equal, Greater}
use Rattle.key_order.specs.Order.{Upto}
use Rattle.key_order.specs.Join.{joined}
use Rattle.key_order.proofs.Orders.{turned', up_up, low_is_up}
use Rattle.merkle_diff.proofs.Each.{each-with}
use Rattle.merkle_replica.specs.Puts.{IsRising, join_of_values, HasGathered}

tied : (w v : Ordering) → is_eq w ≡ true → v ≡ ordering_reverse w → not (is_lt v) && not (is_lt w) ≡ true
tied Less v h e = cc
tied Equal v h e = rw e refl
tied Greater v h e = cc

-- a sort that was refused had an element, since up to twenty are sorted without fail
pub refused_some : {T E : Type 0} (r : Result T E) (n : ℕ) → is_ok r ≡ false → (n ≤ 20 → IsOk r) → 1 ≤ n
refused_some r zero e s = let never : true ≡ false = sym (s (omega arith)) ∙ e in absurd (cc)
refused_some r (suc n) e s = omega arith

module _ {K : Type 0} (cmp : K → K → Ordering) (o : IsTotalOrder cmp) where
  not_lower : (a b : K) → is_lt (cmp a b) ≡ false → Upto cmp b a
  not_lower a b h = turned' cmp o a b ∙ h

  never_lower : (a b : K) → Upto cmp b a → is_lt (cmp a b) ≡ false
  never_lower a b h = sym (turned' cmp o a b) ∙ h

module _ {K V : Type 0} (cmp : K → K → Ordering) (o : IsTotalOrder cmp) where
  -- the order of rows by key
  abbrev pub lower : K × V → K × V → Bool
  lower x y = is_lt (cmp x.0 y.0)

  pub rows_compare : IsStrictWeakOrder lower
  rows_compare = record {
    one_way = λ x y h. never_lower cmp o y.0 x.0 (low_is_up cmp o x.0 y.0 h);
    chain = λ x y z h k. never_lower cmp o x.0 z.0 (up_up cmp o z.0 y.0 x.0 (not_lower cmp o y.0 z.0 k) (not_lower cmp o x.0 y.0 h));
  }

  -- sorted rows rise
  pub sorted_rises : (rows : List (K × V)) → IsSortedBy lower rows → IsRising cmp rows
  sorted_rises [] s = tt
  sorted_rises (r ∷ []) s = (tt, tt)
  sorted_rises (r ∷ q ∷ rs) s =
      let rest = sorted_rises (q ∷ rs)
      (λ k d from to. subst (λ n. lower (get_or (q ∷ rs) n d) (get_or (q ∷ rs) k d) ≡ false) (sym (add-one k))
      (subst (λ n. lower (get_or (r ∷ q ∷ rs) n d) (get_or (q ∷ rs) k d) ≡ false) (add-one (suc k)) (s (suc k) d (omega arith) (omega arith)))) in
      let here : Upto cmp r.0 q.0 = not_lower cmp o q.0 r.0 (s 0 r (omega arith) (omega arith)) in
      ((here, each-with (λ s. Upto cmp q.0 s.0) (λ s. Upto cmp r.0 s.0) rs (λ s u. up_up cmp o r.0 q.0 s.0 here u) rest.0), rest)

  -- rows with other keys don't count
  gathered_tied : (eq : V → V → Bool) (join : V → V → V) (x : K × V) (rows : List (K × V)) → join_of_values cmp eq join rows x.0 ≡ join_of_values cmp eq join (filter (ties lower x) rows) x.0
  gathered_tied eq join x [] = refl
  gathered_tied eq join x (r ∷ rows) = go (ties lower x r) refl (gathered_tied eq join x rows)
    where
      go : (b : Bool) → ties lower x r ≡ b → join_of_values cmp eq join rows x.0 ≡ join_of_values cmp eq join (filter (ties lower x) rows) x.0
          → join_of_values cmp eq join (r ∷ rows) x.0 ≡ join_of_values cmp eq join (cond b (r ∷ filter (ties lower x) rows) (filter (ties lower x) rows)) x.0
      go true t e = ap (joined join (cond (is_eq (cmp r.0 x.0)) (Some r.1) None)) e
      go false t e = ap (λ b. joined join (cond b (Some r.1) None) (join_of_values cmp eq join rows x.0)) (other (is_eq (cmp r.0 x.0)) refl) ∙ e
        where
          other : (b : Bool) → is_eq (cmp r.0 x.0) ≡ b → is_eq (cmp r.0 x.0) ≡ false
          other false h = h
          other true h = let u : true ≡ false = sym (tied (cmp r.0 x.0) (cmp x.0 r.0) h (o.antisymm x.0 r.0)) ∙ t in absurd (cc)

  -- rows that a stable sort has moved gather the same
  pub gathered_sorted : (eq : V → V → Bool) (join : V → V → V) (rows sorted : List (K × V)) → length sorted ≡ length rows → IsStableBy lower rows sorted
      → (k : K) → join_of_values cmp eq join sorted k ≡ join_of_values cmp eq join rows k
  gathered_sorted eq join [] [] n s k = refl
  gathered_sorted eq join [] (x ∷ sorted) n s k = absurd (omega (arith, n))
  gathered_sorted eq join (r ∷ rows) sorted n s k =
      gathered_tied eq join (k, r.1) sorted ∙ ap (λ xs. join_of_values cmp eq join xs k) (s (k, r.1)) ∙ sym (gathered_tied eq join (k, r.1) (r ∷ rows))

  pub gathers_sorted : (eq : V → V → Bool) (join : V → V → V) (before rows sorted after : List (K × V)) → length sorted ≡ length rows
      → IsStableBy lower rows sorted → HasGathered cmp eq join before sorted after → HasGathered cmp eq join before rows after
  gathers_sorted eq join before rows sorted after n s h = record { ascending = h.ascending; values = λ k. rw (← gathered_sorted eq join rows sorted n s k) (h.values k) }
