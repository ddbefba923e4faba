-- The loop of a pull over the peer's rows.
use Rattle.std.proofs.Common.{◌≡◌, ℕ, suc, ◌+◌, ◌<◌, ◌≤◌, Bool, true, false, cond, List, [], ◌∷◌, ◌++◌, length, take, drop, get_or, length-append, append_assoc, append-nil, add-one, refl, sym, ◌∙◌, ap, subst, arith}
use Rattle.std.proofs.lemmas.List.{drop_all, take_at}
use Rattle.std.specs.List.{AllByRecursion}
use Rattle.std.specs.Cmp.{IsTotalOrder, IsEquivalence}
use Rattle.std.specs.declared.cmp.Ordering.{Ordering}
use Rattle.key_order.specs.Order.{Below}
use Rattle.key_order.specs.Interval.{Span, IsApart, is_covered}
use Rattle.key_order.specs.Map.{IsMap, rows_in}
use Rattle.key_order.specs.Join.{IsJoin, IsJoining}
use Rattle.merkle_replica.specs.Answers.{IsDone, IsPartlyDone}
use Rattle.merkle_replica.specs.Seek.{ranges_from, begins_upto}
use Rattle.merkle_replica.proofs.Seeks.{swept, apart_from, map_drop, map_at, from_place, before_row}
use Rattle.merkle_replica.proofs.PullRows.{join_more, join_none}

module _ {K : Type 0} (cmp : K → K → Ordering) (o : IsTotalOrder cmp) where
  -- what the walk has left of the ranges and of the rows holds the rows that are still to be found
  pub record Left {V : Type 0} (ss : List (Span K)) (rows : List (K × V)) (seen : List (K × V)) (left : List (Span K)) (i : ℕ) : Type 0 where
    pub apart : IsApart cmp left
    pub rest : rows_in cmp ss rows ≡ seen ++ rows_in cmp left (drop i rows)

  pub left_all : {V : Type 0} (ss : List (Span K)) (rows : List (K × V)) → IsApart cmp ss → Left ss rows [] ss 0
  left_all ss rows a = record { apart = a; rest = refl }

  module _ {V : Type 0} (ss : List (Span K)) (rows seen : List (K × V)) (left next : List (Span K)) (i : ℕ) (r : K × V) (m : IsMap cmp rows)
      (inside : i < length rows) (read : r ≡ get_or rows i r) (l : Left ss rows seen left i) (sought : next ≡ ranges_from cmp r.0 left) where
    here : drop i rows ≡ r ∷ drop (suc i) rows
    here = from_place cmp o rows i r inside ∙ ap (λ q. q ∷ drop (suc i) rows) (sym read)

    pub apart_next : IsApart cmp next
    apart_next = subst (IsApart cmp) (sym sought) (apart_from cmp o left r.0 l.apart)

    -- the walk has come to r
    at_row : rows_in cmp ss rows ≡ seen ++ cond (begins_upto cmp r.0 next) (r ∷ rows_in cmp next (drop (suc i) rows)) (rows_in cmp next (drop (suc i) rows))
    at_row =
        l.rest ∙ ap (λ t. seen ++ t)
        (ap (rows_in cmp left) here ∙ swept cmp o left next r (drop (suc i) rows) l.apart (subst (IsMap cmp) here (map_drop cmp o rows i m)) sought)

    -- a row that is found, though not yet taken
    pub still : begins_upto cmp r.0 next ≡ true → rows_in cmp ss rows ≡ seen ++ r ∷ rows_in cmp next (drop (suc i) rows)
    still b = rw b at at_row

    pub passes : begins_upto cmp r.0 next ≡ false → Left ss rows seen next (suc i)
    passes b = record { apart = apart_next; rest = rw b at at_row }

    takes_row : begins_upto cmp r.0 next ≡ true → Left ss rows (seen ++ r ∷ []) next (suc i)
    takes_row b = record { apart = apart_next; rest = still b ∙ sym (append_assoc seen (r ∷ []) (rows_in cmp next (drop (suc i) rows))) }

    below_row : begins_upto cmp r.0 next ≡ true → AllByRecursion (λ s. Below cmp s.0 r.0) seen
    below_row b = before_row cmp o seen (rows_in cmp next (drop (suc i) rows)) r (subst (IsMap cmp) (still b) (map_at cmp o (λ k. is_covered cmp k ss) rows m))

  pub left_none : {V : Type 0} (ss : List (Span K)) (rows seen : List (K × V)) (left : List (Span K)) (i : ℕ) → length rows ≤ i → Left ss rows seen left i → rows_in cmp ss rows ≡ seen
  left_none ss rows seen left i e l = l.rest ∙ ap (λ t. seen ++ rows_in cmp left t) (drop_all i rows e) ∙ append-nil seen

  -- the walk has counted the rows that it has seen
  pub record Counts {V : Type 0} (ss : List (Span K)) (rows : List (K × V)) (left : List (Span K)) (i count : ℕ) : Type 0 where
    pub seen : List (K × V)
    pub left_over : Left ss rows seen left i
    pub counted : length seen ≡ count

  pub counts_none : {V : Type 0} (ss : List (Span K)) (rows : List (K × V)) → IsApart cmp ss → Counts ss rows ss 0 0
  counts_none ss rows a = record { seen = []; left_over = left_all ss rows a; counted = refl }

  pub counts_more : {V : Type 0} (ss : List (Span K)) (rows : List (K × V)) (left next : List (Span K)) (i count : ℕ) (r : K × V) (b : Bool) → IsMap cmp rows
      → i < length rows → r ≡ get_or rows i r → Counts ss rows left i count → next ≡ ranges_from cmp r.0 left → b ≡ begins_upto cmp r.0 next
      → Counts ss rows next (i + 1) (cond b (count + 1) count)
  counts_more ss rows left next i count r false m inside read c sought b = record {
    seen = c.seen;
    left_over = subst (Left ss rows c.seen next) (sym (add-one i)) (passes ss rows c.seen left next i r m inside read c.left_over sought (sym b));
    counted = c.counted;
  }
  counts_more ss rows left next i count r true m inside read c sought b = record {
    seen = c.seen ++ r ∷ [];
    left_over = subst (Left ss rows (c.seen ++ r ∷ []) next) (sym (add-one i)) (takes_row ss rows c.seen left next i r m inside read c.left_over sought (sym b));
    counted = length-append c.seen (r ∷ []) ∙ (let n = c.counted in omega arith);
  }

  pub counts_all : {V : Type 0} (ss : List (Span K)) (rows : List (K × V)) (left : List (Span K)) (i count : ℕ) → length rows ≤ i → Counts ss rows left i count → count ≡ length (rows_in cmp ss rows)
  counts_all ss rows left i count n c = sym (ap length (left_none ss rows c.seen left i n c.left_over) ∙ c.counted)

  module _ {V : Type 0} (eq : V → V → Bool) (e : IsEquivalence eq) (join : V → V → V) (j : IsJoining eq join) where
    -- the walk has joined the rows that it has seen
    pub record Joins (ss : List (Span K)) (rows : List (K × V)) (left : List (Span K)) (i : ℕ) (old : List (K × V)) (done : ℕ) (now : List (K × V)) : Type 0 where
      pub seen : List (K × V)
      pub left_over : Left ss rows seen left i
      pub counted : length seen ≡ done
      pub joins : IsJoin cmp eq join old seen now
      pub unchanged : done ≡ 0 → now ≡ old

    pub joins_none : (ss : List (Span K)) (rows old : List (K × V)) → IsApart cmp ss → IsMap cmp old → Joins ss rows ss 0 old 0 old
    joins_none ss rows old a m = record { seen = []; left_over = left_all ss rows a; counted = refl; joins = join_none cmp o eq e join j old m; unchanged = λ z. refl }

    module _ (ss : List (Span K)) (rows : List (K × V)) (left next : List (Span K)) (i : ℕ) (r : K × V) (m : IsMap cmp rows) (inside : i < length rows)
        (read : r ≡ get_or rows i r) (sought : next ≡ ranges_from cmp r.0 left) (old now : List (K × V)) (done : ℕ) (p : Joins ss rows left i old done now) where
      -- a row beside the ranges
      pub joins_past : begins_upto cmp r.0 next ≡ false → Joins ss rows next (i + 1) old done now
      joins_past b = record {
        seen = p.seen;
        left_over = subst (Left ss rows p.seen next) (sym (add-one i)) (passes ss rows p.seen left next i r m inside read p.left_over sought b);
        counted = p.counted;
        joins = p.joins;
        unchanged = p.unchanged;
      }

      -- a row in the ranges
      pub joins_more : begins_upto cmp r.0 next ≡ true → (now' : List (K × V)) → IsJoin cmp eq join now (r ∷ []) now' → Joins ss rows next (i + 1) old (done + 1) now'
      joins_more b now' q = record {
        seen = p.seen ++ r ∷ [];
        left_over = subst (Left ss rows (p.seen ++ r ∷ []) next) (sym (add-one i)) (takes_row ss rows p.seen left next i r m inside read p.left_over sought b);
        counted = length-append p.seen (r ∷ []) ∙ (let c = p.counted in omega arith);
        joins = join_more cmp o eq e join j old now now' p.seen r (below_row ss rows p.seen left next i r m inside read p.left_over sought b) p.joins q;
        unchanged = λ z. absurd (omega arith);
      }

      -- a row in the ranges that is refused
      pub stopped_short : begins_upto cmp r.0 next ≡ true → (joined : ℕ) → joined ≡ length (rows_in cmp ss rows) → IsPartlyDone cmp eq join (rows_in cmp ss rows) old done joined now
      stopped_short b joined n =
          let w = still ss rows p.seen left next i r m inside read p.left_over sought b in
          let more = rows_in cmp next (drop (suc i) rows) in
          let all : length (rows_in cmp ss rows) ≡ length p.seen + suc (length more) = ap length w ∙ length-append p.seen (r ∷ more) in
          let c = p.counted in
          record {
            counted = n;
            not_all = omega arith;
            joins = subst (λ t. IsJoin cmp eq join old t now) (sym (ap (take done) w ∙ take_at p.seen (r ∷ more) done c)) p.joins;
            unchanged = p.unchanged;
          }

    pub all_done : (ss : List (Span K)) (rows : List (K × V)) (left : List (Span K)) (i : ℕ) (old now : List (K × V)) (done : ℕ) → length rows ≤ i
        → Joins ss rows left i old done now → IsDone cmp eq join (rows_in cmp ss rows) old done now
    all_done ss rows left i old now done n p =
        let w = left_none ss rows p.seen left i n p.left_over in
        record { counted = sym (ap length w ∙ p.counted); joins = subst (λ t. IsJoin cmp eq join old t now) (sym w) p.joins }
