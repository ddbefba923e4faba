-- Where a key is taken out of a page, by its place among the nodes, and how two pages are joined.
use Rattle.std.proofs.Common.{◌≡◌, ◌≢◌, ℕ, zero, suc, ◌-◌, ◌<◌, ◌⊎◌, List, [], ◌∷◌, ◌++◌, length, get_or, slice_set, take, drop, Option, Some, None, refl, ap, sym, subst, ◌∙◌, append-nil, arith}
use Rattle.std.specs.declared.cmp.Ordering.{Ordering}
use Rattle.std.specs.declared.cmp.Ordering.TheVariants.{Equal, Greater}
use Rattle.std.specs.Ordering.{match_ordering, nat_cmp}
use Rattle.merkle_tree_theory.specs.Tree.{Tree, page, Row, high, node, Held, nothing, below, Node, row}
use Rattle.merkle_tree_theory.specs.Page.{nodes_of}
use Rattle.merkle_tree_theory.specs.Upsert.{place, as_held}
use Rattle.merkle_tree_theory.specs.Remove.{row_under, held_join, row_append, row_del, held_del, tree_del, tree_without, row_entry, held_entry, tree_entry, row_without, pair_at, IsFreeAt, IsNothing, BeginsFree, RowHasFreeGap, HeldHasFreeGap}
use Rattle.std.specs.List.{remove}
use Rattle.std.proofs.Common.{take_all}
use Rattle.std.proofs.lemmas.List.{drop_all}
use Rattle.std.specs.Prelude.{MatchOption}
use borrow.Rule.Slice.PartMut.{put_mid}
use Rattle.merkle_tree_theory.proofs.NodeParts.{with_lt}
use Rattle.merkle_tree_theory.proofs.Rows.{row_nodes-row}
use Rattle.merkle_tree_theory.proofs.Walk.{IsWalk, walk_gap, walk_key, walk_high}

-- two pages, joined
module _ {K D : Type 0} where
  pub join_none : (g : Held K D) → held_join g nothing ≡ g
  join_none nothing = refl
  join_none (below (page l c r)) = refl

  pub join_equal : (l m : ℕ) (c d : Option (List ℕ)) (r s : Row K D) → nat_cmp l m ≡ Equal → held_join (below (page l c r)) (below (page m d s)) ≡ below (page l None (row_append r s))
  join_equal l m c d r s q =
      ap (λ o. below (match_ordering o (page m None (row_under (page l c r) l (row_append r) s)) (page l None (row_append r s)) (page l None (row_append r (high (below (page m d s))))))) q

  pub join_greater : (l m : ℕ) (c d : Option (List ℕ)) (r s : Row K D) → nat_cmp l m ≡ Greater
      → held_join (below (page l c r)) (below (page m d s)) ≡ below (page l None (row_append r (high (below (page m d s)))))
  join_greater l m c d r s q =
      ap (λ o. below (match_ordering o (page m None (row_under (page l c r) l (row_append r) s)) (page l None (row_append r s)) (page l None (row_append r (high (below (page m d s))))))) q

  -- nodes and a gap, in front of another row
  pub append_at : (es : List (Node K D)) (g : Held K D) (s : Row K D) (fs : List (Node K D)) (h : Held K D) → row fs h ≡ row_append (high g) s → row_append (row es g) s ≡ row (es ++ fs) h
  append_at [] g s fs h e = sym e
  append_at (x ∷ es) g s fs h e = ap (node x.lt x.key x.digest) (append_at es g s fs h e)

  pub append_high : (es : List (Node K D)) (g h : Held K D) → row_append (row es g) (high h) ≡ row es (held_join g h)
  append_high [] g h = refl
  append_high (x ∷ es) g h = ap (node x.lt x.key x.digest) (append_high es g h)

  -- a node taken out at a place, where what is after it became fs and h
  pub without_at : (es : List (Node K D)) (h : Held K D) (i : ℕ) (x : Node K D) (fs : List (Node K D)) (g : Held K D) → i < length es
      → row fs g ≡ row_append (high (get_or es i x).lt) (row (drop (suc i) es) h) → row (take i es ++ fs) g ≡ row_without i (row es h)
  without_at [] h i x fs g r e = absurd (omega arith)
  without_at (y ∷ es) h zero x fs g r e = e
  without_at (y ∷ es) h (suc i) x fs g r e = ap (node y.lt y.key y.digest) (without_at es h i x fs g (omega arith) e)

  pub pair_at-is : (es : List (Node K D)) (i : ℕ) (x : Node K D) → i < length es → pair_at i es ≡ Some ((get_or es i x).key, (get_or es i x).digest)
  pair_at-is [] i x r = absurd (omega arith)
  pair_at-is (y ∷ es) zero x r = refl
  pair_at-is (y ∷ es) (suc i) x r = pair_at-is es i x (omega arith)

  pub free_at-is : (es : List (Node K D)) (h : Held K D) (i : ℕ) (x : Node K D) → i < length es → IsFreeAt i (row es h) → IsNothing (get_or es i x).lt ⊎ BeginsFree (row (drop (suc i) es) h)
  free_at-is [] h i x r f = absurd (omega arith)
  free_at-is (y ∷ es) h zero x r f = f
  free_at-is (y ∷ es) h (suc i) x r f = free_at-is es h i x (omega arith) f

-- the key's place
module _ {K D : Type 0} (cmp : K → K → Ordering) (k : K) where
  abbrev dels : IsWalk {D = D} cmp k (row_del cmp k)
  dels = record {
    less = λ e r. node (held_del cmp k e.lt) e.key e.digest r;
    equal = λ e r. row_append (high e.lt) r;
    step = λ e s. node e.lt e.key e.digest s;
    walks = λ e r. refl;
  }

  abbrev entries : IsWalk {D = D} cmp k (row_entry cmp k)
  entries = record { less = λ e r. held_entry cmp k e.lt; equal = λ e r. Some (e.key, e.digest); step = λ e s. s; walks = λ e r. refl }

  del_equal : (es : List (Node K D)) (h : Held K D) (i : ℕ) (x : Node K D) → i ≡ place cmp k es → i < length es → cmp k (get_or es i x).key ≡ Equal
      → row_del cmp k (row es h) ≡ row_without i (row es h)
  del_equal es h i x = walk_key dels h (λ j fs. row_without j (row fs h)) (λ j e fs. refl) (λ e fs. refl) es i x

  entry_equal : (es : List (Node K D)) (h : Held K D) (i : ℕ) (x : Node K D) → i ≡ place cmp k es → i < length es → cmp k (get_or es i x).key ≡ Equal
      → row_entry cmp k (row es h) ≡ pair_at i es
  entry_equal es h i x = walk_key entries h pair_at (λ j e fs. refl) (λ e fs. refl) es i x

  pub free_equal : (es : List (Node K D)) (h : Held K D) (i : ℕ) (x : Node K D) → i < length es → cmp k (get_or es i x).key ≡ Equal → RowHasFreeGap cmp k (row es h) → IsFreeAt i (row es h)
  free_equal [] h i x r q f = absurd (omega arith)
  free_equal (e ∷ es) h zero x r q f = f.1 q
  free_equal (e ∷ es) h (suc j) x r q f = free_equal es h j x (omega arith) q f.2

  del_gap : (es : List (Node K D)) (h : Held K D) (i : ℕ) (x : Node K D) → i ≡ place cmp k es → i < length es → cmp k (get_or es i x).key ≢ Equal
      → row_del cmp k (row es h) ≡ row (slice_set es i (with_lt (get_or es i x) (held_del cmp k (get_or es i x).lt))) h
  del_gap es h i x = walk_gap dels h (λ j fs. row (slice_set fs j (with_lt (get_or fs j x) (held_del cmp k (get_or fs j x).lt))) h) (λ j e fs. refl) (λ e fs. refl) es i x

  entry_gap : (es : List (Node K D)) (h : Held K D) (i : ℕ) (x : Node K D) → i ≡ place cmp k es → i < length es → cmp k (get_or es i x).key ≢ Equal
      → row_entry cmp k (row es h) ≡ held_entry cmp k (get_or es i x).lt
  entry_gap es h i x = walk_gap entries h (λ j fs. held_entry cmp k (get_or fs j x).lt) (λ j e fs. refl) (λ e fs. refl) es i x

  pub free_gap : (es : List (Node K D)) (h : Held K D) (i : ℕ) (x : Node K D) → i < length es → RowHasFreeGap cmp k (row es h) → HeldHasFreeGap cmp k (get_or es i x).lt
  free_gap [] h i x r f = absurd (omega arith)
  free_gap (e ∷ es) h zero x r f = f.0
  free_gap (e ∷ es) h (suc j) x r f = free_gap es h j x (omega arith) f.2

  del_high : (es : List (Node K D)) (h : Held K D) → place cmp k es ≡ length es → row_del cmp k (row es h) ≡ row es (held_del cmp k h)
  del_high es h = walk_high dels h (λ fs. row fs (held_del cmp k h)) (λ e fs. refl) refl es

  entry_high : (es : List (Node K D)) (h : Held K D) → place cmp k es ≡ length es → row_entry cmp k (row es h) ≡ held_entry cmp k h
  entry_high es h = walk_high entries h (λ fs. held_entry cmp k h) (λ e fs. refl) refl es

  pub free_high : (es : List (Node K D)) (h : Held K D) → RowHasFreeGap cmp k (row es h) → HeldHasFreeGap cmp k h
  free_high [] h f = f
  free_high (e ∷ es) h f = free_high es h f.2

-- what a page holds of the key, and the page without it
module _ {K D : Type 0} (cmp : K → K → Ordering) (k : K) {l : ℕ} {c : Option (List ℕ)} {t : Tree K D} (es : List (Node K D)) (h : Held K D) (is : page l c (row es h) ≡ t) where
  pub page_entry-high : place cmp k es ≡ length es → held_entry cmp k h ≡ tree_entry cmp k t
  page_entry-high all = sym (entry_high cmp k es h all) ∙ ap (tree_entry cmp k) is

  pub page_without-high : place cmp k es ≡ length es → page l None (row es (held_del cmp k h)) ≡ tree_without cmp k t
  page_without-high all = ap (page l None) (sym (del_high cmp k es h all)) ∙ ap (tree_without cmp k) is

  module _ (i : ℕ) (x : Node K D) (at : i ≡ place cmp k es) (within : i < length es) where
    pub page_entry-equal : cmp k (get_or es i x).key ≡ Equal → pair_at i es ≡ tree_entry cmp k t
    page_entry-equal same = sym (entry_equal cmp k es h i x at within same) ∙ ap (tree_entry cmp k) is

    pub page_without-equal : cmp k (get_or es i x).key ≡ Equal → page l None (row_without i (row es h)) ≡ tree_without cmp k t
    page_without-equal same = ap (page l None) (sym (del_equal cmp k es h i x at within same)) ∙ ap (tree_without cmp k) is

    pub page_entry-gap : {e : Node K D} → e ≡ get_or es i x → cmp k (get_or es i x).key ≢ Equal → held_entry cmp k e.lt ≡ tree_entry cmp k t
    page_entry-gap same other = ap (λ (e : Node K D). held_entry cmp k e.lt) same ∙ sym (entry_gap cmp k es h i x at within other) ∙ ap (tree_entry cmp k) is

    pub page_without-gap : cmp k (get_or es i x).key ≢ Equal → page l None (row (slice_set es i (with_lt (get_or es i x) (held_del cmp k (get_or es i x).lt))) h) ≡ tree_without cmp k t
    page_without-gap other = ap (page l None) (sym (del_gap cmp k es h i x at within other)) ∙ ap (tree_without cmp k) is

-- what a slice of a whole vector writes back
pub written_back : {X : Type 0} (xs ys : List X) (n : ℕ) → n ≡ length ys → length xs ≡ length ys → take n (xs ++ drop (length xs) ys) ≡ xs
written_back [] [] zero e f = refl
written_back [] [] (suc n) e f = absurd (omega (arith, e))
written_back [] (y ∷ ys) n e f = absurd (omega (arith, f))
written_back (x ∷ xs) [] n e f = absurd (omega (arith, f))
written_back (x ∷ xs) (y ∷ ys) zero e f = absurd (omega (arith, e))
written_back (x ∷ xs) (y ∷ ys) (suc n) e f = ap (λ zs. x ∷ zs) (written_back xs ys n (omega (arith, e)) (omega (arith, f)))

-- a vector whose element i was set, and whose elements after it are lent and came back as t
module _ {X : Type 0} where
  length_set : (es : List X) (i : ℕ) (e : X) → length (slice_set es i e) ≡ length es
  length_set [] i e = refl
  length_set (y ∷ ys) zero e = refl
  length_set (y ∷ ys) (suc i) e = ap suc (length_set ys i e)

  tail_of : (es : List X) (i : ℕ) (e : X) (k : ℕ) → i < length es → k ≡ length es - suc i → take k (drop (suc i) (slice_set es i e)) ≡ drop (suc i) es
  tail_of [] i e k r q = absurd (omega (arith, r))
  tail_of (y ∷ ys) zero e k r q = take_all k ys (omega (arith, q))
  tail_of (y ∷ ys) (suc i) e k r q = tail_of ys i e k (omega (arith, r)) (omega (arith, q))

  -- what is lent
  pub tail_lent : (es xs : List X) (i m : ℕ) (e : X) → xs ≡ slice_set es i e → i < length es → m ≡ suc i → take (length xs - m) (drop m xs) ≡ drop (suc i) es
  tail_lent es xs i m e p r q = (λ j. take (length xs - m) (drop (q j) (p j))) ∙ tail_of es i e (length xs - m) r (omega (arith, q, ap length p, length_set es i e))

  whole_of : (es : List X) (i : ℕ) (e : X) (t : List X) (n k : ℕ) → n ≡ length es → i < length es → length t ≡ k → k ≡ length es - suc i
      → take n (put_mid (suc i) k (slice_set es i e) t ++ drop (length (put_mid (suc i) k (slice_set es i e) t)) (slice_set es i e)) ≡ take (suc i) (slice_set es i e) ++ t
  whole_of [] i e t n k p r q s = absurd (omega (arith, r))
  whole_of (y ∷ ys) i e t zero k p r q s = absurd (omega (arith, p))
  whole_of (y ∷ ys) zero e t (suc n) k p r q s =
      let none = drop_all k ys (omega (arith, s)) in
      let whole : t ++ drop k ys ≡ t = ap (λ zs. t ++ zs) none ∙ append-nil t in
      ap (λ zs. e ∷ zs) (written_back (t ++ drop k ys) ys n (omega (arith, p)) (ap length whole ∙ omega (arith, q, s)) ∙ whole)
  whole_of (y ∷ ys) (suc i) e t (suc n) k p r q s = ap (λ zs. y ∷ zs) (whole_of ys i e t n k (omega (arith, p)) (omega (arith, r)) q (omega (arith, s)))

  -- what the vector is afterwards
  pub tail_back : (es xs : List X) (i m : ℕ) (e : X) (t : List X) (n : ℕ) → xs ≡ slice_set es i e → m ≡ suc i → n ≡ length es → i < length es → length t ≡ length (drop (suc i) es)
      → take n (put_mid m (length xs - m) xs t ++ drop (length (put_mid m (length xs - m) xs t)) (slice_set es i e)) ≡ take (suc i) (slice_set es i e) ++ t
  tail_back es xs i m e t n p q w r s =
      (λ j. take n (put_mid (q j) (length (p j) - q j) (p j) t ++ drop (length (put_mid (q j) (length (p j) - q j) (p j) t)) (slice_set es i e)))
      ∙ whole_of es i e t n (length (slice_set es i e) - suc i) w r (s ∙ length_behind es i r ∙ ap (λ z. z - suc i) (sym (length_set es i e))) (ap (λ z. z - suc i) (length_set es i e))
    where
      length_behind : (es : List X) (i : ℕ) → i < length es → length (drop (suc i) es) ≡ length es - suc i
      length_behind [] i r = absurd (omega (arith, r))
      length_behind (y ∷ ys) zero r = omega arith
      length_behind (y ∷ ys) (suc i) r = let f = length_behind ys i (omega (arith, r)) in omega (arith, f)

  pub removed_at : (es : List X) (i : ℕ) (e : X) (t : List X) → i < length es → remove (take (suc i) (slice_set es i e) ++ t) i ≡ take i es ++ t
  removed_at [] i e t r = absurd (omega (arith, r))
  removed_at (y ∷ ys) zero e t r = refl
  removed_at (y ∷ ys) (suc i) e t r = ap (λ zs. y ∷ zs) (removed_at ys i e t (omega (arith, r)))

  pub got_at : (es : List X) (i : ℕ) (e : X) (t : List X) (x : X) → i < length es → get_or (take (suc i) (slice_set es i e) ++ t) i x ≡ e
  got_at [] i e t x r = absurd (omega (arith, r))
  got_at (y ∷ ys) zero e t x r = refl
  got_at (y ∷ ys) (suc i) e t x r = got_at ys i e t x (omega (arith, r))

  pub set_at_back : (es : List X) (i : ℕ) (e v x : X) → i < length es → v ≡ get_or es i x → slice_set (take (suc i) (slice_set es i e) ++ drop (suc i) es) i v ≡ es
  set_at_back [] i e v x r p = absurd (omega (arith, r))
  set_at_back (y ∷ ys) zero e v x r p = ap (λ z. z ∷ ys) p
  set_at_back (y ∷ ys) (suc i) e v x r p = ap (λ zs. y ∷ zs) (set_at_back ys i e v x (omega (arith, r)) p)

pub at_some : {T : Type 0} (o : Option T) (A : Type 0) (B : T → Type 0) (e : T) → o ≡ Some e → MatchOption o A B → B e
at_some o A B e p m = subst (λ q. MatchOption q A B) p m

pub at_none : {T : Type 0} (o : Option T) (A : Type 0) (B : T → Type 0) → o ≡ None → MatchOption o A B → A
at_none o A B p m = subst (λ q. MatchOption q A B) p m

-- a page, as what stands in its gap: without a node it gives way to its high page
module _ {K D : Type 0} where
  abbrev pub gives_way : Tree K D → Held K D
  gives_way (page l c r) = as_held l c r

  pub way_none : (l : ℕ) (c : Option (List ℕ)) (es : List (Node K D)) (h : Held K D) → length es ≡ 0 → gives_way (page l c (row es h)) ≡ h
  way_none l c [] h e = refl
  way_none l c (x ∷ es) h e = absurd (omega (arith, e))

  pub way_some : (l : ℕ) (c : Option (List ℕ)) (es : List (Node K D)) (h : Held K D) → length es ≢ 0 → gives_way (page l c (row es h)) ≡ below (page l c (row es h))
  way_some l c [] h e = absurd (e refl)
  way_some l c (x ∷ es) h e = refl

  pub without_gives : (cmp : K → K → Ordering) (k : K) (t : Tree K D) → tree_del cmp k t ≡ gives_way (tree_without cmp k t)
  without_gives cmp k (page l c r) = refl

  -- one page seen twice: without nodes, what stands in its gap is its high page
  pub way_same : {l m : ℕ} {c d : Option (List ℕ)} (es fs : List (Node K D)) (h i : Held K D) → page l c (row es h) ≡ page m d (row fs i) → length es ≡ 0 → i ≡ gives_way (page l c (row es h))
  way_same es fs h i e z = sym (way_none _ _ fs i (ap length (sym (row_nodes-row fs i) ∙ ap nodes_of (sym e) ∙ row_nodes-row es h) ∙ z)) ∙ ap gives_way (sym e)
