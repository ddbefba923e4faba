-- The first and the last key of a page and those below it, read off its list of nodes.
use Rattle.std.proofs.Common.{◌≡◌, ℕ, suc, ◌-◌, List, [], ◌∷◌, ◌++◌, length, Option, Some, None, refl, ap, sym, subst, ◌∙◌, append_assoc, append-nil, arith, ◌⊎◌, inl, inr}
use Rattle.std.specs.Prelude.{◌≢◌, ◌↔◌, false, true, if◌then◌else◌, slice_get, IsSome, IfSome}
use Rattle.std.specs.Option.{option_map}
use Rattle.std.specs.Ordering.{is_gt}
use Rattle.std.proofs.lemmas.Bool.{false≢true}
use Rattle.std.specs.List.{flat_map}
use Rattle.std.proofs.lemmas.List.Concat.{flat_map-cons}
use Rattle.std.proofs.lemmas.Grind.{flat_map-append}
use Rattle.std.specs.Cmp.{IsTotalOrder}
use Rattle.std.specs.declared.cmp.Ordering.{Ordering}
use Rattle.key_order.specs.Order.{Upto, upto}
use Rattle.key_order.specs.Map.{IsMap, last_key}
use Rattle.key_order.proofs.Bools.{which}
use Rattle.merkle_diff.specs.Entry.{Entry}
use Rattle.merkle_tree_theory.specs.Tree.{Tree, page, Row, high, node, Held, nothing, below, Node, row}
use Rattle.merkle_tree_theory.specs.Page.{level, pairs, row_pairs, held_pairs, pages_in_order, row_pages, held_pages, LevelsFall, RowFalls}
use Rattle.merkle_tree_theory.specs.Canonical.{HasNode}
use Rattle.merkle_tree_theory.specs.CachedRanges.{ranges_to_come, as_list, first_key_of, last_key_of, range_from, range_of, cached_ranges, row_cached, held_cached}
use Rattle.merkle_tree_theory.proofs.RangeKeys.{first_last, not-none}
use Rattle.merkle_tree_theory.proofs.FallingLevels.{no-pages}

module _ {K D : Type 0} where
  pub last-append : (c : K) (ps : List (K × D)) (q : K × D) (qs : List (K × D)) → last_key c (ps ++ q ∷ qs) ≡ last_key q.0 qs
  last-append c [] q qs = refl
  last-append c (p ∷ ps) q qs = last-append p.0 ps q qs

  last-pair : (ps : List (K × D)) (q : K × D) (qs : List (K × D)) → last_key_of (ps ++ q ∷ qs) ≡ Some (last_key q.0 qs)
  last-pair [] q qs = refl
  last-pair (p ∷ ps) q qs = ap Some (last-append p.0 ps q qs)

  last-key : (c : K) (ps : List (K × D)) (k : K) → last_key_of ps ≡ Some k → Some (last_key c ps) ≡ Some k
  last-key c [] k e = absurd (cc)
  last-key c (p ∷ ps) k e = e

  last-none : (c : K) (ps : List (K × D)) → last_key_of ps ≡ None → last_key c ps ≡ c
  last-none c [] e = refl
  last-none c (p ∷ ps) e = absurd (cc)

  -- the last node of a list is that of the list after its first node
  behind : (y z : Node K D) (es : List (Node K D)) (o : Option (Node K D)) → slice_get (y ∷ z ∷ es) (length (y ∷ z ∷ es) - 1) ≡ o → slice_get (z ∷ es) (length (z ∷ es) - 1) ≡ o
  behind y z es o e =
      let one : suc (length (z ∷ es) - 1) ≡ length (y ∷ z ∷ es) - 1 = omega arith in
      ap (slice_get (y ∷ z ∷ es)) one ∙ e

  pub last-high : (es : List (Node K D)) (h : Held K D) (k : K) → last_key_of (held_pairs h) ≡ Some k → last_key_of (row_pairs (row es h)) ≡ Some k
  last-high [] h k e = e
  last-high (x ∷ es) h k e = last-pair (held_pairs x.lt) (x.key, x.digest) (row_pairs (row es h)) ∙ last-key x.key (row_pairs (row es h)) k (last-high es h k e)

  pub last-own : (es : List (Node K D)) (h : Held K D) (x : Node K D) → slice_get es (length es - 1) ≡ Some x → last_key_of (held_pairs h) ≡ None → last_key_of (row_pairs (row es h)) ≡ Some x.key
  last-own [] h x e f = absurd (cc)
  last-own (y ∷ []) h x e f =
      last-pair (held_pairs y.lt) (y.key, y.digest) (held_pairs h) ∙ ap Some (last-none y.key (held_pairs h) f) ∙ ap (λ (n : Node K D). Some n.key) (some y x e)
    where
      some : (a b : Node K D) → Some a ≡ Some b → a ≡ b
      some a b e = cc
  last-own (y ∷ z ∷ es) h x e f =
      last-pair (held_pairs y.lt) (y.key, y.digest) (row_pairs (row (z ∷ es) h)) ∙ last-key y.key (row_pairs (row (z ∷ es) h)) x.key (last-own (z ∷ es) h x (behind y z es (Some x) e) f)

-- a page with a node has a first key
pub has-first : {K D : Type 0} (t : Tree K D) → HasNode t → None ≡ first_key_of (pairs t) → ⊥
has-first (page l c (high h)) n e = absurd n
has-first (page l c (node h k d r)) n e = not-none (held_pairs h) (k, d) (row_pairs r) (none (held_pairs h ++ (k, d) ∷ row_pairs r) e)
  where
    none : {K D : Type 0} (ps : List (K × D)) → None ≡ first_key_of ps → ps ≡ []
    none [] e = refl
    none (p ∷ ps) e = absurd (cc)

module _ {K D : Type 0} (cmp : K → K → Ordering) where
  -- the ranges of the pages below a node
  abbrev pub node_cached : Node K D → List (Entry K (List ℕ))
  node_cached e = held_cached cmp e.lt

  pub row_cached-row : (es : List (Node K D)) (h : Held K D) → row_cached cmp (row es h) ≡ flat_map node_cached es ++ held_cached cmp h
  row_cached-row [] h = refl
  row_cached-row (e ∷ es) h =
      ap (λ w. node_cached e ++ w) (row_cached-row es h) ∙ sym (append_assoc (node_cached e) (flat_map node_cached es) (held_cached cmp h))
      ∙ ap (λ w. w ++ held_cached cmp h) (sym (flat_map-cons node_cached e es))

  mutual
    -- the ranges of the pages in order are those of the page and the pages below it
    pub each-cached : (t : Tree K D) → ranges_to_come cmp (pages_in_order t) ≡ cached_ranges cmp t
    each-cached (page l c r) = flat_map-cons (λ s. as_list (range_of cmp s)) (page l c r) (row_pages r) ∙ ap (λ w. as_list (range_of cmp (page l c r)) ++ w) (row_each-cached r)

    row_each-cached : (r : Row K D) → ranges_to_come cmp (row_pages r) ≡ row_cached cmp r
    row_each-cached (high h) = held_each-cached h
    row_each-cached (node h k d r) = flat_map-append (λ s. as_list (range_of cmp s)) (held_pages h) (row_pages r) ∙ (λ i. held_each-cached h i ++ row_each-cached r i)

    held_each-cached : (h : Held K D) → ranges_to_come cmp (held_pages h) ≡ held_cached cmp h
    held_each-cached nothing = refl
    held_each-cached (below t) = each-cached t

  -- below a page of level 0 there is nothing
  none_cached : (r : Row K D) → RowFalls 0 r → row_cached cmp r ≡ []
  none_cached r f = sym (row_each-cached r) ∙ ap (ranges_to_come cmp) (no-pages r f)

  pub only_own : (t : Tree K D) → LevelsFall t → level t ≡ 0 → as_list (range_of cmp t) ≡ cached_ranges cmp t
  only_own (page l c r) f e = sym (append-nil (as_list (range_of cmp (page l c r)))) ∙ ap (λ w. as_list (range_of cmp (page l c r)) ++ w) (sym (none_cached r (subst (λ n. RowFalls n r) e f)))

module _ {K : Type 0} (cmp : K → K → Ordering) where
  -- the range from a to b, where a is at most b
  abbrev pub range_if : K → K → List ℕ → Option (Entry K (List ℕ))
  range_if a b d = if upto cmp a b then Some (record { first = a; last = b; digest = d }) else None

  -- the first key is at most the last
  pub ends-upto : {D : Type 0} → IsTotalOrder cmp → (ps : List (K × D)) (a b : K) → Some a ≡ first_key_of ps → Some b ≡ last_key_of ps → IsMap cmp ps → Upto cmp a b
  ends-upto o [] a b e f m = absurd (cc)
  ends-upto o (p ∷ ps) a b e f m = subst (λ x. Upto cmp x b) (sym (some a p.0 e)) (subst (λ x. Upto cmp p.0 x) (sym (some b (last_key p.0 ps) f)) (first_last cmp o p ps m))
    where
      some : (x y : K) → Some x ≡ Some y → x ≡ y
      some x y e = cc

  from-ends : {D : Type 0} (ps : List (K × D)) (d : List ℕ) (a b : K) → Some a ≡ first_key_of ps → Some b ≡ last_key_of ps → range_if a b d ≡ range_from cmp ps d
  from-ends [] d a b e f = absurd (cc)
  from-ends (p ∷ ps) d a b e f = λ i. range_if (some a p.0 e i) (some b (last_key p.0 ps) f i) d
    where
      some : (x y : K) → Some x ≡ Some y → x ≡ y
      some x y e = cc

  -- the range of a page with a node and a cached digest is from its first to its last key
  pub range-ends : {D : Type 0} (l : ℕ) (o : Option (List ℕ)) (es : List (Node K D)) (h : Held K D) (d : List ℕ) (a b : K) → o ≡ Some d → length es ≢ 0
      → Some a ≡ first_key_of (row_pairs (row es h)) → Some b ≡ last_key_of (row_pairs (row es h))
      → range_if a b d ≡ range_of cmp (page l o (row es h))
  range-ends l None es h d a b o n e f = absurd (cc)
  range-ends l (Some c) [] h d a b o n e f = absurd (n refl)
  range-ends l (Some c) (x ∷ es) h d a b o n e f = from-ends (row_pairs (row (x ∷ es) h)) d a b e f ∙ ap (range_from cmp (row_pairs (row (x ∷ es) h))) (some d c (sym o))
    where
      some : (x y : List ℕ) → Some x ≡ Some y → x ≡ y
      some x y e = cc

  -- what `PageRange::try_new` answers
  pub made-range : {R : Type 0} (f : R → Entry K (List ℕ)) (o : Option R) (a b : K) (d : List ℕ) → (IsSome o ↔ Upto cmp a b)
      → IfSome o (λ r. f r ≡ record { first = a; last = b; digest = d }) → option_map f o ≡ range_if a b d
  made-range f None a b d q e = by (which (is_gt (cmp a b)))
    where
      by : (is_gt (cmp a b) ≡ false) ⊎ (is_gt (cmp a b) ≡ true) → None ≡ range_if a b d
      by (inl u) = absurd (false≢true (q.1 u))
      by (inr u) = rw u refl
  made-range f (Some r) a b d q e = rw (q.0 refl) (ap Some e)

-- lists joined in another order
pub regroup : {X : Type 0} (xs ys zs ws : List X) → ((xs ++ ys) ++ zs) ++ ws ≡ xs ++ (ys ++ (zs ++ ws))
regroup xs ys zs ws = simp append_assoc
