-- Where a key goes in a page, by its place among the nodes.
use Rattle.std.proofs.Common.{◌≡◌, ◌≢◌, ℕ, zero, suc, ◌<◌, List, [], ◌∷◌, ◌++◌, length, get_or, slice_set, Bool, true, false, if◌then◌else◌, Option, None, refl, ap, sym, ◌∙◌, arith}
use Rattle.std.specs.List.{insert}
use Rattle.std.specs.declared.cmp.Ordering.{Ordering}
use Rattle.std.specs.declared.cmp.Ordering.TheVariants.{Less, Equal, Greater}
use Rattle.std.specs.Ordering.{match_ordering, nat_cmp}
use Rattle.merkle_tree_theory.specs.Tree.{Tree, page, node, Held, Node, row}
use Rattle.merkle_tree_theory.specs.Upsert.{place, level_order, held_lower, held_upper, row_put, row_sink, held_set, row_finds, held_finds, tree_set, tree_finds, lifted}
use Rattle.merkle_tree_theory.proofs.NodeParts.{with_lt, new_node}
use Rattle.merkle_tree_theory.proofs.Walk.{IsWalk, walk_gap, walk_key, walk_high}

module _ {K D : Type 0} where
  -- the order of a level beside a page, read off its list of nodes
  pub order_none : (n l : ℕ) (c : Option (List ℕ)) (es : List (Node K D)) (h : Held K D) → length es ≡ 0 → Equal ≡ level_order n (page l c (row es h))
  order_none n l c [] h e = refl
  order_none n l c (x ∷ xs) h e = absurd (omega arith)

  pub order_some : (n l : ℕ) (c : Option (List ℕ)) (es : List (Node K D)) (h : Held K D) → 0 < length es → nat_cmp n l ≡ level_order n (page l c (row es h))
  order_some n l c [] h e = absurd (omega arith)
  order_some n l c (x ∷ xs) h e = refl

  abbrev pub with_digest : Node K D → D → Node K D
  with_digest e d = record { lt = e.lt; key = e.key; digest = d }

pub get_or_same : {X : Type 0} (xs : List X) (i : ℕ) (x y : X) → i < length xs → get_or xs i x ≡ get_or xs i y
get_or_same [] i x y r = absurd (omega arith)
get_or_same (z ∷ zs) zero x y r = refl
get_or_same (z ∷ zs) (suc i) x y r = get_or_same zs i x y (omega arith)

module _ {K D : Type 0} (cmp : K → K → Ordering) (k : K) (d : D) where
  abbrev puts : IsWalk cmp k (row_put cmp k d)
  puts = record {
    less = λ e r. node (held_lower cmp k e.lt) k d (node (held_upper cmp k e.lt) e.key e.digest r);
    equal = λ e r. node e.lt e.key d r;
    step = λ e s. node e.lt e.key e.digest s;
    walks = λ e r. refl;
  }

  pub put_at : (es : List (Node K D)) (h : Held K D) (i : ℕ) (x : Node K D) → i ≡ place cmp k es → i < length es → cmp k (get_or es i x).key ≢ Equal
      → row_put cmp k d (row es h) ≡ row (insert (slice_set es i (with_lt (get_or es i x) (held_upper cmp k (get_or es i x).lt))) i (new_node k d (held_lower cmp k (get_or es i x).lt))) h
  put_at es h i x =
      let parted : ℕ → List (Node K D) → List (Node K D) =
      λ j fs. insert (slice_set fs j (with_lt (get_or fs j x) (held_upper cmp k (get_or fs j x).lt))) j (new_node k d (held_lower cmp k (get_or fs j x).lt)) in
      walk_gap puts h (λ j fs. row (parted j fs) h) (λ j e fs. refl) (λ e fs. refl) es i x

  pub put_equal : (es : List (Node K D)) (h : Held K D) (i : ℕ) (x : Node K D) → i ≡ place cmp k es → i < length es → cmp k (get_or es i x).key ≡ Equal
      → row_put cmp k d (row es h) ≡ row (slice_set es i (with_digest (get_or es i x) d)) h
  put_equal es h i x = walk_key puts h (λ j fs. row (slice_set fs j (with_digest (get_or fs j x) d)) h) (λ j e fs. refl) (λ e fs. refl) es i x

  pub put_high : (es : List (Node K D)) (h : Held K D) → place cmp k es ≡ length es → row_put cmp k d (row es h) ≡ row (es ++ new_node k d (held_lower cmp k h) ∷ []) (held_upper cmp k h)
  put_high es h = walk_high puts h (λ fs. row (fs ++ new_node k d (held_lower cmp k h) ∷ []) (held_upper cmp k h)) (λ e fs. refl) refl es

module _ {K D : Type 0} (cmp : K → K → Ordering) (n : ℕ) (k : K) (d : D) where
  abbrev sinks : IsWalk cmp k (row_sink cmp n k d)
  sinks = record {
    less = λ e r. node (held_set cmp n k d e.lt) e.key e.digest r;
    equal = λ e r. node e.lt e.key d r;
    step = λ e s. node e.lt e.key e.digest s;
    walks = λ e r. refl;
  }

  pub sink_at : (es : List (Node K D)) (h : Held K D) (i : ℕ) (x : Node K D) → i ≡ place cmp k es → i < length es → cmp k (get_or es i x).key ≢ Equal
      → row_sink cmp n k d (row es h) ≡ row (slice_set es i (with_lt (get_or es i x) (held_set cmp n k d (get_or es i x).lt))) h
  sink_at es h i x = walk_gap sinks h (λ j fs. row (slice_set fs j (with_lt (get_or fs j x) (held_set cmp n k d (get_or fs j x).lt))) h) (λ j e fs. refl) (λ e fs. refl) es i x

  pub sink_equal : (es : List (Node K D)) (h : Held K D) (i : ℕ) (x : Node K D) → i ≡ place cmp k es → i < length es → cmp k (get_or es i x).key ≡ Equal
      → row_sink cmp n k d (row es h) ≡ row (slice_set es i (with_digest (get_or es i x) d)) h
  sink_equal es h i x = walk_key sinks h (λ j fs. row (slice_set fs j (with_digest (get_or fs j x) d)) h) (λ j e fs. refl) (λ e fs. refl) es i x

  pub sink_high : (es : List (Node K D)) (h : Held K D) → place cmp k es ≡ length es → row_sink cmp n k d (row es h) ≡ row es (held_set cmp n k d h)
  sink_high es h = walk_high sinks h (λ fs. row fs (held_set cmp n k d h)) (λ e fs. refl) refl es

  abbrev finds : (b : Bool) → IsWalk cmp k (row_finds cmp n k d b)
  finds b = record { less = λ e r. if b then (held_finds cmp n k d e.lt) else false; equal = λ e r. true; step = λ e s. s; walks = λ e r. refl }

  pub finds_at : (b : Bool) (es : List (Node K D)) (h : Held K D) (i : ℕ) (x : Node K D) → i ≡ place cmp k es → i < length es → cmp k (get_or es i x).key ≢ Equal
      → row_finds cmp n k d b (row es h) ≡ (if b then (held_finds cmp n k d (get_or es i x).lt) else false)
  finds_at b es h i x = walk_gap (finds b) h (λ j fs. if b then (held_finds cmp n k d (get_or fs j x).lt) else false) (λ j e fs. refl) (λ e fs. refl) es i x

  pub finds_high : (b : Bool) (es : List (Node K D)) (h : Held K D) → place cmp k es ≡ length es → row_finds cmp n k d b (row es h) ≡ (if b then (held_finds cmp n k d h) else false)
  finds_high b es h = walk_high (finds b) h (λ fs. if b then (held_finds cmp n k d h) else false) (λ e fs. refl) refl es

module _ {K D : Type 0} (cmp : K → K → Ordering) (n : ℕ) (k : K) (d : D) where
  set_less : (m : ℕ) (c : Option (List ℕ)) (es : List (Node K D)) (h : Held K D) → level_order n (page m c (row es h)) ≡ Less
      → tree_set cmp n k d (page m c (row es h)) ≡ page m None (row_sink cmp n k d (row es h))
  set_less m c [] h q = absurd (cc)
  set_less m c (e ∷ es) h q =
      ap (λ o. match_ordering o (page m None (row_sink cmp n k d (row (e ∷ es) h))) (page m None (row_put cmp k d (row (e ∷ es) h))) (lifted cmp n k d (page m c (row (e ∷ es) h)))) q

  pub set_greater : (m : ℕ) (c : Option (List ℕ)) (es : List (Node K D)) (h : Held K D) → level_order n (page m c (row es h)) ≡ Greater
      → tree_set cmp n k d (page m c (row es h)) ≡ lifted cmp n k d (page m c (row es h))
  set_greater m c [] h q = absurd (cc)
  set_greater m c (e ∷ es) h q =
      ap (λ o. match_ordering o (page m None (row_sink cmp n k d (row (e ∷ es) h))) (page m None (row_put cmp k d (row (e ∷ es) h))) (lifted cmp n k d (page m c (row (e ∷ es) h)))) q

  finds_less : (m : ℕ) (c : Option (List ℕ)) (es : List (Node K D)) (h : Held K D) → level_order n (page m c (row es h)) ≡ Less
      → tree_finds cmp n k d (page m c (row es h)) ≡ row_finds cmp n k d true (row es h)
  finds_less m c [] h q = absurd (cc)
  finds_less m c (e ∷ es) h q =
      ap (λ o. match_ordering o (row_finds cmp n k d true (row (e ∷ es) h)) (row_finds cmp n k d false (row (e ∷ es) h)) false) q

  -- the same of a page that is told by its nodes, and whose level was found to be greater
  module _ {m : ℕ} {c : Option (List ℕ)} {t : Tree K D} {o : Ordering} (es : List (Node K D)) (h : Held K D) (is : page m c (row es h) ≡ t) (compared : o ≡ level_order n t) (less : o ≡ Less) where
    is_less : level_order n (page m c (row es h)) ≡ Less
    is_less = ap (level_order n) is ∙ sym compared ∙ less

    page_set : page m None (row_sink cmp n k d (row es h)) ≡ tree_set cmp n k d t
    page_set = sym (set_less m c es h is_less) ∙ ap (tree_set cmp n k d) is

    page_finds : tree_finds cmp n k d t ≡ row_finds cmp n k d true (row es h)
    page_finds = ap (tree_finds cmp n k d) (sym is) ∙ finds_less m c es h is_less

    pub page_set-high : place cmp k es ≡ length es → page m None (row es (held_set cmp n k d h)) ≡ tree_set cmp n k d t
    page_set-high all = ap (page m None) (sym (sink_high cmp n k d es h all)) ∙ page_set

    pub page_finds-high : place cmp k es ≡ length es → tree_finds cmp n k d t ≡ held_finds cmp n k d h
    page_finds-high all = page_finds ∙ finds_high cmp n k d true es h all

    module _ (i : ℕ) (x : Node K D) (at : i ≡ place cmp k es) (within : i < length es) where
      pub page_set-equal : cmp k (get_or es i x).key ≡ Equal → page m None (row (slice_set es i (with_digest (get_or es i x) d)) h) ≡ tree_set cmp n k d t
      page_set-equal same = ap (page m None) (sym (sink_equal cmp n k d es h i x at within same)) ∙ page_set

      pub page_set-at : cmp k (get_or es i x).key ≢ Equal → page m None (row (slice_set es i (with_lt (get_or es i x) (held_set cmp n k d (get_or es i x).lt))) h) ≡ tree_set cmp n k d t
      page_set-at other = ap (page m None) (sym (sink_at cmp n k d es h i x at within other)) ∙ page_set

      pub page_finds-at : cmp k (get_or es i x).key ≢ Equal → tree_finds cmp n k d t ≡ held_finds cmp n k d (get_or es i x).lt
      page_finds-at other = page_finds ∙ finds_at cmp n k d true es h i x at within other
