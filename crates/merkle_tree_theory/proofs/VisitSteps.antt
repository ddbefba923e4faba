-- Where a visitor is led by the calls at a page, call by call.
use Rattle.std.proofs.Common.{◌≡◌, ℕ, ◌+◌, ◌<◌, ◌≤◌, Bool, true, false, List, [], ◌∷◌, ◌++◌, Option, length, drop, get_or, sym, subst, append_assoc}
use Rattle.std.proofs.lemmas.List.{drop_more, drop_all}
use Rattle.merkle_tree_theory.specs.Tree.{Tree, page, Row, Held, Node, row}
use Rattle.merkle_tree_theory.specs.Events.{Event, visit_page, pre_visit_node, visit_node, post_visit_node, post_visit_page, events_of, row_events, held_events}
use Rattle.merkle_tree_theory.specs.Traversal.{Visits, over, ends, goes_on, node_events}

module _ {S E : Type 0} {step : S → E → Bool → S → Type 0} where
  -- the first call answers false
  pub refused : {s t : S} {e : E} {es : List E} {r : Bool} → step s e r t → r ≡ false → Visits step s (e ∷ es) false t
  refused {s} {t} {e} p f = ends (subst (λ q. step s e q t) f p)

  -- the first call answers true
  pub answered : {s t : S} {e : E} {es : List E} {all r : Bool} (u : S) → step s e r u → r ≡ true → Visits step u es all t → Visits step s (e ∷ es) all t
  answered {s} {t} {e} u p f v = goes_on (subst (λ q. step s e q u) f p) v

  -- there is one call
  pub one : {s t : S} {e : E} {all : Bool} → step s e all t → Visits step s (e ∷ []) all t
  one {all = true} p = goes_on p over
  one {all = false} p = ends p

  -- the calls of a list all answer true, and more calls follow
  pub visits-then : {s u t : S} {xs ys : List E} {all : Bool} → Visits step s xs true u → Visits step u ys all t → Visits step s (xs ++ ys) all t
  visits-then over w = w
  visits-then (goes_on p v) w = goes_on p (visits-then v w)

  -- a call of a list answers false, and no more follow
  pub visits-no_more : {s t : S} {xs : List E} (ys : List E) → Visits step s xs false t → Visits step s (xs ++ ys) false t
  visits-no_more ys (ends p) = ends p
  visits-no_more ys (goes_on p v) = goes_on p (visits-no_more ys v)

  pub with_answer : {s t : S} {es : List E} {r all : Bool} → Visits step s es r t → r ≡ all → Visits step s es all t
  with_answer {s} {t} {es} v f = subst (λ q. Visits step s es q t) f v

module _ {K D S : Type 0} {step : S → Event K D → Bool → S → Type 0} where
  -- the calls at a page: that of the page itself answers false
  pub page-refused : (h : Bool) (t : Tree K D) {s u : S} {r : Bool} → step s (visit_page t h) r u → r ≡ false → Visits step s (events_of h t) false u
  page-refused h (page l c r) p f = refused p f

  -- it answers true
  pub page-answered : (h : Bool) (t : Tree K D) (l : ℕ) (c : Option (List ℕ)) (r : Row K D) → page l c r ≡ t → {s w : S} {q all : Bool} (u : S) → step s (visit_page t h) q u → q ≡ true
      → Visits step u (row_events t r) all w → Visits step s (events_of h t) all w
  page-answered h t l c r e {s} {w} {q} {all} u p f =
      subst (λ x. step s (visit_page x h) q u → Visits step u (row_events x r) all w → Visits step s (events_of h x) all w) e (λ p v. answered u p f v) p

  -- the calls at the nodes from one on: one of that node answers false
  pub row-refused : (t : Tree K D) (es : List (Node K D)) (h : Held K D) (i : ℕ) (x : Node K D) → i < length es → x ≡ get_or es i x → {s w : S} {r : Bool}
      → Visits step s (node_events x) r w → r ≡ false → Visits step s (row_events t (row (drop i es) h)) false w
  row-refused t es h i x lt is {s} {w} v f =
      subst (λ ys. Visits step s (row_events t (row ys h)) false w) (sym (drop_more es i x lt))
      (at_first (get_or es i x) (subst (λ y. Visits step s (node_events y) false w) is (with_answer v f)))
    where
      at_first : (y : Node K D) → Visits step s (node_events y) false w → Visits step s (row_events t (row (y ∷ drop (i + 1) es) h)) false w
      at_first y v = subst (λ calls. Visits step s (pre_visit_node y ∷ calls) false w)
          (append_assoc (held_events false y.lt) (visit_node y ∷ post_visit_node y ∷ []) (row_events t (row (drop (i + 1) es) h))) (visits-no_more _ v)

  -- those of that node answer true
  pub row-answered : (t : Tree K D) (es : List (Node K D)) (h : Held K D) (i : ℕ) (x : Node K D) → i < length es → x ≡ get_or es i x → {s u w : S} {r all : Bool}
      → Visits step s (node_events x) r u → r ≡ true → Visits step u (row_events t (row (drop (i + 1) es) h)) all w → Visits step s (row_events t (row (drop i es) h)) all w
  row-answered t es h i x lt is {s} {u} {w} {r} {all} v f more =
      subst (λ ys. Visits step s (row_events t (row ys h)) all w) (sym (drop_more es i x lt))
      (at_first (get_or es i x) (subst (λ y. Visits step s (node_events y) true u) is (with_answer v f)))
    where
      at_first : (y : Node K D) → Visits step s (node_events y) true u → Visits step s (row_events t (row (y ∷ drop (i + 1) es) h)) all w
      at_first y v = subst (λ calls. Visits step s (pre_visit_node y ∷ calls) all w)
          (append_assoc (held_events false y.lt) (visit_node y ∷ post_visit_node y ∷ []) (row_events t (row (drop (i + 1) es) h))) (visits-then v more)

  -- no node is left
  pub row-over : (t : Tree K D) (es : List (Node K D)) (h : Held K D) (i : ℕ) → length es ≤ i → {s w : S} {all : Bool}
      → Visits step s (post_visit_page t ∷ held_events true h) all w → Visits step s (row_events t (row (drop i es) h)) all w
  row-over t es h i le {s} {w} {all} v = subst (λ ys. Visits step s (row_events t (row ys h)) all w) (sym (drop_all i es le)) v

  -- the calls at a node: one of the page below it answers false
  pub below-refused : (n : Node K D) (h : Held K D) → h ≡ n.lt → {s w : S} {q r : Bool} (u : S) → step s (pre_visit_node n) q u → q ≡ true
      → Visits step u (held_events false h) r w → r ≡ false → Visits step s (node_events n) false w
  below-refused n h e {s} {w} {q} {r} u p f v g = answered u p f (visits-no_more _ (with_answer (subst (λ x. Visits step u (held_events false x) r w) e v) g))

  -- those of the page below it answer true
  pub below-answered : (n : Node K D) (h : Held K D) → h ≡ n.lt → {s w : S} {q r all : Bool} (u : S) → step s (pre_visit_node n) q u → q ≡ true → (x : S)
      → Visits step u (held_events false h) r x → r ≡ true → Visits step x (visit_node n ∷ post_visit_node n ∷ []) all w → Visits step s (node_events n) all w
  below-answered n h e {s} {w} {q} {r} u p f x v g more = answered u p f (visits-then (with_answer (subst (λ y. Visits step u (held_events false y) r x) e v) g) more)
