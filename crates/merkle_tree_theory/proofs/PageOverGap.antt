-- The page over a gap: how a page's list of nodes leads to it, and that over a gap that a page fills it is that page.
use Rattle.std.proofs.Common.{◌≡◌, ℕ, zero, suc, ◌+◌, ◌<◌, ◌≤◌, List, [], ◌∷◌, ◌++◌, length, get_or, Bool, true, false, if◌then◌else◌, Option, Some, None, refl, ap, sym, subst, ◌∙◌, append_assoc, append-nil, arith, ◌⊎◌, inl, inr}
use Rattle.std.specs.List.{AllByRecursion}
use Rattle.std.specs.Cmp.{IsTotalOrder}
use Rattle.std.specs.Ordering.{is_eq, is_gt, is_lt}
use Rattle.std.specs.declared.cmp.Ordering.{Ordering}
use Rattle.std.specs.declared.cmp.Ordering.TheVariants.{Less, Equal, Greater}
use Rattle.key_order.specs.Order.{Below, Same}
use Rattle.key_order.specs.Map.{IsMap}
use Rattle.key_order.proofs.Bools.{which}
use Rattle.key_order.proofs.ListParts.{each-append, each-at, map-first, map-rest, map-before}
use Rattle.key_order.proofs.Orders.{up_low, not_low_self, same_up}
use Rattle.merkle_tree_theory.specs.Canonical.{HasNode}
use Rattle.merkle_tree_theory.specs.Gap.{Gap, IsInGap, IsAfter, IsBefore, is_after, is_before, is_in_gap, pairs_within}
use Rattle.merkle_tree_theory.specs.Lookup.{place_after, page_over, row_over, held_over, Fills}
use Rattle.merkle_tree_theory.specs.Page.{pairs, row_pairs, held_pairs}
use Rattle.merkle_tree_theory.specs.Ranges.{IsPageIn, IsPageInRow, IsPageInHeld}
use Rattle.merkle_tree_theory.specs.Search.{NodesAscend}
use Rattle.merkle_tree_theory.specs.Tree.{Tree, page, Row, high, node, Held, nothing, below, Node, row}
use Rattle.merkle_tree_theory.specs.Upsert.{place}
use Rattle.merkle_tree_theory.proofs.InGaps.{after_low, before_low, test_from_after, test_from_before, test_from_in_gap, not_before, not_after, each_within, none_within, within-append}
use Rattle.merkle_tree_theory.proofs.PagesIn.{inside_row, pairs_down}

module _ {K D : Type 0} (cmp : K → K → Ordering) where
  pub place_after-within : (a : Option K) (es : List (Node K D)) → place_after cmp a es ≤ length es
  place_after-within a [] = omega arith
  place_after-within a (e ∷ es) = by (is_after cmp a e.key) (place_after-within a es)
    where
      by : (b : Bool) → place_after cmp a es ≤ length es → (if b then 0 else (suc (place_after cmp a es))) ≤ length (e ∷ es)
      by true p = omega arith
      by false p = omega (arith, p)

  -- without a bound it is the first place
  pub place_after-none : (es : List (Node K D)) → place_after cmp None es ≡ 0
  place_after-none [] = refl
  place_after-none (e ∷ es) = refl

  module _ (k : K) where
    place_first : (e : Node K D) (es : List (Node K D)) → is_gt (cmp k e.key) ≡ false → place cmp k (e ∷ es) ≡ 0
    place_first e es n = rw n refl

    place_later : (e : Node K D) (es : List (Node K D)) → is_gt (cmp k e.key) ≡ true → place cmp k (e ∷ es) ≡ suc (place cmp k es)
    place_later e es n = rw n refl

    -- whether the node at the key's place has the key
    abbrev pub IsThere : Bool → List (Node K D) → Type 0
    IsThere b es = (x : Node K D) → place cmp k es < length es → b ≡ is_eq (cmp k (get_or es (place cmp k es) x).key)

    there_later : (b : Bool) (e : Node K D) (es : List (Node K D)) → is_gt (cmp k e.key) ≡ true → IsThere b (e ∷ es) → IsThere b es
    there_later b e es n f x r = subst (λ i. i < length (e ∷ es) → b ≡ is_eq (cmp k (get_or (e ∷ es) i x).key)) (place_later e es n) (f x) (omega (arith, r))

    there_first : (b : Bool) (e : Node K D) (es : List (Node K D)) → is_gt (cmp k e.key) ≡ false → IsThere b (e ∷ es) → b ≡ is_eq (cmp k e.key)
    there_first b e es n f = subst (λ i. i < length (e ∷ es) → b ≡ is_eq (cmp k (get_or (e ∷ es) i e).key)) (place_first e es n) (f e) (omega arith)

    -- where the node at the bound's place isn't at the bound, that is the first node above it
    pub place_after-other : (es : List (Node K D)) → IsThere false es → place_after cmp (Some k) es ≡ place cmp k es
    place_after-other [] f = refl
    place_after-other (e ∷ es) f = go (λ n. place_after-other es (there_later false e es n f)) (cmp k e.key) refl
      where
        go : (is_gt (cmp k e.key) ≡ true → place_after cmp (Some k) es ≡ place cmp k es) → (r : Ordering) → cmp k e.key ≡ r → place_after cmp (Some k) (e ∷ es) ≡ place cmp k (e ∷ es)
        go more Less q = rw q refl
        go more Equal q = let never : false ≡ true = there_first false e es (ap is_gt q) f ∙ ap is_eq q in absurd (cc)
        go more Greater q = rw q (ap suc (more (ap is_gt q)))

    module _ (o : IsTotalOrder cmp) where
      all_above : (es : List (Node K D)) (j : K) → Same cmp k j → AllByRecursion (λ (e : Node K D). Below cmp j e.key) es → place_after cmp (Some k) es ≡ 0
      all_above [] j s a = refl
      all_above (e ∷ es) j s a = rw (up_low cmp o k j e.key (same_up cmp o k j s) a.0) refl

      -- where it is at the bound, the next one is
      pub place_after-there : (es : List (Node K D)) → NodesAscend cmp es → place cmp k es < length es → IsThere true es → place_after cmp (Some k) es ≡ suc (place cmp k es)
      place_after-there [] m r f = absurd (omega (arith, r))
      place_after-there (e ∷ es) m r f = go (λ n. place_after-there es m.1 (behind_first n) (there_later true e es n f)) (cmp k e.key) refl
        where
          behind_first : is_gt (cmp k e.key) ≡ true → place cmp k es < length es
          behind_first n = let later : suc (place cmp k es) < length (e ∷ es) = subst (λ i. i < length (e ∷ es)) (place_later e es n) r in omega (arith, later)

          go : (is_gt (cmp k e.key) ≡ true → place_after cmp (Some k) es ≡ suc (place cmp k es)) → (s : Ordering) → cmp k e.key ≡ s → place_after cmp (Some k) (e ∷ es) ≡ suc (place cmp k (e ∷ es))
          go more Less q = let never : true ≡ false = there_first true e es (ap is_gt q) f ∙ ap is_eq q in absurd (cc)
          go more Equal q = rw q (ap suc (all_above es e.key q m.0))
          go more Greater q = rw q (ap suc (more (ap is_gt q)))

    -- the same by what a search tells
    pub behind_end : (es : List (Node K D)) (i : ℕ) → i ≡ place cmp k es → i ≡ length es → place_after cmp (Some k) es ≡ i
    behind_end es i found end = place_after-other es (λ x r. absurd (omega (arith, r, found, end))) ∙ sym found

    module _ (es : List (Node K D)) (i : ℕ) (b : Bool) (found : i ≡ place cmp k es) (there : (x : Node K D) → i < length es → b ≡ is_eq (cmp k (get_or es i x).key)) where
      at_place : IsThere b es
      at_place = subst (λ j. (x : Node K D) → j < length es → b ≡ is_eq (cmp k (get_or es j x).key)) found there

      pub behind_other : b ≡ false → place_after cmp (Some k) es ≡ i
      behind_other n = place_after-other es (subst (λ c. IsThere c es) n at_place) ∙ sym found

      pub behind_there : IsTotalOrder cmp → NodesAscend cmp es → i < length es → b ≡ true → place_after cmp (Some k) es ≡ i + 1
      behind_there o m r n = place_after-there o es m (omega (arith, r, found)) (subst (λ c. IsThere c es) n at_place) ∙ (omega (arith, found))

  -- what a row gives over a gap, by the place of its first node after the gap's first bound: what the high page gives, or the page itself,
  -- or what the page before that node gives
  module _ (g : Gap K) (t : Tree K D) where
    pub over_high : (es : List (Node K D)) (h : Held K D) → place_after cmp g.after es ≡ length es → row_over cmp g t (row es h) ≡ held_over cmp g h
    over_high [] h all = refl
    over_high (e ∷ es) h all = go (over_high es h) (which (is_after cmp g.after e.key)) all
      where
        go : (place_after cmp g.after es ≡ length es → row_over cmp g t (row es h) ≡ held_over cmp g h) → (is_after cmp g.after e.key ≡ false)
            ⊎ (is_after cmp g.after e.key ≡ true) → place_after cmp g.after (e ∷ es) ≡ length (e ∷ es) → row_over cmp g t (row (e ∷ es) h) ≡ held_over cmp g h
        go more (inl n) q = let r : suc (place_after cmp g.after es) ≡ length (e ∷ es) = (rw n at q) in rw n (more (omega (arith, r)))
        go more (inr n) q = let r : 0 ≡ length (e ∷ es) = (rw n at q) in absurd (omega (arith, r))

    pub over_node : (es : List (Node K D)) (h : Held K D) (i : ℕ) (x : Node K D) → i ≡ place_after cmp g.after es → i < length es
        → row_over cmp g t (row es h) ≡ (if (is_before cmp g.before (get_or es i x).key) then (Some t) else (held_over cmp g (get_or es i x).lt))
    over_node [] h i x at r = absurd (omega (arith, r))
    over_node (e ∷ es) h i x at r = go (λ j q s. over_node es h j x q s) (which (is_after cmp g.after e.key)) i at r
      where
        Given : ℕ → Type 0
        Given i = row_over cmp g t (row (e ∷ es) h) ≡ (if (is_before cmp g.before (get_or (e ∷ es) i x).key) then (Some t) else (held_over cmp g (get_or (e ∷ es) i x).lt))

        go : ((j : ℕ) → j ≡ place_after cmp g.after es → j < length es
            → row_over cmp g t (row es h) ≡ (if (is_before cmp g.before (get_or es j x).key) then (Some t) else (held_over cmp g (get_or es j x).lt)))
            → (is_after cmp g.after e.key ≡ false) ⊎ (is_after cmp g.after e.key ≡ true) → (i : ℕ) → i ≡ place_after cmp g.after (e ∷ es) → i < length (e ∷ es) → Given i
        go more (inl n) zero q r = let z : 0 ≡ suc (place_after cmp g.after es) = (rw n at q) in absurd (omega (arith, z))
        go more (inl n) (suc i) q r = let z : suc i ≡ suc (place_after cmp g.after es) = (rw n at q) in rw n (more i (omega (arith, z)) (omega (arith, r)))
        go more (inr n) i q r = let z : 0 ≡ i = sym (rw n at q) in subst Given z (rw n refl)

-- the same of a page, by what a search among its nodes tells, which were lent as a slice
module _ {K D : Type 0} (cmp : K → K → Ordering) (g : Gap K) {l : ℕ} {c : Option (List ℕ)} {t : Tree K D} (es : List (Node K D)) (h : Held K D) (is : page l c (row es h) ≡ t) where
  pub page_over-high : {ys : List (Node K D)} {i n m : ℕ} → i ≡ place_after cmp g.after ys → ys ≡ es → i ≡ n → n ≡ m → m ≡ length es → held_over cmp g h ≡ page_over cmp g t
  page_over-high found lent end len ok =
      let all : place_after cmp g.after es ≡ length es = omega (arith, found ∙ ap (place_after cmp g.after) lent, end, len, ok) in
      sym (over_high cmp g (page l c (row es h)) es h all) ∙ ap (page_over cmp g) is

  module _ {ys : List (Node K D)} (i : ℕ) (x : Node K D) {n : Node K D} (found : i ≡ place_after cmp g.after ys) (lent : ys ≡ es) (is_node : n ≡ get_or es i x) (within : i < length es) where
    by_node : row_over cmp g (page l c (row es h)) (row es h) ≡ (if (is_before cmp g.before n.key) then (Some (page l c (row es h))) else (held_over cmp g n.lt))
    by_node =
        over_node cmp g (page l c (row es h)) es h i x (found ∙ ap (place_after cmp g.after) lent) within
        ∙ ap (λ (e : Node K D). if (is_before cmp g.before e.key) then (Some (page l c (row es h))) else (held_over cmp g e.lt)) (sym is_node)

    pub page_over-own : is_before cmp g.before n.key ≡ true → Some t ≡ page_over cmp g t
    page_over-own before = subst (λ (u : Tree K D). Some u ≡ page_over cmp g u) is (sym (by_node ∙ ap (λ b. if b then (Some (page l c (row es h))) else (held_over cmp g n.lt)) before))

    pub page_over-gap : is_before cmp g.before n.key ≡ false → held_over cmp g n.lt ≡ page_over cmp g t
    page_over-gap not = sym (by_node ∙ ap (λ b. if b then (Some (page l c (row es h))) else (held_over cmp g n.lt)) not) ∙ ap (page_over cmp g) is

module _ {K D : Type 0} (cmp : K → K → Ordering) (g : Gap K) where
  abbrev IsFrom : Tree K D → Row K D → Tree K D → Type 0
  IsFrom t r p = ((p ≡ t) × HasNode (page 0 None r)) ⊎ (IsPageInRow p r × HasNode p)

  mutual
    -- the page over a gap is of the tree, and has a node
    pub over_inside : (t p : Tree K D) → page_over cmp g t ≡ Some p → IsPageIn p t × HasNode p
    over_inside (page l c r) p e = go r (row_inside (page l c r) r p e)
      where
        go : (r : Row K D) → IsFrom (page l c r) r p → IsPageIn p (page l c r) × HasNode p
        go (high h) (inl (e, n)) = absurd n
        go (node h k d r) (inl (e, n)) = (inl e, subst (λ (q : Tree K D). HasNode q) (sym e) tt)
        go r (inr (i, n)) = (inr i, n)

    row_inside : (t : Tree K D) (r : Row K D) (p : Tree K D) → row_over cmp g t r ≡ Some p → IsFrom t r p
    row_inside t (high h) p e = inr (held_inside h p e)
    row_inside t (node h k d r) p e = go (is_after cmp g.after k) (is_before cmp g.before k) (held_inside h p) (row_inside t r p) e
      where
        go : (b c : Bool) → (held_over cmp g h ≡ Some p → IsPageInHeld p h × HasNode p) → (row_over cmp g t r ≡ Some p → IsFrom t r p)
            → (if b then (if c then (Some t) else (held_over cmp g h)) else (row_over cmp g t r)) ≡ Some p → IsFrom t (node h k d r) p
        go true true f m e = inl (is_that t p e, tt)
          where
            is_that : (t p : Tree K D) → Some t ≡ Some p → p ≡ t
            is_that t p e = cc
        go true false f m e = let (i, n) = f e in inr (inl i, n)
        go false c f m e = later (m e)
          where
            later : IsFrom t r p → IsFrom t (node h k d r) p
            later (inl (e, n)) = inl (e, tt)
            later (inr (i, n)) = inr (inr i, n)

    held_inside : (h : Held K D) (p : Tree K D) → held_over cmp g h ≡ Some p → IsPageInHeld p h × HasNode p
    held_inside nothing p e = absurd (cc)
    held_inside (below t) p e = over_inside t p e

-- a page that fills a gap is the page over it
module _ {K D : Type 0} (cmp : K → K → Ordering) (o : IsTotalOrder cmp) (g : Gap K) (l : ℕ) (c : Option (List ℕ)) (h : Held K D) (x : K) (d : D) (r : Row K D) where
  -- the page, which has the node x
  abbrev filling : Tree K D
  filling = page l c (node h x d r)

  abbrev Within : List (K × D) → Type 0
  Within ps = pairs_within cmp g ps ≡ pairs filling

  each_here : (ps : List (K × D)) → Within ps → AllByRecursion (λ p. IsInGap cmp p.0 g) (pairs filling)
  each_here ps a = subst (AllByRecursion (λ p. IsInGap cmp p.0 g)) a (each_within cmp g ps)

  node_here : (ps : List (K × D)) → Within ps → IsInGap cmp x g
  node_here ps a = each-at (λ p. IsInGap cmp p.0 g) (held_pairs h) (x, d) (row_pairs r) (each_here ps a)

  -- a key that all keys of the page are on one side of isn't in the gap
  apart : (P : K → Type 0) (k : K) (e : D) (qs ps : List (K × D)) → (P k → ⊥) → Within (qs ++ (k, e) ∷ ps) → AllByRecursion (λ p. P p.0) (pairs filling) → is_in_gap cmp k g ≡ false
  apart P k e qs ps never a all = go (which (is_in_gap cmp k g))
    where
      go : (is_in_gap cmp k g ≡ false) ⊎ (is_in_gap cmp k g ≡ true) → is_in_gap cmp k g ≡ false
      go (inl n) = n
      go (inr n) =
          let split : pairs filling ≡ pairs_within cmp g qs ++ (k, e) ∷ pairs_within cmp g ps = sym a ∙ within-append cmp g qs ((k, e) ∷ ps) ∙ ap (λ w. pairs_within cmp g qs ++ w) (rw n refl) in
          absurd (never (each-at (λ p. P p.0) (pairs_within cmp g qs) (k, e) (pairs_within cmp g ps) (subst (AllByRecursion (λ p. P p.0)) split all)))

  never_in : (k : K) → is_in_gap cmp k g ≡ false → IsInGap cmp k g → ⊥
  never_in k n i = let never : true ≡ false = sym (test_from_in_gap cmp k g i) ∙ n in cc

  -- what is above a key that isn't before the second bound isn't in the gap, and what is below one that isn't after the first isn't either
  all_behind : (k : K) (ps : List (K × D)) → is_before cmp g.before k ≡ false → AllByRecursion (λ p. Below cmp k p.0) ps → AllByRecursion (λ p. IsInGap cmp p.0 g → ⊥) ps
  all_behind k [] n a = tt
  all_behind k (p ∷ ps) n a = (λ i. let never : true ≡ false = sym (test_from_before cmp g.before k (before_low cmp o g.before k p.0 i.1 a.0)) ∙ n in cc, all_behind k ps n a.1)

  all_before : (k : K) (ps : List (K × D)) → is_after cmp g.after k ≡ false → AllByRecursion (λ p. Below cmp p.0 k) ps → AllByRecursion (λ p. IsInGap cmp p.0 g → ⊥) ps
  all_before k [] n a = tt
  all_before k (p ∷ ps) n a = (λ i. let never : true ≡ false = sym (test_from_after cmp g.after k (after_low cmp o g.after p.0 k i.0 a.0)) ∙ n in cc, all_before k ps n a.1)

  opens_itself : Within (pairs filling) → page_over cmp g filling ≡ Some filling
  opens_itself a = let i = node_here (pairs filling) a in rw (test_from_after cmp g.after x i.0, test_from_before cmp g.before x i.1) refl

  mutual
    pub opens : (s : Tree K D) → IsMap cmp (pairs s) → IsPageIn filling s → Within (pairs s) → page_over cmp g s ≡ Some filling
    opens (page m b w) up (inl e) a = subst (λ u. page_over cmp g u ≡ Some filling) e (opens_itself (subst (λ (u : Tree K D). Within (pairs u)) (sym e) a))
    opens (page m b w) up (inr i) a = row_opens (page m b w) w up i a

    row_opens : (s : Tree K D) (w : Row K D) → IsMap cmp (row_pairs w) → IsPageInRow filling w → Within (row_pairs w) → row_over cmp g s w ≡ Some filling
    row_opens s (high q) up i a = held_opens q up i a
    row_opens s (node q k e w) up (inl i) a =
        let low = inside_row (pairs_down (λ p. Below cmp p.0 k)) filling (high q) (map-before cmp (held_pairs q) (k, e) (row_pairs w) up) i in
        let out = apart (λ j. Below cmp j k) k e (held_pairs q) (row_pairs w) (not_low_self cmp o k) a low in
        let here = node_here (row_pairs (node q k e w)) a in
        let behind = test_from_after cmp g.after k (after_low cmp o g.after x k here.0 (each-at (λ p. Below cmp p.0 k) (held_pairs h) (x, d) (row_pairs r) low)) in
        let beyond = not_before cmp k g behind out in
        let rest = (map-rest cmp (held_pairs q) ((k, e) ∷ row_pairs w) up).0 in
        let none = none_within cmp g ((k, e) ∷ row_pairs w) (never_in k out, all_behind k (row_pairs w) beyond rest) in
        rw (behind, beyond)
        (held_opens q (map-first cmp (held_pairs q) ((k, e) ∷ row_pairs w) up) i
        (sym (within-append cmp g (held_pairs q) ((k, e) ∷ row_pairs w) ∙ ap (λ z. pairs_within cmp g (held_pairs q) ++ z) none ∙ append-nil (pairs_within cmp g (held_pairs q))) ∙ a))
    row_opens s (node q k e w) up (inr i) a =
        let rest = map-rest cmp (held_pairs q) ((k, e) ∷ row_pairs w) up in
        let high_up = inside_row (pairs_down (λ p. Below cmp k p.0)) filling w rest.0 i in
        let out = apart (λ j. Below cmp k j) k e (held_pairs q) (row_pairs w) (not_low_self cmp o k) a high_up in
        let here = node_here (row_pairs (node q k e w)) a in
        let before = test_from_before cmp g.before k (before_low cmp o g.before k x here.1 (each-at (λ p. Below cmp k p.0) (held_pairs h) (x, d) (row_pairs r) high_up)) in
        let upto_bound = not_after cmp k g before out in
        let front = held_pairs q ++ ((k, e) ∷ []) in
        let none = none_within cmp g front
        (each-append (λ p. IsInGap cmp p.0 g → ⊥) (held_pairs q) ((k, e) ∷ []) (all_before k (held_pairs q) upto_bound (map-before cmp (held_pairs q) (k, e) (row_pairs w) up)) (never_in k out, tt)) in
        let flat : row_pairs (node q k e w) ≡ front ++ row_pairs w = sym (append_assoc (held_pairs q) ((k, e) ∷ []) (row_pairs w)) in
        rw upto_bound (row_opens s w rest.1 i (ap (λ z. z ++ pairs_within cmp g (row_pairs w)) (sym none) ∙ sym (within-append cmp g front (row_pairs w)) ∙ ap (pairs_within cmp g) (sym flat) ∙ a))

    held_opens : (q : Held K D) → IsMap cmp (held_pairs q) → IsPageInHeld filling q → Within (held_pairs q) → held_over cmp g q ≡ Some filling
    held_opens nothing up i a = absurd i
    held_opens (below u) up i a = opens u up i a

pub filled_opens : {K D : Type 0} (cmp : K → K → Ordering) (o : IsTotalOrder cmp) (g : Gap K) (t s : Tree K D) → IsMap cmp (pairs s) → Fills cmp g t s → page_over cmp g s ≡ Some t
filled_opens cmp o g (page l c (high h)) s up f = absurd f.some
filled_opens cmp o g (page l c (node h x d r)) s up f = opens cmp o g l c h x d r s up f.inside f.all
