-- What the outline of a page that fills a gap says of the map: its items are of the tree, on lower levels, and no key of the gap is without
-- one.
use Rattle.std.proofs.Common.{◌≡◌, ℕ, ◌+◌, Bool, true, false, cond, List, [], ◌∷◌, ◌++◌, Some, None, refl, ap, sym, subst, ◌∙◌, append_assoc, append-nil, arith, ◌⊎◌, inl, inr}
use Rattle.std.proofs.lemmas.List.Elements.{filter-append}
use Rattle.std.specs.List.{AllByRecursion}
use Rattle.std.specs.Cmp.{IsTotalOrder, tied_itself, tied_back}
use Rattle.std.specs.Ordering.{is_eq}
use Rattle.std.specs.declared.cmp.Ordering.{Ordering}
use Rattle.key_order.specs.Order.{AnyByRecursion, Below, Same}
use Rattle.key_order.specs.Map.{IsMap, get, rows_at}
use Rattle.key_order.proofs.Bools.{which, is_equal}
use Rattle.key_order.proofs.Maps.{absent, at_head, past_head}
use Rattle.key_order.proofs.Orders.{up_low, same_down, low_is_up, not_both, not_low_self}
use Rattle.key_order.proofs.ListParts.{each-append, each-at, map-first, map-rest, map-before}
use Rattle.merkle_tree_theory.specs.Canonical.{HasNode, IsCanonical, IsRow, IsGap, IsCanonicalRoot}
use Rattle.merkle_tree_theory.specs.Gap.{Gap, IsInGap, is_after, is_before, pairs_within, part_before, part_behind}
use Rattle.merkle_tree_theory.specs.Lookup.{Fills}
use Rattle.merkle_tree_theory.specs.Outline.{Item, of_node, held_items, row_items, outline_of, whole_item, IsItemOf, HasItemAt}
use Rattle.merkle_tree_theory.specs.Page.{level, pairs, row_pairs, held_pairs}
use Rattle.merkle_tree_theory.specs.Ranges.{IsPageIn, IsPageInRow, IsPageInHeld}
use Rattle.merkle_tree_theory.specs.Stream.{page_digest}
use Rattle.merkle_tree_theory.specs.Tree.{Tree, page, Row, high, node, Held, nothing, below}
use Rattle.merkle_tree_theory.specs.declared.page_format.PageFormat.{PageFormat}
use Rattle.merkle_tree_theory.proofs.InGaps.{each_within, all_within, within_before, within_after, get_within, in_gap-same}
use Rattle.merkle_tree_theory.proofs.Inside.{canonical_down}
use Rattle.merkle_tree_theory.proofs.PagesIn.{itself, page_in, inside}

module _ {K D : Type 0} where
  -- where the pairs of a page stand among those of the tree
  abbrev Context : List (K × D) → List (K × D) → Type 0
  Context ps whole = (pre : List (K × D)) × (post : List (K × D)) × (whole ≡ pre ++ (ps ++ post))

  mutual
    context : (s t : Tree K D) → IsPageIn s t → Context (pairs s) (pairs t)
    context s (page l c r) (inl e) = ([], [], ap (λ (u : Tree K D). pairs u) (sym e) ∙ sym (append-nil (pairs s)))
    context s (page l c r) (inr i) = context_row s r i

    context_row : (s : Tree K D) (r : Row K D) → IsPageInRow s r → Context (pairs s) (row_pairs r)
    context_row s (high h) i = context_held s h i
    context_row s (node h k d r) (inl i) =
        let (pre, post, e) = context_held s h i in (
          pre,
          post ++ ((k, d) ∷ row_pairs r),
          ap (λ w. w ++ ((k, d) ∷ row_pairs r)) e ∙ append_assoc pre (pairs s ++ post) ((k, d) ∷ row_pairs r)
              ∙ ap (λ w. pre ++ w) (append_assoc (pairs s) post ((k, d) ∷ row_pairs r)),
        )
    context_row s (node h k d r) (inr i) =
        let (pre, post, e) = context_row s r i in (
          (held_pairs h ++ ((k, d) ∷ [])) ++ pre,
          post,
          ap (λ w. held_pairs h ++ ((k, d) ∷ w)) e
              ∙ sym (append_assoc (held_pairs h) ((k, d) ∷ []) (pre ++ (pairs s ++ post))) ∙ sym (append_assoc (held_pairs h ++ ((k, d) ∷ [])) pre (pairs s ++ post)),
        )

    context_held : (s : Tree K D) (h : Held K D) → IsPageInHeld s h → Context (pairs s) (held_pairs h)
    context_held s nothing i = absurd i
    context_held s (below t) i = context s t i

module _ {K D : Type 0} (cmp : K → K → Ordering) (o : IsTotalOrder cmp) where
  -- what is found after other pairs of a map is found in it
  get_behind : (pre ps : List (K × D)) (k : K) (d : D) → IsMap cmp (pre ++ ps) → get cmp ps k ≡ Some d → get cmp (pre ++ ps) k ≡ Some d
  get_behind [] ps k d m e = e
  get_behind (p ∷ pre) ps k d m e = go (which (is_eq (cmp p.0 k))) (get_behind pre ps k d m.1 e)
    where
      go : (is_eq (cmp p.0 k) ≡ false) ⊎ (is_eq (cmp p.0 k) ≡ true) → get cmp (pre ++ ps) k ≡ Some d → get cmp (p ∷ (pre ++ ps)) k ≡ Some d
      go (inl n) f = rw n f
      go (inr n) f =
          let none = absent cmp o (pre ++ ps) k (low_all (pre ++ ps) m.0) in
          let never : None ≡ Some d = sym none ∙ f in
          absurd (cc)
        where
          low_all : (qs : List (K × D)) → AllByRecursion (λ s. Below cmp p.0 s.0) qs → AllByRecursion (λ s. Below cmp k s.0) qs
          low_all [] a = tt
          low_all (q ∷ qs) a = (up_low cmp o k p.0 q.0 (same_down cmp o p.0 k (is_equal (cmp p.0 k) n)) a.0, low_all qs a.1)

  get_before : (ps post : List (K × D)) (k : K) (d : D) → get cmp ps k ≡ Some d → get cmp (ps ++ post) k ≡ Some d
  get_before [] post k d e = absurd (cc)
  get_before (p ∷ ps) post k d e = go (is_eq (cmp p.0 k)) (get_before ps post k d) e
    where
      go : (b : Bool) → (get cmp ps k ≡ Some d → get cmp (ps ++ post) k ≡ Some d) → cond b (Some p.1) (get cmp ps k) ≡ Some d → cond b (Some p.1) (get cmp (ps ++ post) k) ≡ Some d
      go true f e = e
      go false f e = f e

  -- what is found in joined lists is found in one of them
  found_in : (ps : List (K × D)) (q : K × D) (qs : List (K × D)) (k : K) (d : D) → get cmp (ps ++ q ∷ qs) k ≡ Some d → (get cmp ps k ≡ Some d) ⊎ ((is_eq (cmp q.0 k) ≡ true) ⊎ (get cmp qs k ≡ Some d))
  found_in [] q qs k d e = go (which (is_eq (cmp q.0 k)))
    where
      go : (is_eq (cmp q.0 k) ≡ false) ⊎ (is_eq (cmp q.0 k) ≡ true) → (get cmp [] k ≡ Some d) ⊎ ((is_eq (cmp q.0 k) ≡ true) ⊎ (get cmp qs k ≡ Some d))
      go (inl n) = inr (inr (sym (past_head cmp o q qs k n) ∙ e))
      go (inr n) = inr (inl n)
  found_in (p ∷ ps) q qs k d e = go (is_eq (cmp p.0 k)) (found_in ps q qs k d) e
    where
      go : (b : Bool) → (get cmp (ps ++ q ∷ qs) k ≡ Some d → (get cmp ps k ≡ Some d) ⊎ ((is_eq (cmp q.0 k) ≡ true) ⊎ (get cmp qs k ≡ Some d))) → cond b (Some p.1) (get cmp (ps ++ q ∷ qs) k) ≡ Some d
          → (cond b (Some p.1) (get cmp ps k) ≡ Some d) ⊎ ((is_eq (cmp q.0 k) ≡ true) ⊎ (get cmp qs k ≡ Some d))
      go true f e = inl e
      go false f e = f e

  -- what holds of each key, and of equal keys alike, holds of a key that is found
  found_with : (P : K → Type 0) → ((j k : K) → Same cmp j k → P j → P k) → (ps : List (K × D)) (k : K) (d : D) → AllByRecursion (λ p. P p.0) ps → get cmp ps k ≡ Some d → P k
  found_with P resp [] k d a e = absurd (cc)
  found_with P resp (p ∷ ps) k d a e = go (which (is_eq (cmp p.0 k))) (found_with P resp ps k d a.1)
    where
      go : (is_eq (cmp p.0 k) ≡ false) ⊎ (is_eq (cmp p.0 k) ≡ true) → (get cmp ps k ≡ Some d → P k) → P k
      go (inl n) f = f (sym (past_head cmp o p ps k n) ∙ e)
      go (inr n) f = resp p.0 k (is_equal (cmp p.0 k) n) a.0

  -- a page of a map is one, and what is found in it is found in the map
  pub inside_map : (s t : Tree K D) → IsPageIn s t → IsMap cmp (pairs t) → IsMap cmp (pairs s)
  inside_map s t i m = let (pre, post, e) = context s t i in map-first cmp (pairs s) post (map-rest cmp pre (pairs s ++ post) (subst (IsMap cmp) e m))

  pub get_inside : (s t : Tree K D) (k : K) (d : D) → IsPageIn s t → IsMap cmp (pairs t) → get cmp (pairs s) k ≡ Some d → get cmp (pairs t) k ≡ Some d
  get_inside s t k d i m e =
      let (pre, post, c) = context s t i in
      ap (λ w. get cmp w k) c ∙ get_behind pre (pairs s ++ post) k d (subst (IsMap cmp) c m) (get_before (pairs s) post k d e)

module _ {K D : Type 0} (lev : K → ℕ) where
  pub page_canonical : (s t : Tree K D) → IsCanonicalRoot lev t → IsPageIn s t → HasNode s → IsCanonical lev s
  page_canonical s (page l c (high nothing)) g (inl e) n = absurd (subst (λ (u : Tree K D). HasNode u) e n)
  page_canonical s (page l c (high nothing)) g (inr i) n = absurd i
  page_canonical s (page l c (high (below t))) g i n = absurd g
  page_canonical s (page l c (node h k d r)) g i n = (inside (canonical_down lev) s (page l c (node h k d r)) (tt, g) i).1

-- a test that all pairs pass, or none
all_pass : {K X : Type 0} (test : K → Bool) (ps : List (K × X)) → AllByRecursion (λ p. test p.0 ≡ true) ps → rows_at test ps ≡ ps
all_pass test [] a = refl
all_pass test (p ∷ ps) a = rw a.0 (ap (λ qs. p ∷ qs) (all_pass test ps a.1))

none_pass : {K X : Type 0} (test : K → Bool) (ps : List (K × X)) → AllByRecursion (λ p. test p.0 ≡ false) ps → rows_at test ps ≡ []
none_pass test [] a = refl
none_pass test (p ∷ ps) a = rw a.0 (none_pass test ps a.1)

low_self : {K : Type 0} (cmp : K → K → Ordering) (o : IsTotalOrder cmp) (k : K) → Below cmp k k → ⊥
low_self cmp o k l = not_low_self cmp o k l

-- what the map has in a gap, the page that fills it has
pub get_filling : {K D : Type 0} (cmp : K → K → Ordering) (o : IsTotalOrder cmp) (root t : Tree K D) (g : Gap K) (k : K) (d : D) → Fills cmp g t root
    → IsInGap cmp k g → get cmp (pairs root) k ≡ Some d → get cmp (pairs t) k ≡ Some d
get_filling cmp o root t g k d f i e = ap (λ w. get cmp w k) (sym f.all) ∙ get_within cmp o g (pairs root) k d i e

module _ {K : Type 0} (cmp : K → K → Ordering) (o : IsTotalOrder cmp) (format : PageFormat) (bytes_of : K → List ℕ) (root : Tree K (List ℕ)) (m : IsMap cmp (pairs root)) where
  abbrev Valid : ℕ → List (Item K (List ℕ)) → Type 0
  Valid n = AllByRecursion (IsItemOf format bytes_of cmp root n)

  abbrev items_in : Gap K → Row K (List ℕ) → List (Item K (List ℕ))
  items_in = row_items (λ t. Some (page_digest format bytes_of t))

  -- the pairs of a row, or of what stands before its first node, are all that the tree has in a gap
  abbrev pub AreAll : Gap K → List (K × List ℕ) → Type 0
  AreAll g ps = pairs_within cmp g (pairs root) ≡ ps

  module _ (g : Gap K) (h : Held K (List ℕ)) (k : K) (d : List ℕ) (r : Row K (List ℕ)) (all : AreAll g (row_pairs (node h k d r))) (up : IsMap cmp (row_pairs (node h k d r))) where
    rest_up : IsMap cmp ((k, d) ∷ row_pairs r)
    rest_up = map-rest cmp (held_pairs h) ((k, d) ∷ row_pairs r) up

    key_in : IsInGap cmp k g
    key_in = each-at (λ (p : K × List ℕ). IsInGap cmp p.0 g) (held_pairs h) (k, d) (row_pairs r) (subst (AllByRecursion (λ (p : K × List ℕ). IsInGap cmp p.0 g)) all (each_within cmp g (pairs root)))

    pub held_all : AreAll (part_before g k) (held_pairs h)
    held_all =
        within_before cmp o g k key_in (pairs root) ∙ ap (rows_at (is_before cmp (Some k))) all ∙ filter-append (λ (p : K × List ℕ). is_before cmp (Some k) p.0) (held_pairs h) ((k, d) ∷ row_pairs r)
        ∙ ap (λ w. w ++ rows_at (is_before cmp (Some k)) ((k, d) ∷ row_pairs r)) (all_pass (is_before cmp (Some k)) (held_pairs h) (map-before cmp (held_pairs h) (k, d) (row_pairs r) up))
        ∙ ap (λ w. held_pairs h ++ w) (none_pass (is_before cmp (Some k)) ((k, d) ∷ row_pairs r) (not_less (low_self cmp o k), all_not (row_pairs r) rest_up.0)) ∙ append-nil (held_pairs h)
      where
        not_less : {b : Bool} → (b ≡ true → ⊥) → b ≡ false
        not_less {b = true} f = absurd (f refl)
        not_less {b = false} f = refl

        all_not : (ps : List (K × List ℕ)) → AllByRecursion (λ p. Below cmp k p.0) ps → AllByRecursion (λ p. is_before cmp (Some k) p.0 ≡ false) ps
        all_not [] a = tt
        all_not (p ∷ ps) a = (not_less (λ low. not_both cmp o k p.0 (low_is_up cmp o k p.0 a.0) low), all_not ps a.1)

    pub rest_all : AreAll (part_behind g k) (row_pairs r)
    rest_all =
        within_after cmp o g k key_in (pairs root) ∙ ap (rows_at (is_after cmp (Some k))) all ∙ filter-append (λ (p : K × List ℕ). is_after cmp (Some k) p.0) (held_pairs h) ((k, d) ∷ row_pairs r)
        ∙ ap (λ w. w ++ rows_at (is_after cmp (Some k)) ((k, d) ∷ row_pairs r))
        (none_pass (is_after cmp (Some k)) (held_pairs h) (all_not (held_pairs h) (map-before cmp (held_pairs h) (k, d) (row_pairs r) up)))
        ∙ rw (not_less (low_self cmp o k)) (all_pass (is_after cmp (Some k)) (row_pairs r) rest_up.0)
      where
        not_less : {b : Bool} → (b ≡ true → ⊥) → b ≡ false
        not_less {b = true} f = absurd (f refl)
        not_less {b = false} f = refl

        all_not : (ps : List (K × List ℕ)) → AllByRecursion (λ p. Below cmp p.0 k) ps → AllByRecursion (λ p. is_after cmp (Some k) p.0 ≡ false) ps
        all_not [] a = tt
        all_not (p ∷ ps) a = (not_less (λ low. not_both cmp o p.0 k (low_is_up cmp o p.0 k a.0) low), all_not ps a.1)

  module _ (lev : K → ℕ) where
    held_valid : (g : Gap K) (l : ℕ) (h : Held K (List ℕ)) → IsGap lev l h → AreAll g (held_pairs h)
        → ((s : Tree K (List ℕ)) → IsPageInHeld s h → IsPageIn s root) → Valid l (held_items (λ t. Some (page_digest format bytes_of t)) g h)
    held_valid g l nothing c all i = tt
    held_valid g l (below t) c all i = ((t, record { inside = i t (itself t); some = c.1; all = all }, c.0, refl), tt)

    -- the nodes of a row have what the map has, and its pages fill their gaps
    row_valid : (g : Gap K) (l : ℕ) (r : Row K (List ℕ)) → IsRow lev l r → AreAll g (row_pairs r) → IsMap cmp (row_pairs r) → ((s : Tree K (List ℕ)) → IsPageInRow s r → IsPageIn s root)
        → ((k : K) (d : List ℕ) → get cmp (row_pairs r) k ≡ Some d → get cmp (pairs root) k ≡ Some d) → Valid l (items_in g r)
    row_valid g l (high h) c all a i f = held_valid g l h c all i
    row_valid g l (node h k d r) c all a i f =
        let rest = map-rest cmp (held_pairs h) ((k, d) ∷ row_pairs r) a in
        each-append (IsItemOf format bytes_of cmp root l) (held_items (λ t. Some (page_digest format bytes_of t)) (part_before g k) h) (of_node k d ∷ items_in (part_behind g k) r)
        (held_valid (part_before g k) l h c.0 (held_all g h k d r all a) (λ s j. i s (inl j))) (
          f k d (get_behind cmp o (held_pairs h) ((k, d) ∷ row_pairs r) k d a (at_head cmp o (k, d) (row_pairs r) k (tied_itself o k))),
          row_valid (part_behind g k) l r c.2 (rest_all g h k d r all a) rest.1 (λ s j. i s (inr j))
              (λ j e q. f j e (get_behind cmp o (held_pairs h) ((k, d) ∷ row_pairs r) j e a (get_behind cmp o ((k, d) ∷ []) (row_pairs r) j e rest q))),
        )

  any_append : (P : Item K (List ℕ) → Type 0) (xs ys : List (Item K (List ℕ))) → AnyByRecursion P xs ⊎ AnyByRecursion P ys → AnyByRecursion P (xs ++ ys)
  any_append P [] ys (inl a) = absurd a
  any_append P [] ys (inr a) = a
  any_append P (x ∷ xs) ys (inl (inl a)) = inl a
  any_append P (x ∷ xs) ys (inl (inr a)) = inr (any_append P xs ys (inl a))
  any_append P (x ∷ xs) ys (inr a) = inr (any_append P xs ys (inr a))

  -- each key of a row is in an item of it
  held_at : (g : Gap K) (h : Held K (List ℕ)) (k : K) (d : List ℕ) → AreAll g (held_pairs h) → get cmp (held_pairs h) k ≡ Some d
      → AnyByRecursion (HasItemAt cmp k) (held_items (λ t. Some (page_digest format bytes_of t)) g h)
  held_at g nothing k d all e = absurd (cc)
  held_at g (below t) k d all e =
      inl (found_with cmp o (λ j. IsInGap cmp j g) (λ i j s q. in_gap-same cmp o g i j s q) (pairs t) k d (subst (AllByRecursion (λ p. IsInGap cmp p.0 g)) all (each_within cmp g (pairs root))) e)

  row_at : (g : Gap K) (r : Row K (List ℕ)) (k : K) (d : List ℕ) → AreAll g (row_pairs r) → IsMap cmp (row_pairs r) → get cmp (row_pairs r) k ≡ Some d → AnyByRecursion (HasItemAt cmp k) (items_in g r)
  row_at g (high h) k d all a e = held_at g h k d all e
  row_at g (node h x c r) k d all a e =
      let first = part_before g x in
      let rest = part_behind g x in
      let front = held_items (λ t. Some (page_digest format bytes_of t)) first h in
      let behind = of_node x c ∷ items_in rest r in
      go (found_in cmp o (held_pairs h) (x, c) (row_pairs r) k d e) (λ q. any_append (HasItemAt cmp k) front behind (inl (held_at first h k d (held_all g h x c r all a) q)))
      (λ q. any_append (HasItemAt cmp k) front behind (inr (inr (row_at rest r k d (rest_all g h x c r all a) (map-rest cmp (held_pairs h) ((x, c) ∷ row_pairs r) a).1 q))))
      (λ q. any_append (HasItemAt cmp k) front behind (inr (inl (tied_back o x k (is_equal (cmp x k) q)))))
    where
      go : {Q : Type 0} → (get cmp (held_pairs h) k ≡ Some d) ⊎ ((is_eq (cmp x k) ≡ true) ⊎ (get cmp (row_pairs r) k ≡ Some d))
          → (get cmp (held_pairs h) k ≡ Some d → Q) → (get cmp (row_pairs r) k ≡ Some d → Q) → (is_eq (cmp x k) ≡ true → Q) → Q
      go (inl q) f g n = f q
      go (inr (inl q)) f g n = n q
      go (inr (inr q)) f g n = g q

  -- the items of the outline of a page that fills a gap are of the tree, on lower levels, and each key of the gap is in one of them
  pub outline_down : (lev : K → ℕ) → IsCanonicalRoot lev root → (t : Tree K (List ℕ)) (g : Gap K) → Fills cmp g t root
      → Valid (level t) (outline_of format bytes_of g t)
      × ((k : K) (d : List ℕ) → get cmp (pairs root) k ≡ Some d → IsInGap cmp k g → AnyByRecursion (HasItemAt cmp k) (outline_of format bytes_of g t))
  outline_down lev canonical (page l c r) g f =
      let t = page l c r in
      let up = inside_map cmp o t root f.inside m in (
        row_valid lev g l r (page_canonical lev t root canonical f.inside f.some) f.all up (λ s j. page_in s t root (inr j) f.inside) (λ k d e. get_inside cmp o t root k d f.inside m e),
        λ k d e i. row_at g r k d f.all up (get_filling cmp o root t g k d f i e),
      )

  -- the whole tree as an item is of the tree, and each key is in it
  pub whole_down : (lev : K → ℕ) → IsCanonicalRoot lev root
      → Valid (level root + 1) (whole_item format bytes_of root) × ((k : K) (d : List ℕ) → get cmp (pairs root) k ≡ Some d → AnyByRecursion (HasItemAt cmp k) (whole_item format bytes_of root))
  whole_down lev canonical = by root canonical
    where
      by : (t : Tree K (List ℕ)) → IsCanonicalRoot lev t → AllByRecursion (IsItemOf format bytes_of cmp t (level t + 1)) (whole_item format bytes_of t)
          × ((k : K) (d : List ℕ) → get cmp (pairs t) k ≡ Some d → AnyByRecursion (HasItemAt cmp k) (whole_item format bytes_of t))
      by (page l c (high nothing)) g = (tt, λ k d e. absurd (cc))
      by (page l c (high (below t))) g = absurd g
      by (page l c (node h k d r)) g =
          let t = page l c (node h k d r) in
          (((t, record { inside = itself t; some = tt; all = all_within cmp (pairs t) }, omega arith, refl), tt), λ j e q. inl (tt, tt))
