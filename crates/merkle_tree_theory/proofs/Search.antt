-- The place of a key among ascending nodes, and how a search by halving comes to it.
use Rattle.std.proofs.Common.{◌≡◌, ◌≢◌, ℕ, zero, suc, ◌+◌, ◌-◌, ◌/◌, ◌^◌, ◌<◌, ◌≤◌, List, [], ◌∷◌, ◌++◌, length, get_or, take, drop, ◌⊎◌, inl, inr, Bool, true, false, if◌then◌else◌, Option, ap, sym, subst, ◌∙◌, arith}
use Rattle.std.proofs.Math.Seq.{drop-nil, drop-cons, take-add, take-length}
use Rattle.std.proofs.lemmas.List.{get_or-drop, length-drop, length-take-le}
use Rattle.std.proofs.Math.Nat.{pow-succ'}
use Rattle.std.specs.List.{AllByRecursion}
use Rattle.std.specs.declared.cmp.Ordering.{Ordering}
use Rattle.std.specs.declared.cmp.Ordering.TheVariants.{Less, Equal, Greater}
use Rattle.std.specs.Ordering.{is_gt, is_eq}
use Rattle.std.specs.Cmp.{IsTotalOrder}
use Rattle.key_order.specs.Order.{Below}
use Rattle.key_order.specs.Map.{IsMap}
use Rattle.key_order.proofs.Orders.{turned, low_low, low_up, same_down}
use Rattle.key_order.proofs.ListParts.{each-behind, map-first, map-rest}
use Rattle.key_order.proofs.Bools.{is_equal}
use Rattle.merkle_tree_theory.specs.Tree.{Tree, page, Row, high, node, Node, Held, row}
use Rattle.merkle_tree_theory.specs.Page.{pairs, row_pairs, held_pairs, row_nodes, nodes_of}
use Rattle.merkle_tree_theory.specs.Search.{NodesAscend, ComparesByHalves}
use Rattle.merkle_tree_theory.specs.Upsert.{place}

all_at : {X : Type 0} (P : X → Type 0) (xs : List X) (i : ℕ) (x : X) → AllByRecursion P xs → i < length xs → P (get_or xs i x)
all_at P [] i x a r = absurd (omega arith)
all_at P (y ∷ ys) zero x a r = a.0
all_at P (y ∷ ys) (suc i) x a r = all_at P ys i x a.1 (omega arith)

module _ {K D : Type 0} (P : K → Type 0) where
  all_nodes : (es : List (Node K D)) (h : Held K D) → AllByRecursion (λ p. P p.0) (row_pairs (row es h)) → AllByRecursion (λ (e : Node K D). P e.key) es
  all_nodes [] h a = tt
  all_nodes (e ∷ es) h a = let b = each-behind (λ p. P p.0) (held_pairs e.lt) ((e.key, e.digest) ∷ row_pairs (row es h)) a in (b.0, all_nodes es h b.1)

module _ {K D : Type 0} (cmp : K → K → Ordering) where
  -- the nodes of a row whose keys ascend
  pub row-ascends : (es : List (Node K D)) (h : Held K D) → IsMap cmp (row_pairs (row es h)) → NodesAscend cmp es
  row-ascends [] h a = tt
  row-ascends (e ∷ es) h a =
      let b = map-rest cmp (held_pairs e.lt) ((e.key, e.digest) ∷ row_pairs (row es h)) a in (all_nodes (λ k. Below cmp e.key k) es h b.0, row-ascends es h b.1)

  -- what stands in a gap of a map is one
  pub gap-map : (es : List (Node K D)) (h : Held K D) (i : ℕ) (x : Node K D) → IsMap cmp (row_pairs (row es h)) → i < length es → IsMap cmp (held_pairs (get_or es i x).lt)
  gap-map [] h i x a r = absurd (omega arith)
  gap-map (e ∷ es) h zero x a r = map-first cmp (held_pairs e.lt) ((e.key, e.digest) ∷ row_pairs (row es h)) a
  gap-map (e ∷ es) h (suc i) x a r = gap-map es h i x (map-rest cmp (held_pairs e.lt) ((e.key, e.digest) ∷ row_pairs (row es h)) a).1 (omega arith)

  pub high-map : (es : List (Node K D)) (h : Held K D) → IsMap cmp (row_pairs (row es h)) → IsMap cmp (held_pairs h)
  high-map [] h a = a
  high-map (e ∷ es) h a = high-map es h (map-rest cmp (held_pairs e.lt) ((e.key, e.digest) ∷ row_pairs (row es h)) a).1

  -- the same of a page that is a map
  module _ {l : ℕ} {c : Option (List ℕ)} {t : Tree K D} (es : List (Node K D)) (h : Held K D) (is : page l c (row es h) ≡ t) (a : IsMap cmp (pairs t)) where
    row-map : IsMap cmp (row_pairs (row es h))
    row-map = subst (λ (p : Tree K D). IsMap cmp (pairs p)) (sym is) a

    pub page_nodes-ascend : {ys : List (Node K D)} → ys ≡ es → NodesAscend cmp ys
    page_nodes-ascend lent = subst (NodesAscend cmp) (sym lent) (row-ascends es h row-map)

    pub page_high-map : IsMap cmp (held_pairs h)
    page_high-map = high-map es h row-map

    pub page_gap-map : (i : ℕ) (x : Node K D) {e : Node K D} → e ≡ get_or es i x → i < length es → IsMap cmp (held_pairs e.lt)
    page_gap-map i x at within = subst (λ (e : Node K D). IsMap cmp (held_pairs e.lt)) (sym at) (gap-map es h i x row-map within)

module _ {K D : Type 0} (cmp : K → K → Ordering) (k : K) where
  pub place-within : (es : List (Node K D)) → place cmp k es ≤ length es
  place-within [] = omega arith
  place-within (e ∷ es) = by (is_gt (cmp k e.key)) (place-within es)
    where
      by : (b : Bool) → place cmp k es ≤ length es → (if b then (suc (place cmp k es)) else 0) ≤ length (e ∷ es)
      by true p = omega (arith, p)
      by false p = omega arith

  -- a node that is not below the key is at its place or after it
  pub place-upto : (es : List (Node K D)) (i : ℕ) (x : Node K D) → i < length es → is_gt (cmp k (get_or es i x).key) ≡ false → place cmp k es ≤ i
  place-upto [] i x r q = absurd (omega arith)
  place-upto (e ∷ es) zero x r q = let p = ap (λ b. if b then (suc (place cmp k es)) else 0) q in omega (arith, p)
  place-upto (e ∷ es) (suc i) x r q = by (is_gt (cmp k e.key)) (place-upto es i x (omega arith) q)
    where
      by : (b : Bool) → place cmp k es ≤ i → (if b then (suc (place cmp k es)) else 0) ≤ suc i
      by true p = omega (arith, p)
      by false p = omega arith

  -- a node below the key is before its place
  pub place-above : IsTotalOrder cmp → (es : List (Node K D)) (i : ℕ) (x : Node K D) → NodesAscend cmp es → i < length es → is_gt (cmp k (get_or es i x).key) ≡ true → i < place cmp k es
  place-above o [] i x a r q = absurd (omega arith)
  place-above o (e ∷ es) zero x a r q = let p = ap (λ b. if b then (suc (place cmp k es)) else 0) q in omega (arith, p)
  place-above o (e ∷ es) (suc i) x a r q =
      let f = get_or es i x in
      let low = low_low cmp o e.key f.key k (all_at (λ (n : Node K D). Below cmp e.key n.key) es i x a.0 (omega arith)) (turned cmp o k f.key ∙ q) in
      let p = ap (λ b. if b then (suc (place cmp k es)) else 0) (sym (turned cmp o k e.key) ∙ low) in
      omega (arith, p, place-above o es i x a.1 (omega arith) q)

pub not_there : (r : Ordering) → is_eq r ≡ false → r ≢ Equal
not_there r e f = let g = sym e ∙ ap is_eq f in cc

-- what a search tells of a page's nodes, which it was lent as a slice: it ended after them all, or at a node, whose key it is or not
module _ {K D : Type 0} {ys es : List (Node K D)} where
  pub all_below : (cmp : K → K → Ordering) (k : K) {i n m : ℕ} → i ≡ place cmp k ys → ys ≡ es → i ≡ n → n ≡ m → m ≡ length es → place cmp k es ≡ length es
  all_below cmp k found lent end len ok = omega (arith, found ∙ ap (place cmp k) lent)

  pub one_at : {i n m : ℕ} → i ≤ length ys → ys ≡ es → i ≢ n → n ≡ m → m ≡ length es → i < length es
  one_at within lent end len ok = omega (arith, ap length lent)

  module _ (cmp : K → K → Ordering) (k : K) (i : ℕ) {b : Bool} (there : (x : Node K D) → i < length ys → b ≡ is_eq (cmp k (get_or ys i x).key)) (lent : ys ≡ es) where
    there_at : (x : Node K D) → i < length es → b ≡ is_eq (cmp k (get_or es i x).key)
    there_at = subst (λ zs. (x : Node K D) → i < length zs → b ≡ is_eq (cmp k (get_or zs i x).key)) lent there

    pub key_there : b ≡ true → (x : Node K D) → i < length es → cmp k (get_or es i x).key ≡ Equal
    key_there t x r = is_equal _ (sym (there_at x r) ∙ t)

    pub key_elsewhere : b ≡ false → (x : Node K D) → i < length es → cmp k (get_or es i x).key ≢ Equal
    key_elsewhere f x r = not_there _ (sym (there_at x r) ∙ f)

module _ {K D : Type 0} (cmp : K → K → Ordering) (k : K) where
  -- the place of a node with the key
  pub place-equal : IsTotalOrder cmp → (es : List (Node K D)) (i : ℕ) (x : Node K D) → NodesAscend cmp es → i < length es → cmp k (get_or es i x).key ≡ Equal → i ≤ place cmp k es
  place-equal o [] i x a r q = absurd (omega arith)
  place-equal o (e ∷ es) zero x a r q = omega arith
  place-equal o (e ∷ es) (suc i) x a r q =
      let f = get_or es i x in
      let low = low_up cmp o e.key f.key k (all_at (λ (n : Node K D). Below cmp e.key n.key) es i x a.0 (omega arith)) (same_down cmp o k f.key q) in
      let p = ap (λ b. if b then (suc (place cmp k es)) else 0) (sym (turned cmp o k e.key) ∙ low) in
      omega (arith, p, place-equal o es i x a.1 (omega arith) q)

-- a half of fewer than 2 ^ m
pub halved : (size rest m : ℕ) → 0 < size → size < 2 ^ m → rest ≤ size / 2 → (0 < m) × (rest < 2 ^ (m - 1))
halved size rest zero z r h = absurd (omega arith)
halved size rest (suc m) z r h =
    let p = pow-succ' 2 m in
    let e : suc m - 1 ≡ m = omega arith in
    (omega arith, subst (λ n. rest < 2 ^ n) (sym e) (omega (arith, p)))

-- the count of halvings and the size that is left, after one more
pub halved_more : (size rest count m : ℕ) → 0 < size → (count ≤ m) × (size < 2 ^ (m - count)) → rest ≤ size / 2 → (count + 1 ≤ m) × (rest < 2 ^ (m - (count + 1)))
halved_more size rest count m z h r =
    let p = halved size rest (m - count) z h.1 r in
    let e : m - count - 1 ≡ m - (count + 1) = omega arith in
    (omega (arith, p.0, h.0), subst (λ n. rest < 2 ^ n) e p.1)

module _ {K D : Type 0} (cmp : K → K → Ordering) where
  all_row_nodes : (P : K → Type 0) (r : Row K D) → AllByRecursion (λ p. P p.0) (row_pairs r) → AllByRecursion (λ (e : Node K D). P e.key) (row_nodes r)
  all_row_nodes P (high h) a = tt
  all_row_nodes P (node h k d r) a = let b = each-behind (λ p. P p.0) (held_pairs h) ((k, d) ∷ row_pairs r) a in (b.0, all_row_nodes P r b.1)

  nodes-ascend : (r : Row K D) → IsMap cmp (row_pairs r) → NodesAscend cmp (row_nodes r)
  nodes-ascend (high h) a = tt
  nodes-ascend (node h k d r) a = let b = map-rest cmp (held_pairs h) ((k, d) ∷ row_pairs r) a in (all_row_nodes (λ x. Below cmp k x) r b.0, nodes-ascend r b.1)

  -- the nodes of a page whose keys ascend
  pub page-ascends : (t : Tree K D) → IsMap cmp (pairs t) → NodesAscend cmp (nodes_of t)
  page-ascends (page l c r) a = nodes-ascend r a

-- a search by halving, from one place to another
module _ {X : Type 0} where
  -- the elements from one place to another
  abbrev pub between : ℕ → ℕ → List X → List X
  between low top xs = take (top - low) (drop low xs)

  parted : (a b : ℕ) (xs : List X) (x : X) → a < length xs → take (a + suc b) xs ≡ take a xs ++ get_or xs a x ∷ take b (drop (suc a) xs)
  parted a b xs x within = take-add a (suc b) xs ∙ ap (λ ys. take a xs ++ take (suc b) ys) (drop-cons xs a x within)

  drop_on : (n m : ℕ) (xs : List X) → drop m (drop n xs) ≡ drop (n + m) xs
  drop_on zero m xs = let e : m ≡ 0 + m = omega arith in ap (λ k. drop k xs) e
  drop_on (suc n) m [] = drop-nil m ∙ sym (drop-nil (suc n + m))
  drop_on (suc n) m (x ∷ xs) = let e : suc (n + m) ≡ suc n + m = omega arith in drop_on n m xs ∙ ap (λ k. drop k (x ∷ xs)) e

  -- what is between two places, around a place between them
  between-parted : (low half top : ℕ) (xs : List X) (x : X) → low + half < top → top ≤ length xs
      → between low top xs ≡ between low (low + half) xs ++ get_or xs (low + half) x ∷ between (low + half + 1) top xs
  between-parted low half top xs x lower within =
      let rest = top - (low + half + 1) in
      let all : top - low ≡ half + suc rest = omega (arith, lower) in
      let first : low + half - low ≡ half = omega arith in
      let inside : half < length (drop low xs) = omega (arith, length-drop low xs, lower, within) in
      let last : low + suc half ≡ low + half + 1 = omega arith in
      ap (λ n. take n (drop low xs)) all ∙ parted half rest (drop low xs) x inside
      ∙ ap (λ ys. ys ++ get_or (drop low xs) half x ∷ take rest (drop (suc half) (drop low xs))) (ap (λ n. take n (drop low xs)) (sym first))
      ∙ ap (λ y. between low (low + half) xs ++ y ∷ take rest (drop (suc half) (drop low xs))) (get_or-drop low xs half x)
      ∙ ap (λ ys. between low (low + half) xs ++ get_or xs (low + half) x ∷ take rest ys) (drop_on low (suc half) xs ∙ ap (λ n. drop n xs) last)

  between-length : (low top : ℕ) (xs : List X) → top ≤ length xs → length (between low top xs) ≡ top - low
  between-length low top xs within = length-take-le (top - low) (drop low xs) (omega (arith, length-drop low xs, within))

  pub between-all : (xs : List X) → between 0 (length xs) xs ≡ xs
  between-all xs = let all : length xs - 0 ≡ length xs = omega arith in ap (λ n. take n xs) all ∙ take-length xs

  pub between-none : (low top : ℕ) (xs : List X) → low ≡ top → between low top xs ≡ []
  between-none low top xs e = let none : top - low ≡ 0 = omega (arith, e) in ap (λ n. take n (drop low xs)) none

module _ {K D : Type 0} (cmp : K → K → Ordering) (k : K) (es : List (Node K D)) where
  -- one comparison more, with the node in the middle
  one_more : (low top n : ℕ) (e : Node K D) → low < top → top ≤ length es → e ≡ get_or es (low + (top - low) / 2) e
      → ((cmp k e.key ≡ Less) × ComparesByHalves cmp k n (between low (low + (top - low) / 2) es))
      ⊎ (((cmp k e.key ≡ Equal) × (n ≡ 0)) ⊎ ((cmp k e.key ≡ Greater) × ComparesByHalves cmp k n (between (low + (top - low) / 2 + 1) top es)))
      → ComparesByHalves cmp k (suc n) (between low top es)
  one_more low top n e lower within is goes =
      let half = (top - low) / 2 in
      let middle = low + half in
      let inside : middle < top = omega (arith, lower) in (
        between low middle es,
        e,
        between (middle + 1) top es,
        between-parted low half top es e inside within ∙ ap (λ f. between low middle es ++ f ∷ between (middle + 1) top es) (sym is),
        between-length low middle es (omega (arith, inside, within)) ∙ (omega arith) ∙ ap (λ m. m / 2) (sym (between-length low top es within)),
        goes,
      )

  pub one_less : (low top n : ℕ) (e : Node K D) → low < top → top ≤ length es → e ≡ get_or es (low + (top - low) / 2) e → cmp k e.key ≡ Less
      → ComparesByHalves cmp k n (between low (low + (top - low) / 2) es) → ComparesByHalves cmp k (suc n) (between low top es)
  one_less low top n e lower within is less rest = one_more low top n e lower within is (inl (less, rest))

  pub one_equal : (low top : ℕ) (e : Node K D) → low < top → top ≤ length es → e ≡ get_or es (low + (top - low) / 2) e → cmp k e.key ≡ Equal → ComparesByHalves cmp k 1 (between low top es)
  one_equal low top e lower within is equal = one_more low top 0 e lower within is (inr (inl (equal, λ i. 0)))

  pub one_greater : (low top n : ℕ) (e : Node K D) → low < top → top ≤ length es → e ≡ get_or es (low + (top - low) / 2) e → cmp k e.key ≡ Greater
      → ComparesByHalves cmp k n (between (low + (top - low) / 2 + 1) top es) → ComparesByHalves cmp k (suc n) (between low top es)
  one_greater low top n e lower within is greater rest = one_more low top n e lower within is (inr (inr (greater, rest)))
