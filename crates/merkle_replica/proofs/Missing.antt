-- The pages of a peer that a side hasn't over the same gaps, weighed: a round opens some, and leaves those below them to the next.
use Rattle.std.specs.Prelude.{if◌then◌else◌}
use Rattle.std.proofs.Common.{◌≡◌, ℕ, ◌+◌, ◌≤◌, Bool, true, false, List, [], ◌∷◌, ◌++◌, length, Option, Some, refl, sym, ap, subst, ◌∙◌, append_assoc, append-nil, inl, inr, arith}
use Rattle.std.proofs.lemmas.List.{length-append, length-map}
use Rattle.std.specs.Cmp.{IsTotalOrder}
use Rattle.std.specs.List.{AllByRecursion, flat_map}
use Rattle.std.specs.declared.cmp.Ordering.{Ordering}
use Rattle.key_order.specs.Map.{IsMap, SameMap}
use Rattle.key_order.proofs.ListParts.{map-rest}
use Rattle.key_order.proofs.SameRows.{same_rows-length}
use Rattle.merkle_search_tree.proofs.SameItems.{page_over-alike, same_gap-own}
use Rattle.merkle_tree_theory.specs.Canonical.{HasNode, IsCanonicalRoot, IsRow, SameHeld, SamePages, SameRow}
use Rattle.merkle_tree_theory.specs.Gap.{Gap, SameGap, everywhere, pairs_within, part_before, part_behind}
use Rattle.merkle_tree_theory.specs.Lookup.{Fills, page_over}
use Rattle.merkle_tree_theory.specs.Outline.{Item, of_node, of_page, outline_over, outline_where, row_items, whole_item}
use Rattle.merkle_tree_theory.specs.Page.{held_pairs, nodes_of, pairs, row_nodes, row_pairs}
use Rattle.merkle_tree_theory.specs.Ranges.{IsPageIn, IsPageInRow}
use Rattle.merkle_tree_theory.specs.Stream.{page_digest}
use Rattle.merkle_tree_theory.specs.Tree.{Tree, page, Row, high, node, Held, nothing, below}
use Rattle.merkle_tree_theory.specs.declared.page_format.PageFormat.{PageFormat}
use Rattle.merkle_tree_theory.proofs.InGaps.{all_within}
use Rattle.merkle_tree_theory.proofs.OutlineDescents.{held_all, inside_map, page_canonical, rest_all}
use Rattle.merkle_tree_theory.proofs.PageOverGap.{filled_opens}
use Rattle.merkle_tree_theory.proofs.PagesIn.{itself, page_in}
use Rattle.merkle_search_tree.specs.WhereHashed.{is_page_with}
use Rattle.merkle_replica.specs.Contents.{Contents, Side, side, tree_map}
use Rattle.merkle_replica.specs.Descent.{AreSortedOut, IsSortedOut, node_count}
use Rattle.merkle_replica.specs.Laws.{Laws}
use Rattle.merkle_replica.specs.Missing.{has_page_over, missing_in_held, missing_in_row, missing_of_tree, missing_pages, own_tree}
use Rattle.merkle_replica.proofs.RoundStates.{AreCounted, IsPageGap, lacking, over, total, weight_found}

module _ {X : Type 0} (w : X → ℕ) where
  pub total-append : (xs ys : List X) → total w (xs ++ ys) ≡ total w xs + total w ys
  total-append [] ys = omega arith
  total-append (x ∷ xs) ys = omega (arith, total-append xs ys)

pub total_ones : {X : Type 0} (xs : List X) → total (λ x. 1) xs ≡ length xs
total_ones [] = refl
total_ones (x ∷ xs) = omega (arith, total_ones xs)

pub total_parts : {X Y : Type 0} (f : X → List Y) (xs : List X) → total (λ x. length (f x)) xs ≡ length (flat_map f xs)
total_parts f [] = refl
total_parts f (x ∷ xs) = omega (arith, total_parts f xs, length-append (f x) (flat_map f xs))

-- nodes of items one after the other
module _ {K D : Type 0} where
  pub count-append : (xs ys : List (Item K D)) → node_count (xs ++ ys) ≡ node_count xs + node_count ys
  count-append [] ys = omega arith
  count-append (of_node k d ∷ xs) ys = omega (arith, count-append xs ys)
  count-append (of_page g digest ∷ xs) ys = count-append xs ys

-- a tree has as many keys as there are rows
pub as_many : {K V H : Type 0} (laws : Laws K V H) (o : IsTotalOrder laws.cmp) (peer : Contents K V H)
    → SameMap laws.cmp (λ d e. d ≡ e) (pairs peer.tree.root) (tree_map laws (side peer)) → length (pairs peer.tree.root) ≡ length peer.rows
as_many laws o peer kept = same_rows-length laws.cmp o (λ d e. d ≡ e) (pairs peer.tree.root) (tree_map laws (side peer)) kept
    ∙ length-map peer.rows (λ r. (r.0, laws.value_digest peer.tree.hasher r.1))

-- the nodes of pages are keys of the map
module _ {K : Type 0} (format : PageFormat) (bytes_of : K → List ℕ) (there : Gap K → List ℕ → Bool) where
  abbrev nodes : List (Tree K (List ℕ)) → ℕ
  nodes = total (λ t. length (nodes_of t))

  mutual
    nodes_in_page : (g : Gap K) (t : Tree K (List ℕ)) → nodes (missing_pages format bytes_of there g t) ≤ length (pairs t)
    nodes_in_page g (page l c r) = nodes_in_row g r

    nodes_in_row : (g : Gap K) (r : Row K (List ℕ)) → length (row_nodes r) + nodes (missing_in_row format bytes_of there g r) ≤ length (row_pairs r)
    nodes_in_row g (high h) = omega (arith, nodes_in_held g h)
    nodes_in_row g (node h k d r) =
        omega (
          arith,
          nodes_in_held (part_before g k) h,
          nodes_in_row (part_behind g k) r,
          total-append (λ t. length (nodes_of t)) (missing_in_held format bytes_of there (part_before g k) h) (missing_in_row format bytes_of there (part_behind g k) r),
          length-append (held_pairs h) ((k, d) ∷ row_pairs r),
        )

    nodes_in_held : (g : Gap K) (h : Held K (List ℕ)) → nodes (missing_in_held format bytes_of there g h) ≤ length (held_pairs h)
    nodes_in_held g nothing = omega arith
    nodes_in_held g (below t) = by (there g (page_digest format bytes_of t)) (nodes_in_page g t)
      where
        by : (b : Bool) → nodes (missing_pages format bytes_of there g t) ≤ length (pairs t) → nodes (if b then [] else (missing_pages format bytes_of there g t)) ≤ length (pairs t)
        by true few = omega arith
        by false few = few

  pub nodes_in_tree : (t : Tree K (List ℕ)) → nodes (missing_of_tree format bytes_of there t) ≤ length (pairs t)
  nodes_in_tree (page l c (high h)) = omega arith
  nodes_in_tree (page l c (node h k d r)) = nodes_in_held everywhere (below (page l c (node h k d r)))

-- what items leave, of each of two parts
module _ {K V H : Type 0} (laws : Laws K V H) (local : Side K V H) where
  sorted_apart : (xs ys : List (Item K (List ℕ))) (gaps : List (Gap K)) (keys : List K) → AreSortedOut laws local (xs ++ ys) gaps keys
      → (first : List (Gap K)) × (rest : List (Gap K)) × (own : List K) × (more : List K) × AreSortedOut laws local xs first own × AreSortedOut laws local ys rest more × (gaps ≡ first ++ rest)
  sorted_apart [] ys gaps keys s = ([], gaps, [], keys, (refl, refl), s, refl)
  sorted_apart (x ∷ xs) ys gaps keys (o, os, w, ws, one, behind, p, q) =
      let (first, rest, own, more, a, b, e) = sorted_apart xs ys os ws behind in
      (o ++ first, rest, w ++ own, more, (o, first, w, own, one, a, refl, refl), b, p ∙ ap (λ z. o ++ z) e ∙ sym (append_assoc o first rest))

module _ {K V H : Type 0} (laws : Laws K V H) (o : IsTotalOrder laws.cmp) (local peer : Contents K V H) (up : IsMap laws.cmp (pairs peer.tree.root)) (weight : Tree K (List ℕ) → ℕ) where
  abbrev root : Tree K (List ℕ)
  root = peer.tree.root

  abbrev there : Gap K → List ℕ → Bool
  there = has_page_over laws (side local)

  abbrev outline : Gap K → List (Item K (List ℕ))
  outline = outline_over peer.tree.format laws.bytes_of laws.cmp root

  abbrev left : List (Gap K) → ℕ
  left = total (over laws local peer weight)

  abbrev in_row : Gap K → Row K (List ℕ) → List (Tree K (List ℕ))
  in_row = missing_in_row peer.tree.format laws.bytes_of there

  abbrev in_held : Gap K → Held K (List ℕ) → List (Tree K (List ℕ))
  in_held = missing_in_held peer.tree.format laws.bytes_of there

  over_filled : (g : Gap K) (t : Tree K (List ℕ)) → Fills laws.cmp g t root → over laws local peer weight g ≡ lacking laws local peer weight g (Some t)
  over_filled g t f = ap (lacking laws local peer weight g) (filled_opens laws.cmp o g t root up f)

  -- the gap of a page is left where the page is missing
  one_left : (g : Gap K) (t : Tree K (List ℕ)) (gaps : List (Gap K)) (keys : List K) → Fills laws.cmp g t root
      → IsSortedOut laws (side local) (of_page g (page_digest peer.tree.format laws.bytes_of t)) gaps keys → left gaps ≡ total weight (in_held g (below t))
  one_left g t gaps keys f (none, inl (has, empty)) = ap left empty ∙ spared (there g (page_digest peer.tree.format laws.bytes_of t)) has
    where
      spared : (b : Bool) → b ≡ true → 0 ≡ total weight (if b then [] else (missing_pages peer.tree.format laws.bytes_of there g t))
      spared true e = refl
      spared false e = absurd (cc)
  one_left g t gaps keys f (none, inr (lacks, one)) = ap left one ∙ kept (there g (page_digest peer.tree.format laws.bytes_of t)) lacks
    where
      kept : (b : Bool) → b ≡ false → left (g ∷ []) ≡ total weight (if b then [] else (missing_pages peer.tree.format laws.bytes_of there g t))
      kept true e = absurd (cc)
      kept false e = omega (arith, over_filled g t f)

  module _ (lev : K → ℕ) (canonical : IsCanonicalRoot lev root) where
    -- of a row that stands in a gap those are left that are missing in it
    row_left : (l : ℕ) (g : Gap K) (r : Row K (List ℕ)) (gaps : List (Gap K)) (keys : List K) → IsRow lev l r → pairs_within laws.cmp g (pairs root) ≡ row_pairs r → IsMap laws.cmp (row_pairs r)
        → ((s : Tree K (List ℕ)) → IsPageInRow s r → IsPageIn s root)
        → AreSortedOut laws (side local) (row_items (λ t. Some (page_digest peer.tree.format laws.bytes_of t)) g r) gaps keys → left gaps ≡ total weight (in_row g r)
    row_left l g (high nothing) gaps keys c all m i (p, q) = ap left p
    row_left l g (high (below t)) gaps keys c all m i (gf, gr, ko, kr, one, (none, empty), p, q) =
        ap left (p ∙ ap (λ z. gf ++ z) none ∙ append-nil gf) ∙ one_left g t gf ko (record { inside = i t (itself t); some = c.1; all = all }) one
    row_left l g (node nothing k d r) gaps keys c all m i (gf, gr, ko, kr, (none, own), more, p, q) =
        ap left (p ∙ ap (λ z. z ++ gr) none)
        ∙ row_left l (part_behind g k) r gr kr c.2 (rest_all laws.cmp o peer.tree.format laws.bytes_of root up g nothing k d r all m) m.1 (λ s u. i s (inr u)) more
    row_left l g (node (below t) k d r) gaps keys c all m i (gf, gs, ko, ks, one, (gn, gr, kn, kr, (none, own), more, pn, qn), p, q) =
        let fills : Fills laws.cmp (part_before g k) t root =
        record { inside = i t (inl (itself t)); some = c.0.1; all = held_all laws.cmp o peer.tree.format laws.bytes_of root up g (below t) k d r all m } in
        let rest = rest_all laws.cmp o peer.tree.format laws.bytes_of root up g (below t) k d r all m in
        omega (
          arith,
          ap left (p ∙ ap (λ z. gf ++ z) (pn ∙ ap (λ z. z ++ gr) none)),
          total-append (over laws local peer weight) gf gr,
          one_left (part_before g k) t gf ko fills one,
          row_left l (part_behind g k) r gr kr c.2 rest (map-rest laws.cmp (pairs t) ((k, d) ∷ row_pairs r) m).1 (λ s u. i s (inr u)) more,
          total-append weight (in_held (part_before g k) (below t)) (in_row (part_behind g k) r),
        )

    -- a page that is opened leaves those below it
    page_left : (g : Gap K) (t : Tree K (List ℕ)) (gaps : List (Gap K)) (keys : List K) → Fills laws.cmp g t root
        → AreSortedOut laws (side local) (outline g) gaps keys → weight t + left gaps ≡ lacking laws local peer weight g (Some t)
    page_left g (page l c r) gaps keys f s =
        let is = ap (outline_where peer.tree.format laws.bytes_of g) (filled_opens laws.cmp o g (page l c r) root up f) in
        ap (λ n. weight (page l c r) + n)
        (row_left l g r gaps keys (page_canonical lev (page l c r) root canonical f.inside f.some) f.all (inside_map laws.cmp o (page l c r) root f.inside up)
        (λ u j. page_in u (page l c r) root (inr j) f.inside)
        (subst (λ xs. AreSortedOut laws (side local) xs gaps keys) is s))

    -- so does a round
    round_left : (n : ℕ) (gs gaps : List (Gap K)) (keys : List K) → AllByRecursion (IsPageGap laws local peer n) gs → AreSortedOut laws (side local) (flat_map outline gs) gaps keys
        → total (λ g. weight_found weight (page_over laws.cmp g root)) gs + left gaps ≡ left gs
    round_left n [] gaps keys a (p, q) = omega (arith, ap left p)
    round_left n (g ∷ gs) gaps keys ((t, f, low), a) s =
        let (first, rest, own, more, here, behind, e) = sorted_apart laws (side local) (outline g) (flat_map outline gs) gaps keys s in
        omega (
          arith,
          page_left g t first own f here,
          round_left n gs rest more a behind,
          ap left e,
          total-append (over laws local peer weight) first rest,
          over_filled g t f,
          ap (weight_found weight) (filled_opens laws.cmp o g t root up f),
        )

    -- the whole tree leaves all that are missing
    whole_left : (gaps : List (Gap K)) (keys : List K) → AreSortedOut laws (side local) (whole_item peer.tree.format laws.bytes_of root) gaps keys
        → left gaps ≡ total weight (missing_of_tree peer.tree.format laws.bytes_of there root)
    whole_left = by root refl
      where
        by : (t : Tree K (List ℕ)) → t ≡ root → (gaps : List (Gap K)) (keys : List K)
            → AreSortedOut laws (side local) (whole_item peer.tree.format laws.bytes_of t) gaps keys
            → left gaps ≡ total weight (missing_of_tree peer.tree.format laws.bytes_of there t)
        by (page l c (high h)) e gaps keys (p, q) = ap left p
        by (page l c (node h k d r)) e gaps keys (gf, gr, ko, kr, one, (none, empty), p, q) =
            let t = page l c (node h k d r) in
            let fills : Fills laws.cmp everywhere t root =
            subst (λ (u : Tree K (List ℕ)). Fills laws.cmp everywhere t u) e (record { inside = itself t; some = tt; all = all_within laws.cmp (pairs t) }) in
            ap left (p ∙ ap (λ z. gf ++ z) none ∙ append-nil gf) ∙ one_left everywhere t gf ko fills one

-- what a round opens: a page over each gap, and the nodes of these
module _ {K V H : Type 0} (laws : Laws K V H) (o : IsTotalOrder laws.cmp) (local peer : Contents K V H) (up : IsMap laws.cmp (pairs peer.tree.root)) where
  abbrev at : (Tree K (List ℕ) → ℕ) → Gap K → ℕ
  at weight g = weight_found weight (page_over laws.cmp g peer.tree.root)

  at_filled : (w : Tree K (List ℕ) → ℕ) (g : Gap K) (t : Tree K (List ℕ)) → Fills laws.cmp g t peer.tree.root → at w g ≡ w t
  at_filled w g t f = ap (weight_found w) (filled_opens laws.cmp o g t peer.tree.root up f)

  pages_opened : (n : ℕ) (gs : List (Gap K)) → AllByRecursion (IsPageGap laws local peer n) gs → total (at (λ t. 1)) gs ≡ length gs
  pages_opened n [] a = refl
  pages_opened n (g ∷ gs) ((t, f, low), a) = omega (arith, at_filled (λ t. 1) g t f, pages_opened n gs a)

  -- each page has a node
  has_one : (t : Tree K (List ℕ)) → HasNode t → 1 ≤ length (nodes_of t)
  has_one (page l c (high h)) n = absurd n
  has_one (page l c (node h k d r)) n = omega arith

  each_has_nodes : (n : ℕ) (gs : List (Gap K)) → AllByRecursion (IsPageGap laws local peer n) gs → length gs ≤ total (at (λ t. length (nodes_of t))) gs
  each_has_nodes n [] a = omega arith
  each_has_nodes n (g ∷ gs) ((t, f, low), a) = omega (arith, at_filled (λ t. length (nodes_of t)) g t f, has_one t f.some, each_has_nodes n gs a)

  abbrev digest_of : Tree K (List ℕ) → Option (List ℕ)
  digest_of t = Some (page_digest peer.tree.format laws.bytes_of t)

  row_counts : (g : Gap K) (r : Row K (List ℕ)) → node_count (row_items digest_of g r) ≡ length (row_nodes r)
  row_counts g (high nothing) = refl
  row_counts g (high (below t)) = refl
  row_counts g (node nothing k d r) = omega (arith, row_counts (part_behind g k) r)
  row_counts g (node (below t) k d r) = omega (arith, row_counts (part_behind g k) r)

  outline_counts : (g : Gap K) (t : Tree K (List ℕ)) → node_count (outline_where peer.tree.format laws.bytes_of g (Some t)) ≡ length (nodes_of t)
  outline_counts g (page l c r) = row_counts g r

  nodes_compared : (n : ℕ) (gs : List (Gap K)) → AllByRecursion (IsPageGap laws local peer n) gs
      → node_count (flat_map (outline_over peer.tree.format laws.bytes_of laws.cmp peer.tree.root) gs) ≡ total (at (λ t. length (nodes_of t))) gs
  nodes_compared n [] a = refl
  nodes_compared n (g ∷ gs) ((t, f, low), a) =
      let outline = outline_over peer.tree.format laws.bytes_of laws.cmp peer.tree.root in
      omega (
        arith,
        count-append (outline g) (flat_map outline gs),
        ap (λ found. node_count (outline_where peer.tree.format laws.bytes_of g found)) (filled_opens laws.cmp o g t peer.tree.root up f),
        outline_counts g t,
        at_filled (λ t. length (nodes_of t)) g t f,
        nodes_compared n gs a,
      )

  module _ (lev : K → ℕ) (canonical : IsCanonicalRoot lev peer.tree.root) where
    abbrev nodes_in : Tree K (List ℕ) → ℕ
    nodes_in t = length (nodes_of t)

    abbrev outlines : List (Gap K) → List (Item K (List ℕ))
    outlines = flat_map (outline_over peer.tree.format laws.bytes_of laws.cmp peer.tree.root)

    pub counts_start : (gaps : List (Gap K)) (keys : List K) → AreSortedOut laws (side local) (whole_item peer.tree.format laws.bytes_of peer.tree.root) gaps keys → AreCounted laws local peer 0 0 gaps
    counts_start gaps keys s = record {
      pages = omega (arith, whole_left laws o local peer up (λ t. 1) lev canonical gaps keys s);
      nodes = omega (arith, whole_left laws o local peer up nodes_in lev canonical gaps keys s);
      fewer = omega arith;
    }

    module _ (n : ℕ) (gs gaps : List (Gap K)) (keys : List K) (opened compared : ℕ) (pages : AllByRecursion (IsPageGap laws local peer n) gs)
        (sorted : AreSortedOut laws (side local) (outlines gs) gaps keys)
        (counted : AreCounted laws local peer opened compared gs) where
      of_pages : total (at (λ t. 1)) gs + total (over laws local peer (λ t. 1)) gaps ≡ total (over laws local peer (λ t. 1)) gs
      of_pages = round_left laws o local peer up (λ t. 1) lev canonical n gs gaps keys pages sorted

      of_nodes : total (at nodes_in) gs + total (over laws local peer nodes_in) gaps ≡ total (over laws local peer nodes_in) gs
      of_nodes = round_left laws o local peer up nodes_in lev canonical n gs gaps keys pages sorted

      pub counts_more : (all nodes : ℕ) → all ≡ opened + length gs → nodes ≡ compared + node_count (outlines gs) → AreCounted laws local peer all nodes gaps
      counts_more all nodes e f = record {
        pages = omega (arith, e, counted.pages, of_pages, pages_opened n gs pages);
        nodes = omega (arith, f, counted.nodes, of_nodes, nodes_compared n gs pages);
        fewer = omega (arith, e, f, counted.fewer, each_has_nodes n gs pages, nodes_compared n gs pages);
      }

      -- there are no more of them than keys
      pub counts_fit : (opened + length gs ≤ length (pairs peer.tree.root)) × (compared + node_count (outlines gs) ≤ length (pairs peer.tree.root))
      counts_fit =
          let few = nodes_in_tree peer.tree.format laws.bytes_of (has_page_over laws (side local)) peer.tree.root in
          let more = counts_more (opened + length gs) (compared + node_count (outlines gs)) refl refl in
          (omega (arith, few, more.nodes, more.fewer), omega (arith, few, more.nodes))

-- the same pages miss as much, in gaps with equal bounds
module _ {K V H : Type 0} (laws : Laws K V H) (o : IsTotalOrder laws.cmp) (local : Side K V H) (format : PageFormat)
    (one_digest : (t u : Tree K (List ℕ)) → SamePages laws.cmp t u → page_digest format laws.bytes_of t ≡ page_digest format laws.bytes_of u)
    (weight : Tree K (List ℕ) → ℕ) (alike : (t u : Tree K (List ℕ)) → SamePages laws.cmp t u → weight t ≡ weight u) where
  abbrev is_there : Gap K → List ℕ → Bool
  is_there = has_page_over laws local

  there_alike : (g h : Gap K) (t u : Tree K (List ℕ)) → SameGap laws.cmp g h → SamePages laws.cmp t u
      → is_there g (page_digest format laws.bytes_of t) ≡ is_there h (page_digest format laws.bytes_of u)
  there_alike g h t u s q =
      ap (is_page_with local.format laws.bytes_of (page_digest format laws.bytes_of t)) (page_over-alike laws.cmp o g h s (own_tree laws local)) ∙ ap (is_there h) (one_digest t u q)

  mutual
    pages-same : (g h : Gap K) (t u : Tree K (List ℕ)) → SameGap laws.cmp g h → SamePages laws.cmp t u
        → total weight (missing_pages format laws.bytes_of is_there g t) ≡ total weight (missing_pages format laws.bytes_of is_there h u)
    pages-same g h (page l c r) (page m e s) sg q = omega (arith, alike (page l c r) (page m e s) q, row-same g h r s sg q.2)

    row-same : (g h : Gap K) (r s : Row K (List ℕ)) → SameGap laws.cmp g h → SameRow laws.cmp r s
        → total weight (missing_in_row format laws.bytes_of is_there g r) ≡ total weight (missing_in_row format laws.bytes_of is_there h s)
    row-same g h (high x) (high y) sg q = held-same g h x y sg q
    row-same g h (high x) (node y j e s) sg q = absurd q
    row-same g h (node x k d r) (high y) sg q = absurd q
    row-same g h (node x k d r) (node y j e s) sg q =
        omega (
          arith,
          total-append weight (missing_in_held format laws.bytes_of is_there (part_before g k) x) (missing_in_row format laws.bytes_of is_there (part_behind g k) r),
          held-same (part_before g k) (part_before h j) x y (sg.0, q.1) q.0,
          row-same (part_behind g k) (part_behind h j) r s (q.1, sg.1) q.3,
          total-append weight (missing_in_held format laws.bytes_of is_there (part_before h j) y) (missing_in_row format laws.bytes_of is_there (part_behind h j) s),
        )

    held-same : (g h : Gap K) (x y : Held K (List ℕ)) → SameGap laws.cmp g h → SameHeld laws.cmp x y
        → total weight (missing_in_held format laws.bytes_of is_there g x) ≡ total weight (missing_in_held format laws.bytes_of is_there h y)
    held-same g h nothing nothing sg q = refl
    held-same g h nothing (below u) sg q = absurd q
    held-same g h (below t) nothing sg q = absurd q
    held-same g h (below t) (below u) sg q =
        by (is_there g (page_digest format laws.bytes_of t)) (is_there h (page_digest format laws.bytes_of u)) (there_alike g h t u sg q) (pages-same g h t u sg q)
      where
        by : (b c : Bool) → b ≡ c → total weight (missing_pages format laws.bytes_of is_there g t) ≡ total weight (missing_pages format laws.bytes_of is_there h u)
            → total weight (if b then [] else (missing_pages format laws.bytes_of is_there g t)) ≡ total weight (if c then [] else (missing_pages format laws.bytes_of is_there h u))
        by true true e same = refl
        by true false e same = absurd (cc)
        by false true e same = absurd (cc)
        by false false e same = same

  pub tree-same : (t u : Tree K (List ℕ)) → SamePages laws.cmp t u → total weight (missing_of_tree format laws.bytes_of is_there t) ≡ total weight (missing_of_tree format laws.bytes_of is_there u)
  tree-same (page l c (high x)) (page m e (high y)) q = refl
  tree-same (page l c (high x)) (page m e (node y j f s)) q = absurd q.2
  tree-same (page l c (node x k d r)) (page m e (high y)) q = absurd q.2
  tree-same (page l c (node x k d r)) (page m e (node y j f s)) q =
      held-same everywhere everywhere (below (page l c (node x k d r))) (below (page m e (node y j f s))) (same_gap-own laws.cmp o everywhere) q

-- so do pages with as many nodes
pub nodes-alike : {K : Type 0} (cmp : K → K → Ordering) (t u : Tree K (List ℕ)) → SamePages cmp t u → length (nodes_of t) ≡ length (nodes_of u)
nodes-alike {K} cmp (page l c r) (page m e s) q = by r s q.2
  where
    by : (r s : Row K (List ℕ)) → SameRow cmp r s → length (row_nodes r) ≡ length (row_nodes s)
    by (high x) (high y) q = refl
    by (high x) (node y j e s) q = absurd q
    by (node x k d r) (high y) q = absurd q
    by (node x k d r) (node y j e s) q = omega (arith, by r s q.3)

-- at the end, what was opened and compared is what was missing, in each tree of the peer's map
module _ {K V H : Type 0} (laws : Laws K V H) (o : IsTotalOrder laws.cmp) (local peer : Contents K V H)
    (one_digest : (t u : Tree K (List ℕ)) → SamePages laws.cmp t u → page_digest peer.tree.format laws.bytes_of t ≡ page_digest peer.tree.format laws.bytes_of u)
    (own : Tree K (List ℕ)) (same : SamePages laws.cmp peer.tree.root own) (opened compared : ℕ) (gaps : List (Gap K)) (none : gaps ≡ [])
    (counted : AreCounted laws local peer opened compared gaps) where
  abbrev in_own : List (Tree K (List ℕ))
  in_own = missing_of_tree peer.tree.format laws.bytes_of (has_page_over laws (side local)) own

  pub opened_all : opened ≡ length in_own
  opened_all =
      omega (
        arith,
        counted.pages,
        ap (total (over laws local peer (λ t. 1))) none,
        tree-same laws o (side local) peer.tree.format one_digest (λ t. 1) (λ t u q. refl) peer.tree.root own same,
        total_ones in_own,
      )

  pub compared_all : compared ≡ length (flat_map nodes_of in_own)
  compared_all =
      omega (
        arith,
        counted.nodes,
        ap (total (over laws local peer (λ t. length (nodes_of t)))) none,
        tree-same laws o (side local) peer.tree.format one_digest (λ t. length (nodes_of t)) (nodes-alike laws.cmp) peer.tree.root own same,
        total_parts nodes_of in_own,
      )
