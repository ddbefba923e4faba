-- Each page of a tree was looked at, or is in a page that fills one of the gaps, level by level.
use Rattle.std.proofs.Common.{◌≡◌, ℕ, List, [], ◌∷◌, map, flat_map, Some, refl, sym, ap, subst, ◌∙◌, ◌⊎◌, inl, inr}
use Rattle.std.specs.Cmp.{IsTotalOrder}
use Rattle.std.specs.List.{AllByRecursion}
use Rattle.key_order.specs.Map.{IsMap}
use Rattle.key_order.specs.Order.{AnyByRecursion}
use Rattle.key_order.proofs.ListParts.{map-rest}
use Rattle.merkle_replica.specs.Contents.{Side}
use Rattle.merkle_replica.specs.Laws.{Laws}
use Rattle.merkle_replica.proofs.Rounds.{any-append}
use Rattle.merkle_tree_theory.specs.Canonical.{IsCanonicalRoot, IsGap, IsRow}
use Rattle.merkle_tree_theory.specs.Gap.{Gap, everywhere, part_before, part_behind}
use Rattle.merkle_tree_theory.specs.Lookup.{Fills}
use Rattle.merkle_tree_theory.specs.Outline.{held_items, outline_where}
use Rattle.merkle_tree_theory.specs.Page.{held_pairs, nodes_of, pair_of, pairs, row_pairs}
use Rattle.merkle_tree_theory.specs.Ranges.{IsPageIn, IsPageInHeld, IsPageInRow}
use Rattle.merkle_tree_theory.specs.State.{State}
use Rattle.merkle_tree_theory.specs.Stream.{page_digest}
use Rattle.merkle_tree_theory.specs.Tree.{Tree, page, Row, high, node, Held, nothing, below}
use Rattle.merkle_tree_theory.proofs.InGaps.{all_within}
use Rattle.merkle_tree_theory.proofs.OutlineDescents.{AreAll, held_all, rest_all, page_canonical}
use Rattle.merkle_tree_theory.proofs.PageOverGap.{filled_opens}
use Rattle.merkle_tree_theory.proofs.PagesIn.{itself, page_in}
use Rattle.merkle_wire.specs.Outlines.{nodes_among}
use Rattle.merkle_wire.proofs.PagesBelow.{items_in, map_inside, nodes_are}
use Rattle.merkle_audit.specs.Nodes.{AreFaithful, AreFaithfulIn, AreLookedAt, gaps_among, page_items_over}

module _ {K V H : Type 0} (laws : Laws K V H) (local : Side K V H) (tree : State K H) where
  -- the page is in one that fills the gap
  abbrev IsOver : Tree K (List ℕ) → Gap K → Type 0
  IsOver s g = (t : Tree K (List ℕ)) × Fills laws.cmp g t tree.root × IsPageIn s t

  abbrev IsFaithfulPage : Tree K (List ℕ) → Type 0
  IsFaithfulPage s = AreFaithful laws local (map pair_of (nodes_of s))

  -- the nodes of each page of the tree are faithful, or it is in a page that fills one of the gaps
  abbrev pub AreCovered : List (Gap K) → Type 0
  AreCovered gaps = (s : Tree K (List ℕ)) → IsPageIn s tree.root → IsFaithfulPage s ⊎ AnyByRecursion (IsOver s) gaps

  no_nodes : AreFaithful laws local []
  no_nodes [] own same = refl
  no_nodes (d ∷ ds) own same = absurd (cc)

  -- at first all pages are in the gap that has all keys
  pub all_covered : (lev : K → ℕ) → IsCanonicalRoot lev tree.root → AreCovered (everywhere ∷ [])
  all_covered lev canonical s i = by tree.root refl canonical i
    where
      by : (t : Tree K (List ℕ)) → tree.root ≡ t → IsCanonicalRoot lev t → IsPageIn s t → IsFaithfulPage s ⊎ AnyByRecursion (IsOver s) (everywhere ∷ [])
      by (page l c (high nothing)) e canonical (inl q) = inl (subst IsFaithfulPage (sym q) no_nodes)
      by (page l c (high nothing)) e canonical (inr j) = absurd j
      by (page l c (high (below t))) e canonical j = absurd canonical
      by (page l c (node h k d r)) e canonical j =
          let t = page l c (node h k d r) in
          inr (inl (t, subst (Fills laws.cmp everywhere t) (sym e) (record { inside = itself t; some = tt; all = all_within laws.cmp (pairs t) }), j))

  -- at last there is no gap left
  pub none_left : AreCovered [] → AreFaithfulIn laws local tree.root
  none_left covered s i = by (covered s i)
    where
      by : IsFaithfulPage s ⊎ AnyByRecursion (IsOver s) [] → IsFaithfulPage s
      by (inl f) = f
      by (inr a) = absurd a

  module _ (o : IsTotalOrder laws.cmp) (up : IsMap laws.cmp (pairs tree.root)) (lev : K → ℕ) (canonical : IsCanonicalRoot lev tree.root) where
    abbrev AllIn : Gap K → List (K × List ℕ) → Type 0
    AllIn = AreAll laws.cmp o tree.format laws.bytes_of tree.root up

    -- a page right below a row that has all keys of a gap fills a part of the gap
    held_covered : (s : Tree K (List ℕ)) (g : Gap K) (l : ℕ) (h : Held K (List ℕ)) → IsGap lev l h → AllIn g (held_pairs h)
        → ((t : Tree K (List ℕ)) → IsPageInHeld t h → IsPageIn t tree.root) → IsPageInHeld s h
        → AnyByRecursion (IsOver s) (gaps_among (held_items (λ t. Some (page_digest tree.format laws.bytes_of t)) g h))
    held_covered s g l nothing c all inside i = absurd i
    held_covered s g l (below t) c all inside i = inl (t, record { inside = inside t (itself t); some = c.1; all = all }, i)

    row_covered : (s : Tree K (List ℕ)) (g : Gap K) (l : ℕ) (r : Row K (List ℕ)) → IsRow lev l r → AllIn g (row_pairs r) → IsMap laws.cmp (row_pairs r)
        → ((t : Tree K (List ℕ)) → IsPageInRow t r → IsPageIn t tree.root) → IsPageInRow s r
        → AnyByRecursion (IsOver s) (gaps_among (items_in laws.cmp o tree.format laws.bytes_of g r))
    row_covered s g l (high h) c all m inside i = held_covered s g l h c all inside i
    row_covered s g l (node h k d r) c all m inside i =
        by h i (held_covered s (part_before g k) l h c.0 (held_all laws.cmp o tree.format laws.bytes_of tree.root up g h k d r all m) (λ t j. inside t (inl j)))
        (row_covered s (part_behind g k) l r c.2 (rest_all laws.cmp o tree.format laws.bytes_of tree.root up g h k d r all m)
        (map-rest laws.cmp (held_pairs h) ((k, d) ∷ row_pairs r) m).1 (λ t j. inside t (inr j)))
      where
        by : (h : Held K (List ℕ)) → IsPageInRow s (node h k d r)
            → (IsPageInHeld s h → AnyByRecursion (IsOver s) (gaps_among (held_items (λ t. Some (page_digest tree.format laws.bytes_of t)) (part_before g k) h)))
            → (IsPageInRow s r → AnyByRecursion (IsOver s) (gaps_among (items_in laws.cmp o tree.format laws.bytes_of (part_behind g k) r)))
            → AnyByRecursion (IsOver s) (gaps_among (items_in laws.cmp o tree.format laws.bytes_of g (node h k d r)))
        by nothing (inl j) here rest = absurd j
        by nothing (inr j) here rest = rest j
        by (below t) (inl j) here rest = first (here j)
          where
            first : AnyByRecursion (IsOver s) (part_before g k ∷ []) → AnyByRecursion (IsOver s) (part_before g k ∷ gaps_among (items_in laws.cmp o tree.format laws.bytes_of (part_behind g k) r))
            first (inl a) = inl a
            first (inr a) = absurd a
        by (below t) (inr j) here rest = inr (rest j)

    abbrev gaps_below : Gap K → List (Gap K)
    gaps_below g = gaps_among (page_items_over laws tree g)

    -- a page in one that fills a gap is that one, or in one of those right below it
    one_looked_at : (s : Tree K (List ℕ)) (g : Gap K) → IsOver s g → AreFaithful laws local (nodes_among (page_items_over laws tree g)) → IsFaithfulPage s ⊎ AnyByRecursion (IsOver s) (gaps_below g)
    one_looked_at s g (t, f, i) faithful = by t f i
      where
        by : (t : Tree K (List ℕ)) → Fills laws.cmp g t tree.root → IsPageIn s t → IsFaithfulPage s ⊎ AnyByRecursion (IsOver s) (gaps_below g)
        by (page l c r) f i =
            let t = page l c r in
            let opens = ap (outline_where tree.format laws.bytes_of g) (filled_opens laws.cmp o g t tree.root up f) in
            go i (subst (AreFaithful laws local) (ap nodes_among opens ∙ nodes_are laws.cmp o tree.format laws.bytes_of g r) faithful) (λ j.
            subst (λ xs. AnyByRecursion (IsOver s) (gaps_among xs)) (sym opens)
            (row_covered s g l r (page_canonical lev t tree.root canonical f.inside f.some) f.all (map_inside laws.cmp o t tree.root up f.inside) (λ u k. page_in u t tree.root (inr k) f.inside) j))
          where
            go : IsPageIn s (page l c r) → IsFaithfulPage (page l c r) → (IsPageInRow s r → AnyByRecursion (IsOver s) (gaps_below g)) → IsFaithfulPage s ⊎ AnyByRecursion (IsOver s) (gaps_below g)
            go (inl e) here more = inl (subst IsFaithfulPage (sym e) here)
            go (inr j) here more = inr (more j)

    any_looked_at : (s : Tree K (List ℕ)) (gaps : List (Gap K)) → AllByRecursion (λ g. AreFaithful laws local (nodes_among (page_items_over laws tree g))) gaps → AnyByRecursion (IsOver s) gaps
        → IsFaithfulPage s ⊎ AnyByRecursion (IsOver s) (flat_map gaps_below gaps)
    any_looked_at s [] a i = absurd i
    any_looked_at s (g ∷ gs) a (inl i) = go (one_looked_at s g i a.0)
      where
        go : IsFaithfulPage s ⊎ AnyByRecursion (IsOver s) (gaps_below g) → IsFaithfulPage s ⊎ AnyByRecursion (IsOver s) (flat_map gaps_below (g ∷ gs))
        go (inl f) = inl f
        go (inr j) = inr (any-append (IsOver s) (gaps_below g) (flat_map gaps_below gs) (inl j))
    any_looked_at s (g ∷ gs) a (inr i) = go (any_looked_at s gs a.1 i)
      where
        go : IsFaithfulPage s ⊎ AnyByRecursion (IsOver s) (flat_map gaps_below gs) → IsFaithfulPage s ⊎ AnyByRecursion (IsOver s) (flat_map gaps_below (g ∷ gs))
        go (inl f) = inl f
        go (inr j) = inr (any-append (IsOver s) (gaps_below g) (flat_map gaps_below gs) (inr j))

    -- so pages stay covered by the gaps of the pages right below
    pub still_covered : (gaps next : List (Gap K)) → AreCovered gaps → AreLookedAt laws local tree gaps next → AreCovered next
    still_covered gaps next covered looked s i = go (covered s i)
      where
        go : IsFaithfulPage s ⊎ AnyByRecursion (IsOver s) gaps → IsFaithfulPage s ⊎ AnyByRecursion (IsOver s) next
        go (inl f) = inl f
        go (inr j) = subst (λ gs. IsFaithfulPage s ⊎ AnyByRecursion (IsOver s) gs) (sym looked.1) (any_looked_at s gaps looked.0 j)
