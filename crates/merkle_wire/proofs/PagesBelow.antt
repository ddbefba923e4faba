-- What is told of the page over a gap covers the keys in the gap.
use Rattle.std.proofs.Common.{◌≡◌, ℕ, true, false, List, [], ◌∷◌, ◌++◌, map, Option, Some, None, refl, sym, ap, subst, ◌∙◌, ◌⊎◌, inl, inr}
use Rattle.std.specs.List.{AllByRecursion}
use Rattle.std.specs.Cmp.{IsTotalOrder, tied_itself}
use Rattle.std.specs.Ordering.{is_eq}
use Rattle.std.specs.declared.cmp.Ordering.{Ordering}
use Rattle.key_order.specs.Map.{IsMap, get}
use Rattle.key_order.specs.Order.{AnyByRecursion, Below, Same}
use Rattle.key_order.proofs.SameKeys.{SameKeys}
use Rattle.key_order.proofs.Bools.{which, is_equal}
use Rattle.key_order.proofs.ListParts.{map-first, map-rest}
use Rattle.key_order.proofs.Maps.{at_head, past_head}
use Rattle.key_order.proofs.Orders.{low_up, up_low, same_up, same_down, not_both}
use Rattle.merkle_replica.specs.Contents.{Side}
use Rattle.merkle_replica.specs.Descent.{HasPage}
use Rattle.merkle_replica.specs.Laws.{Laws}
use Rattle.merkle_replica.proofs.Rounds.{any-append}
use Rattle.merkle_tree_theory.specs.Gap.{Gap, IsInGap, SameGap, part_before, part_behind}
use Rattle.merkle_tree_theory.specs.Lookup.{page_over}
use Rattle.merkle_tree_theory.specs.Outline.{Item, row_items, outline_where, outline_over}
use Rattle.merkle_tree_theory.specs.Page.{pair_of, row_nodes, pairs, row_pairs, held_pairs}
use Rattle.merkle_tree_theory.specs.Ranges.{IsPageIn, IsPageInRow}
use Rattle.merkle_tree_theory.specs.Stream.{page_digest}
use Rattle.merkle_tree_theory.specs.Tree.{Tree, page, Row, high, node, Held, nothing, below}
use Rattle.merkle_tree_theory.specs.declared.page_format.PageFormat.{PageFormat}
use Rattle.merkle_tree_theory.proofs.OutlineDescents.{get_inside}
use Rattle.merkle_tree_theory.proofs.InGaps.{after_from_test, before_from_test, test_from_after, test_from_before, is_after-alike, is_before-alike}
use Rattle.merkle_tree_theory.proofs.PageOverGap.{over_inside}
use Rattle.merkle_tree_theory.proofs.PagesIn.{GoesDown, MatchRow, inside}
use Rattle.merkle_wire.specs.Outlines.{nodes_among, keys_among, pages_beside, HasNoPage}
use Rattle.merkle_wire.specs.Taking.{IsNewGap, AreNewGaps}
use Rattle.merkle_wire.proofs.OverGaps.{above, IsParted, get_parted}
use Rattle.merkle_wire.proofs.TakenGaps.{IsGapOrNone, gap_or_none, page_spared}

module _ {K : Type 0} (cmp : K → K → Ordering) (o : IsTotalOrder cmp) where
  -- a key in a gap is in one with equal bounds
  pub in_gap-alike : (g h : Gap K) (k : K) → SameGap cmp g h → IsInGap cmp k g → IsInGap cmp k h
  in_gap-alike g h k s i = (
    after_from_test cmp h.after k (sym (is_after-alike cmp o g.after h.after s.0 k) ∙ test_from_after cmp g.after k i.0),
    before_from_test cmp h.before k (sym (is_before-alike cmp o g.before h.before s.1 k) ∙ test_from_before cmp g.before k i.1),
  )

  -- what is found after other pairs of a map is found in it
  pub get_behind : {X : Type 0} (pre ps : List (K × X)) (k : K) (d : X) → IsMap cmp (pre ++ ps) → get cmp ps k ≡ Some d → get cmp (pre ++ ps) k ≡ Some d
  get_behind [] ps k d m e = e
  get_behind (p ∷ pre) ps k d m e = go (which (is_eq (cmp p.0 k))) (get_behind pre ps k d m.1 e)
    where
      go : (is_eq (cmp p.0 k) ≡ false) ⊎ (is_eq (cmp p.0 k) ≡ true) → get cmp (pre ++ ps) k ≡ Some d → get cmp (p ∷ (pre ++ ps)) k ≡ Some d
      go (inl n) f = past_head cmp o p (pre ++ ps) k n ∙ f
      go (inr n) f = absurd (not_both cmp o k p.0 (same_down cmp o p.0 k (is_equal (cmp p.0 k) n)) (above cmp o p.0 (pre ++ ps) k d m.0 f))

  -- the map of a page goes down to those below it
  map_down : GoesDown (λ (t : Tree K (List ℕ)). IsMap cmp (pairs t)) (λ (r : Row K (List ℕ)). IsMap cmp (row_pairs r))
  map_down = record {
    to_row = row_of;
    to_high = λ t m. m;
    to_below = λ t k d r m. map-first cmp (pairs t) ((k, d) ∷ row_pairs r) m;
    to_rest = λ h k d r m. (map-rest cmp (held_pairs h) ((k, d) ∷ row_pairs r) m).1;
  }
    where
      row_of : (t : Tree K (List ℕ)) → IsMap cmp (pairs t) → MatchRow (λ (r : Row K (List ℕ)). IsMap cmp (row_pairs r)) t
      row_of (page l c r) m = m

  -- so the map of a page of a tree ascends
  pub map_inside : (p root : Tree K (List ℕ)) → IsMap cmp (pairs root) → IsPageIn p root → IsMap cmp (pairs p)
  map_inside p root m i = inside map_down p root m i

  module _ (format : PageFormat) (bytes_of : K → List ℕ) where
    abbrev pub items_in : Gap K → Row K (List ℕ) → List (Item K (List ℕ))
    items_in = row_items (λ t. Some (page_digest format bytes_of t))

    abbrev pub nodes_in : Gap K → Row K (List ℕ) → List (K × List ℕ)
    nodes_in g r = nodes_among (items_in g r)

    -- the nodes among what is told of a row are its nodes
    pub nodes_are : (g : Gap K) (r : Row K (List ℕ)) → nodes_in g r ≡ map pair_of (row_nodes r)
    nodes_are g (high nothing) = refl
    nodes_are g (high (below t)) = refl
    nodes_are g (node nothing j e r) = ap (λ ns. (j, e) ∷ ns) (nodes_are (part_behind g j) r)
    nodes_are g (node (below t) j e r) = ap (λ ns. (j, e) ∷ ns) (nodes_are (part_behind g j) r)

    -- the nodes of a row are among its pairs
    row_nodes_in : (g : Gap K) (r : Row K (List ℕ)) → IsMap cmp (row_pairs r) → AllByRecursion (λ n. get cmp (row_pairs r) n.0 ≡ Some n.1) (nodes_in g r)
    row_nodes_in g (high nothing) m = tt
    row_nodes_in g (high (below t)) m = tt
    row_nodes_in g (node h j e r) m = by h m (row_nodes_in (part_behind g j) r (map-rest cmp (held_pairs h) ((j, e) ∷ row_pairs r) m).1)
      where
        behind : (h : Held K (List ℕ)) → IsMap cmp (row_pairs (node h j e r)) → (ns : List (K × List ℕ)) → AllByRecursion (λ n. get cmp (row_pairs r) n.0 ≡ Some n.1) ns
            → AllByRecursion (λ n. get cmp (row_pairs (node h j e r)) n.0 ≡ Some n.1) ns
        behind h m [] a = tt
        behind h m (n ∷ ns) a = (
          get_behind (held_pairs h) ((j, e) ∷ row_pairs r) n.0 n.1 m
              (get_behind ((j, e) ∷ []) (row_pairs r) n.0 n.1 (map-rest cmp (held_pairs h) ((j, e) ∷ row_pairs r) m) a.0),
          behind h m ns a.1,
        )

        here : (h : Held K (List ℕ)) → IsMap cmp (row_pairs (node h j e r)) → get cmp (row_pairs (node h j e r)) j ≡ Some e
        here h m = get_behind (held_pairs h) ((j, e) ∷ row_pairs r) j e m (at_head cmp o (j, e) (row_pairs r) j (tied_itself o j))

        by : (h : Held K (List ℕ)) → IsMap cmp (row_pairs (node h j e r)) → AllByRecursion (λ n. get cmp (row_pairs r) n.0 ≡ Some n.1) (nodes_in (part_behind g j) r)
            → AllByRecursion (λ n. get cmp (row_pairs (node h j e r)) n.0 ≡ Some n.1) (nodes_in g (node h j e r))
        by nothing m rest = (here nothing m, behind nothing m (nodes_in (part_behind g j) r) rest)
        by (below t) m rest = (here (below t) m, behind (below t) m (nodes_in (part_behind g j) r) rest)

    -- the nodes of the page over a gap are among the pairs of the tree
    pub nodes_over_in : (root : Tree K (List ℕ)) (g : Gap K) → IsMap cmp (pairs root)
        → AllByRecursion (λ n. get cmp (pairs root) n.0 ≡ Some n.1) (nodes_among (outline_over format bytes_of cmp root g))
    nodes_over_in root g m = go (page_over cmp g root) refl
      where
        up : (p : Tree K (List ℕ)) → IsPageIn p root → (ns : List (K × List ℕ)) → AllByRecursion (λ n. get cmp (pairs p) n.0 ≡ Some n.1) ns
            → AllByRecursion (λ n. get cmp (pairs root) n.0 ≡ Some n.1) ns
        up p i [] a = tt
        up p i (n ∷ ns) a = (get_inside cmp o p root n.0 n.1 i m a.0, up p i ns a.1)

        go : (found : Option (Tree K (List ℕ))) → page_over cmp g root ≡ found → AllByRecursion (λ n. get cmp (pairs root) n.0 ≡ Some n.1) (nodes_among (outline_where format bytes_of g found))
        go None e = tt
        go (Some (page l c r)) e =
            let i = (over_inside cmp g root (page l c r) e).0 in
            up (page l c r) i (nodes_in g r) (row_nodes_in g r (inside map_down (page l c r) root m i))

    -- where no page is below, each key is a node
    pub all_nodes : (g : Gap K) (r : Row K (List ℕ)) (k : K) (d : List ℕ) → IsMap cmp (row_pairs r) → HasNoPage (items_in g r) → get cmp (row_pairs r) k ≡ Some d
        → AnyByRecursion (Same cmp k) (keys_among (nodes_in g r))
    all_nodes g (high nothing) k d m n e = absurd (cc)
    all_nodes g (high (below t)) k d m n e = absurd n
    all_nodes g (node (below t) j c r) k d m n e = absurd n
    all_nodes g (node nothing j c r) k d m n e = go (get_parted cmp o [] j c (row_pairs r) k d m e) (all_nodes (part_behind g j) r k d m.1 n)
      where
        go : IsParted cmp o [] j c (row_pairs r) k d → (get cmp (row_pairs r) k ≡ Some d → AnyByRecursion (Same cmp k) (keys_among (nodes_in (part_behind g j) r)))
            → AnyByRecursion (Same cmp k) (keys_among (nodes_in g (node nothing j c r)))
        go (inl (low, f)) more = absurd (cc)
        go (inr (inl (s, f))) more = inl s
        go (inr (inr (low, f))) more = inr (more f)

module _ {K V H : Type 0} (laws : Laws K V H) (o : IsTotalOrder laws.cmp) (local : Side K V H) (format : PageFormat) where
  -- the gap is there, or the side has the page
  new_gap_covers : (gap : Gap K) (digest : List ℕ) (new : List (Gap K)) (k : K) → IsNewGap laws local gap (Some digest) new → IsInGap laws.cmp k gap
      → AnyByRecursion (IsInGap laws.cmp k) new ⊎ HasPage laws local digest
  new_gap_covers gap digest new k a i = by new (gap_or_none laws local gap digest new a) (page_spared laws local gap digest new a)
    where
      by : (new : List (Gap K)) → IsGapOrNone laws local gap new → (new ≡ [] → HasPage laws local digest) → AnyByRecursion (IsInGap laws.cmp k) new ⊎ HasPage laws local digest
      by [] one spared = inr (spared refl)
      by (own ∷ []) one spared = inl (inl (in_gap-alike laws.cmp o gap own k one i))
      by (own ∷ other ∷ others) one spared = absurd one

  -- a key of a row is a node's, or in one of the gaps that are asked for, or in a page that has the digest of a page of the side
  abbrev pub IsShown : Gap K → Row K (List ℕ) → List (Gap K) → K → List ℕ → Type 0
  IsShown g r new k d =
      AnyByRecursion (Same laws.cmp k) (keys_among (nodes_in laws.cmp o format laws.bytes_of g r))
      ⊎ (AnyByRecursion (IsInGap laws.cmp k) new ⊎ ((t : Tree K (List ℕ)) × IsPageInRow t r × HasPage laws local (page_digest format laws.bytes_of t) × (get laws.cmp (pairs t) k ≡ Some d)))

  pub shown : (g h : Gap K) (r : Row K (List ℕ)) (ks : List K) (new : List (Gap K)) (k : K) (d : List ℕ) → IsMap laws.cmp (row_pairs r) → get laws.cmp (row_pairs r) k ≡ Some d
      → SameKeys laws.cmp (keys_among (nodes_in laws.cmp o format laws.bytes_of g r)) ks
      → AreNewGaps laws local h ks (pages_beside None (items_in laws.cmp o format laws.bytes_of g r)) new → IsInGap laws.cmp k h → IsShown g r new k d
  shown g h (high nothing) ks new k d m e s a i = absurd (cc)
  shown g h (high (below t)) (j ∷ ks) new k d m e s a i = absurd s
  shown g h (high (below t)) [] new k d m e s a i = go (new_gap_covers h (page_digest format laws.bytes_of t) new k a i)
    where
      go : AnyByRecursion (IsInGap laws.cmp k) new ⊎ HasPage laws local (page_digest format laws.bytes_of t) → IsShown g (high (below t)) new k d
      go (inl b) = inr (inl b)
      go (inr p) = inr (inr (t, here t, p, e))
        where
          here : (u : Tree K (List ℕ)) → IsPageIn u u
          here (page l c r) = inl refl
  shown g h (node nothing j c r) [] new k d m e s a i = absurd s
  shown g h (node (below t) j c r) [] new k d m e s a i = absurd s
  shown g h (node nothing j c r) (x ∷ ks) new k d m e s (first, rest, one, more, q) i =
      go (get_parted laws.cmp o [] j c (row_pairs r) k d m e)
      (λ low f. shown (part_behind g j) (part_behind h x) r ks rest k d m.1 f s.1 more (up_low laws.cmp o x j k (same_down laws.cmp o j x s.0) low, i.1))
    where
      then_rest : IsShown (part_behind g j) r rest k d → IsShown g (node nothing j c r) new k d
      then_rest (inl b) = inl (inr b)
      then_rest (inr (inl b)) = inr (inl (subst (AnyByRecursion (IsInGap laws.cmp k)) (sym q) (any-append (IsInGap laws.cmp k) first rest (inr b))))
      then_rest (inr (inr (u, p, own, b))) = inr (inr (u, inr p, own, b))

      go : IsParted laws.cmp o [] j c (row_pairs r) k d → (Below laws.cmp j k → get laws.cmp (row_pairs r) k ≡ Some d → IsShown (part_behind g j) r rest k d) → IsShown g (node nothing j c r) new k d
      go (inl (low, f)) more = absurd (cc)
      go (inr (inl (t, f))) more = inl (inl t)
      go (inr (inr (low, f))) more = then_rest (more low f)
  shown g h (node (below t) j c r) (x ∷ ks) new k d m e s (first, rest, one, more, q) i =
      go (get_parted laws.cmp o (pairs t) j c (row_pairs r) k d m e) (λ low f.
      shown (part_behind g j) (part_behind h x) r ks rest k d (map-rest laws.cmp (pairs t) ((j, c) ∷ row_pairs r) m).1 f s.1 more (up_low laws.cmp o x j k (same_down laws.cmp o j x s.0) low, i.1))
    where
      then_rest : IsShown (part_behind g j) r rest k d → IsShown g (node (below t) j c r) new k d
      then_rest (inl b) = inl (inr b)
      then_rest (inr (inl b)) = inr (inl (subst (AnyByRecursion (IsInGap laws.cmp k)) (sym q) (any-append (IsInGap laws.cmp k) first rest (inr b))))
      then_rest (inr (inr (u, p, own, b))) = inr (inr (u, inr p, own, b))

      here : (u : Tree K (List ℕ)) → IsPageIn u u
      here (page l z w) = inl refl

      then_held : get laws.cmp (pairs t) k ≡ Some d → AnyByRecursion (IsInGap laws.cmp k) first ⊎ HasPage laws local (page_digest format laws.bytes_of t) → IsShown g (node (below t) j c r) new k d
      then_held f (inl b) = inr (inl (subst (AnyByRecursion (IsInGap laws.cmp k)) (sym q) (any-append (IsInGap laws.cmp k) first rest (inl b))))
      then_held f (inr p) = inr (inr (t, inl (here t), p, f))

      go : IsParted laws.cmp o (pairs t) j c (row_pairs r) k d → (Below laws.cmp j k → get laws.cmp (row_pairs r) k ≡ Some d → IsShown (part_behind g j) r rest k d)
          → IsShown g (node (below t) j c r) new k d
      go (inl (low, f)) rest_of = then_held f (new_gap_covers (part_before h x) (page_digest format laws.bytes_of t) first k one (i.0, low_up laws.cmp o k j x low (same_up laws.cmp o j x s.0)))
      go (inr (inl (t, f))) rest_of = inl (inl t)
      go (inr (inr (low, f))) rest_of = then_rest (rest_of low f)
