-- What is taken of what was told of one page covers the keys in its gap, or its nodes, while digests are faithful.
use Rattle.std.proofs.Common.{◌≡◌, ℕ, Bool, true, false, List, [], ◌∷◌, ◌++◌, map, Option, Some, None, refl, sym, ap, subst, ◌∙◌, ◌⊎◌, inl, inr}
use Rattle.std.specs.List.{AllByRecursion}
use Rattle.std.specs.Cmp.{IsTotalOrder, IsEquivalence, tied_back}
use Rattle.key_order.specs.Map.{IsMap, SameMap, get}
use Rattle.key_order.specs.Order.{AnyByRecursion, Same}
use Rattle.key_order.proofs.ListParts.{each-append}
use Rattle.key_order.proofs.Maps.{get_same}
use Rattle.key_order.proofs.SameKeys.{SameKeys, same_keys-back}
use Rattle.key_order.proofs.SameMaps.{ascends}
use Rattle.merkle_diff.proofs.Each.{each-with}
use Rattle.merkle_replica.specs.CatchUp.{IsLacked}
use Rattle.merkle_replica.specs.Contents.{Side, tree_map}
use Rattle.merkle_replica.specs.Descent.{HasPage}
use Rattle.merkle_replica.specs.Faithful.{HaveFaithfulPages}
use Rattle.merkle_replica.specs.Laws.{Laws}
use Rattle.merkle_replica.proofs.Bounds.{ascending_digests}
use Rattle.merkle_replica.proofs.Descents.{same_get}
use Rattle.merkle_replica.proofs.Rounds.{any-append}
use Rattle.merkle_search_tree.proofs.SameItems.{same_gap-back, same_gap-trans}
use Rattle.merkle_tree_theory.specs.Canonical.{IsTreeOf, SamePages}
use Rattle.merkle_tree_theory.specs.Gap.{Gap, IsInGap, SameGap}
use Rattle.merkle_tree_theory.specs.Lookup.{page_over}
use Rattle.merkle_tree_theory.specs.Outline.{Item, outline_where, outline_over}
use Rattle.merkle_tree_theory.specs.Page.{nodes_of, pair_of, pairs}
use Rattle.merkle_tree_theory.specs.Ranges.{IsPageIn}
use Rattle.merkle_tree_theory.specs.Stream.{page_digest}
use Rattle.merkle_tree_theory.specs.Tree.{Tree, page}
use Rattle.merkle_tree_theory.proofs.OutlineDescents.{get_inside}
use Rattle.merkle_tree_theory.proofs.PagesIn.{page_in}
use Rattle.merkle_wire.specs.Underway.{Found}
use Rattle.merkle_wire.specs.Outlines.{Outline, rows_told, digests_told, page_told, IsTold, HasNoPage, nodes_among, keys_among, pages_beside, nodes_digest}
use Rattle.merkle_wire.specs.Sessions.{IsFaithfulSession, IsNewRow}
use Rattle.merkle_wire.specs.Taking.{HasNodes, AreNewGaps, IsPageTaken, new_keys}
use Rattle.merkle_wire.proofs.RoundCovers.{new_keys_cover, has_not_all, rows_at_theirs, rows_at_cover, theirs_alike, any_alike, has_row_there, new_rows_new, new_rows_cover}
use Rattle.merkle_wire.proofs.OverGaps.{over_has}
use Rattle.merkle_wire.proofs.PagesBelow.{in_gap-alike, map_inside, items_in, nodes_are, nodes_over_in, all_nodes, IsShown, shown}
use Rattle.merkle_wire.proofs.SameNodes.{node_over-same}
use Rattle.merkle_wire.proofs.TakenGaps.{IsGapOrNone, nodes_or_none, nodes_spared}
use Rattle.merkle_wire.proofs.TellingReplies.{SameOutline}
use Rattle.merkle_wire.proofs.Covering.{IsNodeOver, IsAmong, IsRowOfPeer}
use Rattle.merkle_wire.proofs.Lacking.{new_rows}

-- what is known of the two sides and of the peer's tree: rows ascend, equal values have equal digests, and two trees of the peer's map are the same
pub record AreSides {K V H : Type 0} (laws : Laws K V H) (local peer : Side K V H) (root tree : Tree K (List ℕ)) : Type 0 where
  pub up : IsMap laws.cmp local.rows
  pub up_peer : IsMap laws.cmp peer.rows
  pub respects : (h : H) (a b : V) → laws.eq a b ≡ true → laws.value_digest h a ≡ laws.value_digest h b
  pub is_tree : IsTreeOf laws.cmp (laws.key_digest peer.hasher) peer.base tree (tree_map laws peer)
  pub same : SamePages laws.cmp root tree
  pub back : SamePages laws.cmp tree root

module _ {K V H : Type 0} (laws : Laws K V H) (o : IsTotalOrder laws.cmp) (local peer : Side K V H) (root tree : Tree K (List ℕ)) (k : K) (f h : Found K V) where
  -- a key is among more where it is among less
  pub among-more : (AnyByRecursion (IsInGap laws.cmp k) f.below → AnyByRecursion (IsInGap laws.cmp k) h.below)
      → (AnyByRecursion (IsNodeOver laws peer root k) f.nodes → AnyByRecursion (IsNodeOver laws peer root k) h.nodes)
      → (AnyByRecursion (Same laws.cmp k) f.wanted → AnyByRecursion (Same laws.cmp k) h.wanted) → (AnyByRecursion (IsInGap laws.cmp k) f.whole → AnyByRecursion (IsInGap laws.cmp k) h.whole)
      → (AnyByRecursion (λ r. Same laws.cmp k r.0) f.rows → AnyByRecursion (λ r. Same laws.cmp k r.0) h.rows) → IsAmong laws peer root k f → IsAmong laws peer root k h
  among-more a b c d e (inl i) = inl (a i)
  among-more a b c d e (inr (inl i)) = inr (inl (b i))
  among-more a b c d e (inr (inr (inl i))) = inr (inr (inl (c i)))
  among-more a b c d e (inr (inr (inr (inl i)))) = inr (inr (inr (inl (d i))))
  among-more a b c d e (inr (inr (inr (inr i)))) = inr (inr (inr (inr (e i))))

module _ {K V H : Type 0} (laws : Laws K V H) (o : IsTotalOrder laws.cmp) (eqv : IsEquivalence laws.eq) (local peer : Side K V H) (root tree : Tree K (List ℕ))
    (sides : AreSides laws local peer root tree) where
  abbrev Lacked : K → Type 0
  Lacked = IsLacked laws local peer

  abbrev Theirs : K × V → Type 0
  Theirs = IsRowOfPeer laws local peer

  abbrev New : K × V → Type 0
  New = IsNewRow laws local peer

  abbrev items : Gap K → List (Item K (List ℕ))
  items g = outline_over peer.format laws.bytes_of laws.cmp tree g

  abbrev IsPeers : K × List ℕ → Type 0
  IsPeers n = get laws.cmp (tree_map laws peer) n.0 ≡ Some n.1

  up_tree : IsMap laws.cmp (pairs tree)
  up_tree = ascends laws.cmp o (λ d e. d ≡ e) (pairs tree) (tree_map laws peer) sides.is_tree.1 (ascending_digests laws.cmp o (laws.value_digest peer.hasher) peer.rows sides.up_peer)

  pub at_tree : (j : K) → get laws.cmp (pairs tree) j ≡ get laws.cmp (tree_map laws peer) j
  at_tree j = same_get laws.cmp o (pairs tree) (tree_map laws peer) sides.is_tree.1 j

  -- the nodes of the page over a gap are the peer's
  pub nodes_peers : (g : Gap K) → AllByRecursion IsPeers (nodes_among (items g))
  nodes_peers g =
      each-with (λ n. get laws.cmp (pairs tree) n.0 ≡ Some n.1) IsPeers (nodes_among (items g)) (λ n e. sym (at_tree n.0) ∙ e) (nodes_over_in laws.cmp o peer.format laws.bytes_of tree g up_tree)

  -- no key that is missing is hidden
  pub none_hidden : HaveFaithfulPages laws local peer → (k : K) → Lacked k → (t : Tree K (List ℕ)) → IsPageIn t tree
      → HasPage laws local (page_digest peer.format laws.bytes_of t) → (d : List ℕ) → get laws.cmp (pairs t) k ≡ Some d → ⊥
  none_hidden faithful k (e, there, lacks) t i (s, (u, (form, own), j), digests) d f =
      let maps = faithful s t (u, (form, own), j) (tree, sides.is_tree, i) digests in
      let found : get laws.cmp (pairs s) k ≡ Some d = same_get laws.cmp o (pairs s) (pairs t) maps k ∙ f in
      let up_own = ascends laws.cmp o (λ x y. x ≡ y) (pairs u) (tree_map laws local) own (ascending_digests laws.cmp o (laws.value_digest local.hasher) local.rows sides.up) in
      let in_local : get laws.cmp (tree_map laws local) k ≡ Some d = sym (same_get laws.cmp o (pairs u) (tree_map laws local) own k) ∙ get_inside laws.cmp o s u k d j up_own found in
      let in_peer : get laws.cmp (tree_map laws peer) k ≡ Some d = sym (at_tree k) ∙ get_inside laws.cmp o t tree k d i up_tree f in
      lacks (in_local ∙ sym in_peer ∙ there)

  -- where no page is below the page over a gap, a key of the gap is its node
  gap_is_nodes : (g : Gap K) (k : K) → Lacked k → IsInGap laws.cmp k g → HasNoPage (items g) → AnyByRecursion (Same laws.cmp k) (keys_among (nodes_among (items g)))
  gap_is_nodes g k (d, there, lacks) i none =
      let (p, f, inside, found) = over_has laws.cmp o g k d i tree up_tree (at_tree k ∙ there) in
      go p f (map_inside laws.cmp o p tree up_tree inside) found
    where
      go : (p : Tree K (List ℕ)) → page_over laws.cmp g tree ≡ Some p → IsMap laws.cmp (pairs p) → get laws.cmp (pairs p) k ≡ Some d
          → AnyByRecursion (Same laws.cmp k) (keys_among (nodes_among (items g)))
      go (page l c r) f m found =
          let is : items g ≡ items_in laws.cmp o peer.format laws.bytes_of g r = ap (outline_where peer.format laws.bytes_of g) f in
          subst (λ xs. AnyByRecursion (Same laws.cmp k) (keys_among (nodes_among xs))) (sym is)
          (all_nodes laws.cmp o peer.format laws.bytes_of g r k d m (subst (λ xs. HasNoPage xs) is none) found)

  -- what is asked about a gap: the keys in it, or the nodes of the page over it
  abbrev pub IsAbout : Bool → K → Gap K → Type 0
  IsAbout true k g = IsInGap laws.cmp k g
  IsAbout false k g = IsNodeOver laws peer root k g

  about_is_node : (with_pages : Bool) (g h : Gap K) (k : K) → Lacked k → SameGap laws.cmp g h → IsAbout with_pages k g → (with_pages ≡ true → HasNoPage (items h))
      → AnyByRecursion (Same laws.cmp k) (keys_among (nodes_among (items h)))
  about_is_node true g h k l s i none = gap_is_nodes h k l (in_gap-alike laws.cmp o g h k s i) (none refl)
  about_is_node false g h k l s i none = node_over-same laws.cmp o peer.format laws.bytes_of root tree g h k sides.same s i

  -- the same nodes
  pub same_nodes : (ns ms : List (K × List ℕ)) → SameMap laws.cmp (λ d e. d ≡ e) ns ms → AllByRecursion IsPeers ms → AllByRecursion IsPeers ns
  same_nodes [] [] s a = tt
  same_nodes [] (m ∷ ms) s a = absurd s
  same_nodes (n ∷ ns) [] s a = absurd s
  same_nodes (n ∷ ns) (m ∷ ms) s a = (get_same laws.cmp o (tree_map laws peer) n.0 m.0 s.0 ∙ a.0 ∙ ap Some (sym s.1), same_nodes ns ms s.2 a.1)

  any_nodes : (ns ms : List (K × List ℕ)) (k : K) → SameMap laws.cmp (λ d e. d ≡ e) ns ms → AnyByRecursion (Same laws.cmp k) (keys_among ms) → AnyByRecursion (Same laws.cmp k) (keys_among ns)
  any_nodes [] [] k s i = absurd i
  any_nodes [] (m ∷ ms) k s i = absurd s
  any_nodes (n ∷ ns) [] k s i = absurd s
  any_nodes (n ∷ ns) (m ∷ ms) k s (inl t) = inl (o.congr k m.0 n.0 t ∙ tied_back o n.0 m.0 s.0)
  any_nodes (n ∷ ns) (m ∷ ms) k s (inr i) = inr (any_nodes ns ms k s.2 i)

  -- a page that was told with those below it
  page_covers : IsFaithfulSession laws local peer → (g h : Gap K) (digest : List ℕ) (keys : List K) (pages : List (Option (List ℕ))) (gaps nodes : List (Gap K)) (k : K)
      → Lacked k → SameGap laws.cmp g h → IsInGap laws.cmp k g
      → digest ≡ nodes_digest (nodes_among (items h)) → SameKeys laws.cmp keys (keys_among (nodes_among (items h))) → pages ≡ pages_beside None (items h)
      → AreNewGaps laws local g keys pages gaps → IsGapOrNone laws local g nodes
      → (nodes ≡ [] → HasNodes laws local keys digest) → AnyByRecursion (IsInGap laws.cmp k) gaps ⊎ AnyByRecursion (IsNodeOver laws peer root k) nodes
  page_covers faith g h digest keys pages gaps nodes k (d, there, lacks) s i digests are beside new one few =
      let (p, f, inside, found) = over_has laws.cmp o h k d (in_gap-alike laws.cmp o g h k s i) tree up_tree (at_tree k ∙ there) in
      go p f inside found
    where
      node_covers : (p : Tree K (List ℕ)) → IsPageIn p tree → nodes_among (items h) ≡ map pair_of (nodes_of p) → (nodes : List (Gap K)) → IsGapOrNone laws local g nodes
          → (nodes ≡ [] → HasNodes laws local keys digest)
          → AnyByRecursion (Same laws.cmp k) (keys_among (nodes_among (items h))) → AnyByRecursion (IsNodeOver laws peer root k) nodes
      node_covers p inside nodes_of_p [] one few a =
          absurd (has_not_all laws o eqv local peer faith.nodes p (tree, sides.is_tree, inside) (nodes_among (items h)) nodes_of_p keys digest k (d, there, lacks)
          (nodes_peers h) (same_keys-back laws.cmp o keys (keys_among (nodes_among (items h))) are) digests (few refl) a)
      node_covers p inside nodes_of_p (own ∷ []) one few a =
          inl (node_over-same laws.cmp o peer.format laws.bytes_of tree root h own k sides.back (same_gap-trans laws.cmp o h g own (same_gap-back laws.cmp o g h s) one) a)
      node_covers p inside nodes_of_p (own ∷ other ∷ others) one few a = absurd one

      go : (p : Tree K (List ℕ)) → page_over laws.cmp h tree ≡ Some p → IsPageIn p tree → get laws.cmp (pairs p) k ≡ Some d → AnyByRecursion (IsInGap laws.cmp k) gaps
          ⊎ AnyByRecursion (IsNodeOver laws peer root k) nodes
      go (page l c r) f inside found =
          let is : items h ≡ items_in laws.cmp o peer.format laws.bytes_of h r = ap (outline_where peer.format laws.bytes_of h) f in
          by (shown laws o local peer.format h g r keys gaps k d (map_inside laws.cmp o (page l c r) tree up_tree inside) found
          (subst (λ xs. SameKeys laws.cmp (keys_among (nodes_among xs)) keys) is (same_keys-back laws.cmp o keys (keys_among (nodes_among (items h))) are))
          (subst (λ ps. AreNewGaps laws local g keys ps gaps) (beside ∙ ap (pages_beside None) is) new) i)
        where
          by : IsShown laws o local peer.format h r gaps k d → AnyByRecursion (IsInGap laws.cmp k) gaps ⊎ AnyByRecursion (IsNodeOver laws peer root k) nodes
          by (inl a) = inr (node_covers (page l c r) inside
              (ap nodes_among (ap (outline_where peer.format laws.bytes_of h) f) ∙ nodes_are laws.cmp o peer.format laws.bytes_of h r) nodes one few
              (subst (λ xs. AnyByRecursion (Same laws.cmp k) (keys_among (nodes_among xs))) (sym (ap (outline_where peer.format laws.bytes_of h) f)) a))
          by (inr (inl b)) = inl b
          by (inr (inr (t, lower, own, q))) = absurd (none_hidden faith.faithful.same_pages k (d, there, lacks) t (page_in t (page l c r) tree (inr lower) inside) own d q)

  -- what was told is taken: a key that it is about is among what was found
  pub one_covers : IsFaithfulSession laws local peer → (with_pages : Bool) (g h : Gap K) (x y : Outline K V) (before after : Found K V) (k : K) → Lacked k
      → SameGap laws.cmp g h → SameOutline laws.cmp laws.eq x y → IsAbout with_pages k g
      → IsTold laws.cmp peer.rows with_pages (items h) y → IsPageTaken laws local g x before after → IsAmong laws peer root k after
  one_covers faith with_pages g h (rows_told rs) (rows_told ss) before after k l s same about (none, told) taken =
      let node = about_is_node with_pages g h k l s about none in
      let came = any_alike laws o eqv local peer rs ss k same (rows_at_cover laws o eqv local peer (keys_among (nodes_among (items h))) ss k (has_row_there laws o eqv local peer k l) told node) in
      let theirs = theirs_alike laws o eqv local peer rs ss same (rows_at_theirs laws o eqv local peer (keys_among (nodes_among (items h))) ss told) in
      let new = new_rows_cover laws o eqv local peer sides.respects faith.values rs k l theirs came in
      subst (IsAmong laws peer root k) (sym taken) (inr (inr (inr (inr (any-append (λ r. Same laws.cmp k r.0) before.rows (new_rows laws local rs) (inr new))))))
  one_covers faith with_pages g h (digests_told ns) (digests_told ms) before after k l s same about (none, told) taken =
      let node = about_is_node with_pages g h k l s about none in
      let is = subst (SameMap laws.cmp (λ d e. d ≡ e) ns) told same in
      let new = new_keys_cover laws o eqv local peer ns k l (same_nodes ns (nodes_among (items h)) is (nodes_peers h)) (any_nodes ns (nodes_among (items h)) k is node) in
      subst (IsAmong laws peer root k) (sym taken) (inr (inr (inl (any-append (Same laws.cmp k) before.wanted (new_keys laws local ns) (inr new)))))
  one_covers faith true g h (page_told c js ps) (page_told d ks qs) before after k l s same about (yes', digests, are, beside) (gaps, nodes, new, own, taken) =
      subst (IsAmong laws peer root k) (sym taken)
      (go (page_covers faith g h c js ps gaps nodes k l s about (same.0 ∙ digests) (subst (SameKeys laws.cmp js) are same.1) (same.2 ∙ beside) new
      (nodes_or_none laws local g js c nodes own) (nodes_spared laws local g js c nodes own)))
    where
      go : AnyByRecursion (IsInGap laws.cmp k) gaps ⊎ AnyByRecursion (IsNodeOver laws peer root k) nodes
          → IsAmong laws peer root k (record before { below = before.below ++ gaps; nodes = before.nodes ++ nodes })
      go (inl a) = inl (any-append (IsInGap laws.cmp k) before.below gaps (inr a))
      go (inr a) = inr (inl (any-append (IsNodeOver laws peer root k) before.nodes nodes (inr a)))
  one_covers faith false g h (page_told c js ps) (page_told d ks qs) before after k l s same about told taken = let never : false ≡ true = told.0 in absurd (cc)
  one_covers faith with_pages g h (rows_told rs) (digests_told ms) before after k l s same about told taken = absurd same
  one_covers faith with_pages g h (rows_told rs) (page_told d ks qs) before after k l s same about told taken = absurd same
  one_covers faith with_pages g h (digests_told ns) (rows_told ss) before after k l s same about told taken = absurd same
  one_covers faith with_pages g h (digests_told ns) (page_told d ks qs) before after k l s same about told taken = absurd same
  one_covers faith with_pages g h (page_told c js ps) (rows_told ss) before after k l s same about told taken = absurd same
  one_covers faith with_pages g h (page_told c js ps) (digests_told ms) before after k l s same about told taken = absurd same

  -- what was found before still is
  pub one_keeps : (g : Gap K) (x : Outline K V) (before after : Found K V) (k : K) → IsPageTaken laws local g x before after → IsAmong laws peer root k before → IsAmong laws peer root k after
  one_keeps g (rows_told rs) before after k taken =
      among-more laws o local peer root tree k before after
      (λ a. subst (λ f. AnyByRecursion (IsInGap laws.cmp k) f.below) (sym taken) a) (λ a. subst (λ f. AnyByRecursion (IsNodeOver laws peer root k) f.nodes) (sym taken) a)
      (λ a. subst (λ f. AnyByRecursion (Same laws.cmp k) f.wanted) (sym taken) a) (λ a. subst (λ f. AnyByRecursion (IsInGap laws.cmp k) f.whole) (sym taken) a)
      (λ a. subst (λ f. AnyByRecursion (λ r. Same laws.cmp k r.0) f.rows) (sym taken) (any-append (λ r. Same laws.cmp k r.0) before.rows (new_rows laws local rs) (inl a)))
  one_keeps g (digests_told ns) before after k taken =
      among-more laws o local peer root tree k before after
      (λ a. subst (λ f. AnyByRecursion (IsInGap laws.cmp k) f.below) (sym taken) a) (λ a. subst (λ f. AnyByRecursion (IsNodeOver laws peer root k) f.nodes) (sym taken) a)
      (λ a. subst (λ f. AnyByRecursion (Same laws.cmp k) f.wanted) (sym taken) (any-append (Same laws.cmp k) before.wanted (new_keys laws local ns) (inl a)))
      (λ a. subst (λ f. AnyByRecursion (IsInGap laws.cmp k) f.whole) (sym taken) a)
      (λ a. subst (λ f. AnyByRecursion (λ r. Same laws.cmp k r.0) f.rows) (sym taken) a)
  one_keeps g (page_told c js ps) before after k (gaps, nodes, new, own, taken) =
      among-more laws o local peer root tree k before after
      (λ a. subst (λ f. AnyByRecursion (IsInGap laws.cmp k) f.below) (sym taken) (any-append (IsInGap laws.cmp k) before.below gaps (inl a)))
      (λ a. subst (λ f. AnyByRecursion (IsNodeOver laws peer root k) f.nodes) (sym taken) (any-append (IsNodeOver laws peer root k) before.nodes nodes (inl a)))
      (λ a. subst (λ f. AnyByRecursion (Same laws.cmp k) f.wanted) (sym taken) a) (λ a. subst (λ f. AnyByRecursion (IsInGap laws.cmp k) f.whole) (sym taken) a)
      (λ a. subst (λ f. AnyByRecursion (λ r. Same laws.cmp k r.0) f.rows) (sym taken) a)

  -- rows that were found are new
  pub one_new : (with_pages : Bool) (g h : Gap K) (x y : Outline K V) (before after : Found K V) → SameOutline laws.cmp laws.eq x y
      → IsTold laws.cmp peer.rows with_pages (items h) y → IsPageTaken laws local g x before after
      → AllByRecursion New before.rows → AllByRecursion New after.rows
  one_new with_pages g h (rows_told rs) (rows_told ss) before after same told taken a =
      let theirs = theirs_alike laws o eqv local peer rs ss same (rows_at_theirs laws o eqv local peer (keys_among (nodes_among (items h))) ss told.1) in
      subst (λ f. AllByRecursion New f.rows) (sym taken) (each-append New before.rows (new_rows laws local rs) a (new_rows_new laws o eqv local peer rs theirs))
  one_new with_pages g h (rows_told rs) (digests_told ms) before after same told taken a = absurd same
  one_new with_pages g h (rows_told rs) (page_told d ks qs) before after same told taken a = absurd same
  one_new with_pages g h (digests_told ns) y before after same told taken a = subst (λ f. AllByRecursion New f.rows) (sym taken) a
  one_new with_pages g h (page_told c js ps) y before after same told (gaps, nodes, new, own, taken) a = subst (λ f. AllByRecursion New f.rows) (sym taken) a
