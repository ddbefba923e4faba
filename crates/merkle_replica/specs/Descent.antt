-- The rounds of a catch-up: outlines of pages of the peer, and what they leave to look for.
use Rattle.std.specs.Prelude.{◌≡◌, ℕ, ◌+◌, true, false, List, [], ◌∷◌, ◌++◌, map, flat_map, Some, ◌⊎◌}
use denote.Ref.{Bor}
use Rattle.std.specs.declared.cmp.Ordering.{Ordering}
use Rattle.key_order.specs.Map.{get}
use Rattle.merkle_tree_theory.specs.Tree.{Tree}
use Rattle.merkle_tree_theory.specs.Gap.{Gap}
use Rattle.merkle_tree_theory.specs.Outline.{Item, of_node, of_page, outline_over, whole_item}
use Rattle.merkle_tree_theory.specs.Ranges.{IsPageOf}
use Rattle.merkle_tree_theory.specs.State.{State}
use Rattle.merkle_search_tree.specs.declared.gap.Gap.{Gap as BorrowedGap}
use Rattle.merkle_search_tree.specs.declared.outline.OutlineItemOf.{OutlineItemOf}
use Rattle.merkle_search_tree.specs.Items.{lent_gap, item, items}
use Rattle.merkle_tree_theory.specs.Stream.{page_digest}
use Rattle.merkle_replica.specs.Laws.{Laws}
use Rattle.merkle_replica.specs.Contents.{Side, tree_map}
use Rattle.merkle_replica.specs.Missing.{has_page_over}
use Rattle.merkle_replica.specs.declared.descent.ToAsk.{ToAsk}

-- borrowed gaps
abbrev pub gaps_of : {K : Type 0} → List (BorrowedGap K) → List (Gap K)
gaps_of = map lent_gap

-- borrowed keys
abbrev pub keys_of : {K : Type 0} → List (Bor K) → List K
keys_of = map (λ k. k.now)

module _ {K V H : Type 0} (laws : Laws K V H) (local : Side K V H) where
  -- the side's tree has the key with this digest
  abbrev pub HasDigestAt : K → List ℕ → Type 0
  HasDigestAt k digest = get laws.cmp (tree_map laws local) k ≡ Some digest

  -- the side's tree has a page with this digest
  abbrev pub HasPage : List ℕ → Type 0
  HasPage digest = (page : Tree K (List ℕ)) × IsPageOf laws.cmp (laws.key_digest local.hasher) local.base page (tree_map laws local) × (page_digest local.format laws.bytes_of page ≡ digest)

  -- what an item leaves to look for: nothing where the side has the node, or its page over the gap has the digest, else the page's gap or the node's key
  abbrev pub IsSortedOut : Item K (List ℕ) → List (Gap K) → List K → Type 0
  IsSortedOut (of_node k d) gaps keys = (gaps ≡ []) × (((get laws.cmp (tree_map laws local) k ≡ Some d) × (keys ≡ [])) ⊎ ((¬ (get laws.cmp (tree_map laws local) k ≡ Some d)) × (keys ≡ k ∷ [])))
  IsSortedOut (of_page g digest) gaps keys = (keys ≡ []) × (((has_page_over laws local g digest ≡ true) × (gaps ≡ [])) ⊎ ((has_page_over laws local g digest ≡ false) × (gaps ≡ g ∷ [])))

  abbrev pub AreSortedOut : List (Item K (List ℕ)) → List (Gap K) → List K → Type 0
  AreSortedOut [] gaps keys = (gaps ≡ []) × (keys ≡ [])
  AreSortedOut (e ∷ es) gaps keys =
      (o : List (Gap K)) × (os : List (Gap K)) × (w : List K) × (ws : List K)
      × IsSortedOut e o w × AreSortedOut es os ws × (gaps ≡ o ++ os) × (keys ≡ w ++ ws)

  -- what an item leaves to look for is added
  abbrev pub HasSortedOut : Item K (List ℕ) → List (Gap K) → List K → List (Gap K) → List K → Type 0
  HasSortedOut e gaps keys gaps' keys' = (o : List (Gap K)) × (w : List K) × IsSortedOut e o w × (gaps' ≡ gaps ++ o) × (keys' ≡ keys ++ w)

  -- what borrowed items leave to look for
  abbrev pub LeaveToAsk : List (OutlineItemOf K (List ℕ)) → ToAsk K → Type 0
  LeaveToAsk came asked = AreSortedOut (items came) (gaps_of asked.gaps.items) (keys_of asked.keys.items)

  -- what a borrowed item leaves to look for is added
  abbrev pub AddsToAsk : OutlineItemOf K (List ℕ) → ToAsk K → ToAsk K → Type 0
  AddsToAsk e asked asked' =
      HasSortedOut (item e) (gaps_of asked.gaps.items) (keys_of asked.keys.items) (gaps_of asked'.gaps.items) (keys_of asked'.keys.items)

module _ {K H : Type 0} (bytes_of : K → List ℕ) where
  -- the item that shows a whole tree, where it has a node
  abbrev pub whole_of : State K H → List (Item K (List ℕ))
  whole_of tree = whole_item tree.format bytes_of tree.root

  -- the outlines of a tree over the gaps, one after the other
  abbrev pub outlines_over : (K → K → Ordering) → State K H → List (BorrowedGap K) → List (Item K (List ℕ))
  outlines_over cmp tree gaps = flat_map (outline_over tree.format bytes_of cmp tree.root) (gaps_of gaps)

-- how many of the items are nodes
abbrev pub node_count : {K D : Type 0} → List (Item K D) → ℕ
node_count [] = 0
node_count (of_node k d ∷ es) = 1 + node_count es
node_count (of_page g digest ∷ es) = node_count es
