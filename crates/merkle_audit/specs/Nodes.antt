-- What is looked at of the nodes of pages.
use Rattle.std.specs.Prelude.{◌≡◌, ℕ, List, [], ◌∷◌, map, flat_map, Some}
use Rattle.std.specs.List.{AllByRecursion}
use Rattle.key_order.specs.Map.{get}
use Rattle.merkle_replica.specs.Contents.{Side, tree_map}
use Rattle.merkle_replica.specs.Descent.{HasDigestAt}
use Rattle.merkle_replica.specs.Laws.{Laws}
use Rattle.merkle_tree_theory.specs.Gap.{Gap}
use Rattle.merkle_tree_theory.specs.Outline.{Item, of_node, of_page, outline_over}
use Rattle.merkle_tree_theory.specs.Page.{nodes_of, pair_of}
use Rattle.merkle_tree_theory.specs.Ranges.{IsPageIn}
use Rattle.merkle_tree_theory.specs.State.{State}
use Rattle.merkle_tree_theory.specs.Tree.{Tree}
use Rattle.merkle_wire.specs.Outlines.{digest_of_all, keys_among, nodes_among, nodes_digest}

-- the gaps of the pages among the items of an outline
abbrev pub gaps_among : {K : Type 0} → List (Item K (List ℕ)) → List (Gap K)
gaps_among [] = []
gaps_among (of_node k d ∷ xs) = gaps_among xs
gaps_among (of_page g d ∷ xs) = g ∷ gaps_among xs

-- the items of the page over a gap
abbrev pub page_items_over : {K V H : Type 0} → Laws K V H → State K H → Gap K → List (Item K (List ℕ))
page_items_over laws tree g = outline_over tree.format laws.bytes_of laws.cmp tree.root g

module _ {K V H : Type 0} (laws : Laws K V H) (local : Side K V H) where
  -- the side has these digests of values at the keys of the nodes
  abbrev pub HasDigests : List (K × List ℕ) → List (List ℕ) → Type 0
  HasDigests nodes ds = map (get laws.cmp (tree_map laws local)) (keys_among nodes) ≡ map Some ds

  -- the side has each of the nodes
  abbrev pub HasAll : List (K × List ℕ) → Type 0
  HasAll = AllByRecursion (λ n. HasDigestAt laws local n.0 n.1)

  -- where the side has the keys of the nodes, the one digest over its digests is another than that over theirs
  abbrev pub Differ : List (K × List ℕ) → Type 0
  Differ nodes = (ds : List (List ℕ)) → HasDigests nodes ds → ¬ (digest_of_all ds ≡ nodes_digest nodes)

  -- where the side has the keys of the nodes, and the one digest over its digests is that over theirs, they are equal
  abbrev pub AreFaithful : List (K × List ℕ) → Type 0
  AreFaithful nodes = (ds : List (List ℕ)) → HasDigests nodes ds → digest_of_all ds ≡ nodes_digest nodes → ds ≡ map (λ n. n.1) nodes

  -- so are the nodes of each page of the tree
  abbrev pub AreFaithfulIn : Tree K (List ℕ) → Type 0
  AreFaithfulIn root = (page : Tree K (List ℕ)) → IsPageIn page root → AreFaithful (map pair_of (nodes_of page))

  -- so are those of each page over one of the gaps, and these are the gaps of the pages right below
  abbrev pub AreLookedAt : State K H → List (Gap K) → List (Gap K) → Type 0
  AreLookedAt tree gaps below =
      AllByRecursion (λ g. AreFaithful (nodes_among (page_items_over laws tree g))) gaps
      × (below ≡ flat_map (λ g. gaps_among (page_items_over laws tree g)) gaps)
