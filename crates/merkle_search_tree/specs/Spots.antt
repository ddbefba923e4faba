-- Where a key goes among the nodes of a page.
use Rattle.std.specs.Ordering.{is_eq}
use Rattle.std.specs.Prelude.{◌≡◌, ◌<◌, List, length, slice_index_or}
use Rattle.std.specs.declared.cmp.Ordering.{Ordering}
use Rattle.merkle_tree_theory.specs.Tree.{Node}
use Rattle.merkle_search_tree.specs.declared.spot.Spot.{Spot}

-- where there is a node at the spot, the spot tells whether that node has the key
abbrev pub TellsIfThere : {K D : Type 0} → (K → K → Ordering) → K → List (Node K D) → Spot → Type 0
TellsIfThere {K} {D} cmp key nodes spot =
    (node : Node K D) → spot.at < length nodes → spot.is_there ≡ is_eq (cmp key (slice_index_or nodes spot.at node).key)
