use Rattle.std.proofs.Common.{◌≡◌, ℕ, false, get_or, ◌+◌, ◌-◌, ◌^◌, ◌<◌, ◌≤◌, length}
use Rattle.std.specs.Ordering.{is_eq}
use Rattle.merkle_tree_theory.specs.Tree.{Node}
use Rattle.merkle_tree_theory.specs.Search.{ComparesByHalves}
use Rattle.merkle_tree_theory.specs.Upsert.{place}
use Rattle.merkle_tree_theory.proofs.Search.{between}
use Rattle.merkle_search_tree.proofs.spot.search.Given as goal

abbrev pub invariant-halves : goal.invariant-halves
invariant-halves g l =
    (l.low ≤ place g.K.Ord.cmp l.key l.nodes)
    × (place g.K.Ord.cmp l.key l.nodes ≤ l.high)
    × (l.high ≤ length l.nodes)
    × ((digits : ℕ) → length l.nodes < 2 ^ digits → (l.compared ≤ digits) × (l.high - l.low < 2 ^ (digits - l.compared)))
    × ((e : Node g.row.K.Denot g.row.D.Denot) → l.high < length l.nodes → is_eq (g.K.Ord.cmp l.key (get_or l.nodes l.high e).key) ≡ false)
    × ((n : ℕ) → ComparesByHalves g.K.Ord.cmp l.key n (between l.low l.high l.nodes) → ComparesByHalves g.K.Ord.cmp l.key (l.compared + n) l.nodes)

abbrev pub decreases-halves : goal.decreases-halves
decreases-halves g l = l.high - l.low
