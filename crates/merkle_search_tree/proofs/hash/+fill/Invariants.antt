use Rattle.std.proofs.Common.{◌≡◌, ◌+◌, ◌-◌, ◌*◌, ◌^◌, ◌++◌, min, length, map, take, drop, sum_by}
use Rattle.std.specs.List.{flat_map}
use Rattle.merkle_digest.specs.SipHash.{zero_key}
use Rattle.merkle_digest.specs.Sip24.{Holds}
use Rattle.merkle_tree_theory.specs.Tree.{tree_size, held_size, held_of}
use Rattle.merkle_tree_theory.specs.Stream.{head_bytes}
use Rattle.merkle_tree_theory.proofs.FillingDigests.{node_filled, node_stream, node_missing}
use Rattle.merkle_search_tree.proofs.hash.+fill.Given as goal

abbrev pub invariant-Page+N+K::fill-nodes : goal.invariant-Page+N+K::fill-nodes
invariant-Page+N+K::fill-nodes g l =
    let old = l.initial.self-inside in
    (l.self-inside.nodes.items ≡ map (node_filled l.format g.K.KeyBytes.bytes_of) (take l.i old.nodes.items) ++ drop l.i old.nodes.items)
    × Holds l.sip zero_key (head_bytes l.format old.level (length old.nodes.items) ++ flat_map (node_stream l.format g.K.KeyBytes.bytes_of) (take l.i old.nodes.items))
    × (l.hashed ≡ min (1 + sum_by node_missing (take l.i old.nodes.items)) (2 ^ 64 - 1))
    × (l.self-inside.level ≡ old.level)
    × (l.self-inside.high_page ≡ old.high_page)
    × (l.i-end ≡ length old.nodes.items)

abbrev pub decreases-Page+N+K::fill : goal.decreases-Page+N+K::fill
decreases-Page+N+K::fill g l = 2 * tree_size l.self.now

abbrev pub decreases-fill_below : goal.decreases-fill_below
decreases-fill_below g l = 2 * held_size (held_of l.held.now) + 1
