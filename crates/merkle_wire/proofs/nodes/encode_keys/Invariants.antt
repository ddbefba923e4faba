use Rattle.std.proofs.Common.{◌≡◌, ◌++◌, length, take}
use Rattle.merkle_bytes.specs.Counts.{count_bytes}
use Rattle.merkle_bytes.specs.Keys.{key_behind}
use Rattle.merkle_bytes.specs.Runs.{entries_bytes, state_behind}
use Rattle.merkle_wire.specs.Outlines.{keys_among, node_pairs}
use Rattle.merkle_wire.proofs.nodes.encode_keys.Given as goal

-- the keys of the first nodes are written
abbrev pub invariant-nodes : goal.invariant-nodes
invariant-nodes g l =
    let encoding = g.K.Encode.encoding in
    let first = keys_among (node_pairs (take l.node-index l.nodes)) in
    (l.bytes.items ≡ (l.fn.bytes.items ++ count_bytes (length l.nodes)) ++ entries_bytes (λ last k. key_behind last (encoding k)) (λ last k. encoding k) l.fn.run first)
    × (l.run ≡ state_behind (λ last k. key_behind last (encoding k)) (λ last k. encoding k) l.fn.run first)
