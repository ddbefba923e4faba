use Rattle.std.proofs.Common.{◌≡◌, ◌++◌, take}
use Rattle.std.specs.List.{flat_map}
use Rattle.merkle_wire.proofs.nodes.encode_digests.Given as goal
use Rattle.merkle_wire.specs.Outlines.{node_pairs}

-- the digests of the first nodes are written
abbrev pub invariant-nodes : goal.invariant-nodes
invariant-nodes g l = l.bytes.items ≡ l.fn.bytes.items ++ flat_map (λ p. p.1) (node_pairs (take l.node-index l.nodes))
