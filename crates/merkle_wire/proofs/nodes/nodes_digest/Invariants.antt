use Rattle.std.proofs.Common.{map, take}
use Rattle.std.specs.List.{flat_map}
use Rattle.merkle_digest.specs.SipHash.{zero_key}
use Rattle.merkle_digest.specs.Sip24.{Holds}
use Rattle.merkle_wire.proofs.nodes.nodes_digest.Given as goal
use Rattle.merkle_wire.specs.Outlines.{node_pairs}

-- the digests of the first nodes are written
abbrev pub invariant-nodes : goal.invariant-nodes
invariant-nodes g l = Holds l.sip zero_key (flat_map (λ d. d) (map (λ p. p.1) (node_pairs (take l.node-index l.nodes))))
