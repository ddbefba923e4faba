use Rattle.std.proofs.Common.{take}
use Rattle.merkle_wire.specs.Outlines.{keys_among, node_pairs}
use Rattle.merkle_wire.proofs.FoundRows.{AreFound}
use Rattle.merkle_wire.proofs.nodes.rows_of.Given as goal

-- the rows of the first nodes are found, and written after the key
abbrev pub invariant-nodes : goal.invariant-nodes
invariant-nodes g l =
    AreFound g.K.Ord.cmp g.K.Encode.encoding g.V.Encode.encoding (g.R.KeptRows.rows l.rows) l.fn.run
    (keys_among (node_pairs (take l.node-index l.nodes))) l.node-index l.told l.run
