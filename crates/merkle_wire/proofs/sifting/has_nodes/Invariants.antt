use Rattle.std.proofs.Common.{◌≡◌, ℕ, List, Some, map, take}
use Rattle.std.specs.List.{flat_map}
use Rattle.key_order.specs.Map.{get}
use Rattle.merkle_digest.specs.SipHash.{zero_key}
use Rattle.merkle_digest.specs.Sip24.{Holds}
use Rattle.merkle_wire.specs.Steps.{below_keys}
use Rattle.merkle_wire.proofs.sifting.has_nodes.Given as goal

-- the keys of the first nodes are there, and their digests are written
abbrev pub invariant-nodes : goal.invariant-nodes
invariant-nodes g l = record {
  steady : g.T.KeptTree.is_sound l.tree → g.T.KeptTree.is_sound l.fn.tree;
  kept : g.T.KeptTree.is_sound l.tree → g.T.KeptTree.kept l.tree ≡ g.T.KeptTree.kept l.fn.tree;
  ds : List (List ℕ);
  there : g.T.KeptTree.is_sound l.tree → map (get g.K.Ord.cmp ((g.T.KeptTree.kept l.fn.tree).digests.map)) (below_keys (take l.node-index l.nodes)) ≡ map Some ds;
  written : Holds l.sip zero_key (flat_map (λ d. d) ds);
}
