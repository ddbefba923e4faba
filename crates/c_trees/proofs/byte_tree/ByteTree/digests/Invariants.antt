use Rattle.std.proofs.Common.{◌≡◌, ◌++◌, map}
use Rattle.std.specs.List.{flat_map}
use Rattle.merkle_tree_theory.specs.Page.{pair_of}
use Rattle.c_values.specs.Keys.{by_key, pairs_of}
use Rattle.c_trees.specs.Wire.{digest_bytes, digest_list}
use Rattle.c_trees.proofs.byte_tree.ByteTree.digests.Given as goal

-- what was written, and the nodes that are left as bytes, are the list
abbrev pub invariant-nodes : goal.invariant-nodes
invariant-nodes l = l.out.items ++ flat_map digest_bytes (map by_key (map pair_of l.node-iterator)) ≡ digest_list (pairs_of l.self.tree)
