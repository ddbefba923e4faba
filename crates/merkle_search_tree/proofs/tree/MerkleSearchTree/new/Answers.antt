use Rattle.std.proofs.Common.{refl}
use Rattle.merkle_search_tree.proofs.tree.MerkleSearchTree.new.Goals as goal

pub invariant_of-result : goal.invariant_of-result
invariant_of-result g c = rw c.empty.ensures (record { ascending = tt; canonical = refl; caches = tt; root_hash_holds = tt })
