use Rattle.std.proofs.Common.{◌≡◌, take}
use Rattle.key_order.specs.Map.{SameMap}
use Rattle.merkle_tree_theory.specs.Edge.{edge_pairs}
use Rattle.merkle_search_tree.specs.Loading.{digests, IsLoading}
use Rattle.merkle_search_tree.proofs.tree.MerkleSearchTree.from_ascending_slice.Given as goal

abbrev pub invariant-rows : goal.invariant-rows
invariant-rows g l = record {
  loading : IsLoading g.K.Ord.cmp g.H.Hasher-1.digest_of l.fn.builder l.loading;
  held : SameMap g.K.Ord.cmp (λ d e. d ≡ e) (edge_pairs l.loading.edge.items) (digests (g.H.Hasher-2.digest_of l.fn.builder.hasher) (take l.key-index l.rows));
}
