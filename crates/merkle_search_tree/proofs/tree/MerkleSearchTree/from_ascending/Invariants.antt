use Rattle.std.proofs.Common.{◌≡◌}
use Rattle.merkle_tree_theory.specs.Edge.{edge_pairs}
use Rattle.merkle_search_tree.specs.Loading.{digests, IsLoading}
use Rattle.merkle_search_tree.proofs.tree.MerkleSearchTree.from_ascending.Given as goal

abbrev pub invariant-rows : goal.invariant-rows
invariant-rows g l = record {
  loading : IsLoading g.K.Ord.cmp g.H.Hasher-1.digest_of l.fn.builder l.loading;
  held : edge_pairs l.loading.edge.items ≡ digests (g.H.Hasher-2.digest_of l.fn.builder.hasher) l.yielded;
}
