use Rattle.std.proofs.Common.{ap, lit<}
use Rattle.c_trees.specs.Keys.{key_digest}
use Rattle.c_trees.proofs.byte_tree.ByteTree.try_clone.Goals as goal

pub try_clone-requires : goal.try_clone-requires
try_clone-requires c = (lit< tt, λ a b same k. ap (λ hashing. key_digest hashing k.items) same)
