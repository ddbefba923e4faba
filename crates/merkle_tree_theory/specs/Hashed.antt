-- What hashing does to a tree.
use Rattle.std.specs.Prelude.{◌≡◌, ℕ, List, Some}
use Rattle.merkle_tree_theory.specs.Cache.{uncached_pages, tree_with_digests}
use Rattle.merkle_tree_theory.specs.State.{State, map_of}
use Rattle.merkle_tree_theory.specs.Stream.{page_digest}

module _ {K H : Type 0} (bytes_of : K → List ℕ) where
  -- the tree with every digest in place, and that of its root page as its root hash
  abbrev pub hashed_tree : State K H → State K H
  hashed_tree tree = record tree { root = tree_with_digests tree.format bytes_of tree.root; root_hash = Some (page_digest tree.format bytes_of tree.root) }

  -- the tree is another one hashed; so it has the same map, and no page lacks a digest
  pub record IsHashed (before after : State K H) : Type 0 where
    pub tree : after ≡ hashed_tree before
    pub map : map_of after ≡ map_of before
    pub hashed : uncached_pages after.root ≡ 0
