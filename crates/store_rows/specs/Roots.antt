-- The root of the tree of a log's latest registers.
use Rattle.std.specs.Prelude.{◌≡◌, ℕ, List, length}
use Rattle.merkle_tree_theory.specs.TreeOf.{tree_of}
use Rattle.sqlite_trees.specs.Tree.{Trees}
use Rattle.store_tree.specs.Calls.{IsRootDigest}
use Rattle.store_tree.specs.Texts.{bytes_map}
use Rattle.store_rows.specs.Digests.{TextDigests, key_level}
use Rattle.store_rows.specs.InStep.{HasTreeOfDigests}
use Rattle.store_rows.specs.declared.hashing.Root.{Root}

-- it has the digest of the root page of the tree of these keys, and their number
pub record IsRootOfDigests (hash_key : List ℕ) (pairs : TextDigests) (root : Root) : Type 0 where
  pub digest : IsRootDigest root.digest (tree_of (key_level hash_key) (bytes_map pairs))
  pub count : root.count ≡ length pairs

-- it is the root of the tree that the table of cells has, of whatever keys with the digests of their latest registers that is
abbrev pub IsRootIn : List ℕ → Trees → Root → Type 0
IsRootIn hash_key trees root = (pairs : TextDigests) → HasTreeOfDigests hash_key pairs trees → IsRootOfDigests hash_key pairs root
