-- Replicas whose keys are texts, under SipHash.
use Rattle.std.specs.Prelude.{◌≡◌, ℕ, List, string_bytes}
use Rattle.key_order.specs.Text.{Text, text_order}
use Rattle.merkle_digest.specs.SipDigests.{text_digest}
use Rattle.merkle_digest.specs.SipHash.{siphash128}
use Rattle.merkle_tree_theory.specs.Canonical.{IsTreeOf}
use Rattle.merkle_search_tree.specs.Loading.{digests}
use Rattle.merkle_tree_theory.specs.Stream.{page_digest}
use Rattle.merkle_tree_theory.specs.Tree.{Tree}
use Rattle.merkle_tree_theory.specs.declared.page_format.PageFormat.{PageFormat}
use Rattle.merkle_replica.specs.Contents.{Contents}

module _ {V : Type 0} (fed_bytes : V → List ℕ) where
  -- the digest of a value that feeds these bytes
  abbrev pub value_digest : List ℕ → V → List ℕ
  value_digest key value = siphash128 key (fed_bytes value)

  -- under this key of SipHash, level base and page format, the digest is that of the root page of the tree of the rows
  abbrev pub IsRootHashOf : List ℕ → ℕ → PageFormat → List (Text × V) → List ℕ → Type 0
  IsRootHashOf key base format rows digest =
      (t : Tree Text (List ℕ)) × IsTreeOf text_order (text_digest key) base t (digests (value_digest key) rows) × (digest ≡ page_digest format string_bytes t)

  -- the same under the settings of a replica, of its rows
  abbrev pub IsItsRootHash : Contents Text V (List ℕ) → List ℕ → Type 0
  IsItsRootHash c = IsRootHashOf c.tree.hasher c.tree.base c.tree.format c.rows
