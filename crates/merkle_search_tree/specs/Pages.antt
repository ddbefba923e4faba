-- The pages of a tree, and the tree that its map defines.
use Rattle.std.specs.Prelude.{◌≡◌, List, ℕ, None}
use Rattle.std.specs.declared.cmp.Ordering.{Ordering}
use Rattle.merkle_diff.specs.Entry.{Entry}
use Rattle.merkle_diff.specs.SameEntries.{SameEntries}
use Rattle.merkle_tree_theory.specs.Cache.{uncached_pages}
use Rattle.merkle_tree_theory.specs.Canonical.{IsTreeOf}
use Rattle.merkle_tree_theory.specs.Outline.{Item, whole_item}
use Rattle.merkle_tree_theory.specs.Ranges.{ranges_of}
use Rattle.merkle_tree_theory.specs.Settings.{Settings}
use Rattle.merkle_tree_theory.specs.State.{State, map_of}
use Rattle.merkle_tree_theory.specs.Stream.{page_digest}
use Rattle.merkle_tree_theory.specs.Tree.{Tree}
use Rattle.merkle_tree_theory.specs.TreeOf.{defined_tree}

module _ {K H : Type 0} where
  -- the tree with a builder's settings and this root page, which isn't hashed
  abbrev pub unhashed_tree : Settings H → Tree K (List ℕ) → State K H
  unhashed_tree builder root = record { hasher = builder.hasher; base = builder.base; format = builder.format; root = root; root_hash = None }

module _ {K H : Type 0} (bytes_of : K → List ℕ) where
  -- the digest of the tree's root page
  abbrev pub root_digest : State K H → List ℕ
  root_digest tree = page_digest tree.format bytes_of tree.root

  -- the tree's page ranges
  abbrev pub page_ranges : State K H → List (Entry K (List ℕ))
  page_ranges tree = ranges_of tree.format bytes_of tree.root

  -- the whole tree as one item of an outline, where it has a key
  abbrev pub whole_tree : State K H → List (Item K (List ℕ))
  whole_tree tree = whole_item tree.format bytes_of tree.root

  -- no page of the tree lacks a digest, and that of its root page is this one
  abbrev pub HasEveryDigest : State K H → List ℕ → Type 0
  HasEveryDigest tree digest = (digest ≡ root_digest tree) × (uncached_pages tree.root ≡ 0)

module _ {K H : Type 0} (digest_of : H → K → List ℕ) where
  -- the tree that the map of a tree defines under its hasher and level base
  abbrev pub tree_of_map : State K H → Tree K (List ℕ)
  tree_of_map tree = defined_tree (digest_of tree.hasher) tree.base (map_of tree)

  -- the root page has the digest of the tree that the map defines
  abbrev pub HasDigestOfMap : (K → List ℕ) → State K H → Type 0
  HasDigestOfMap bytes_of tree = root_digest bytes_of tree ≡ page_digest tree.format bytes_of (tree_of_map tree)

module _ {K H : Type 0} (cmp : K → K → Ordering) (digest_of : H → K → List ℕ) where
  -- the root page is the tree of the map
  abbrev pub IsTreeOfItsMap : State K H → Type 0
  IsTreeOfItsMap tree = IsTreeOf cmp (digest_of tree.hasher) tree.base tree.root (map_of tree)

  -- the page ranges are those of the tree that the map defines
  abbrev pub HasRangesOfMap : (K → List ℕ) → State K H → Type 0
  HasRangesOfMap bytes_of tree = SameEntries cmp (page_ranges bytes_of tree) (ranges_of tree.format bytes_of (tree_of_map digest_of tree))
