-- What calls make of a table of cells, and what they tell of the tree, of whatever map the table has the gaps.
use Rattle.std.specs.Prelude.{◌≡◌, ◌≢◌, ◌<◌, ℕ, Bool, true, false, List, [], length, Option, Some}
use Rattle.std.specs.Option.{option_map}
use Rattle.key_order.specs.Map.{set}
use Rattle.merkle_tree_theory.specs.Gap.{Gap, everywhere}
use Rattle.merkle_tree_theory.specs.Lookup.{page_over}
use Rattle.merkle_tree_theory.specs.Outline.{page_items, whole_item}
use Rattle.merkle_tree_theory.specs.Stream.{page_digest}
use Rattle.merkle_tree_theory.specs.Tree.{Tree}
use Rattle.merkle_tree_theory.specs.TreeOf.{tree_of}
use Rattle.merkle_tree_theory.specs.declared.page_format.PageFormat.TheVariants.{V2}
use Rattle.sqlite_value.specs.Order.{Row}
use Rattle.sqlite_trees.specs.Tree.{Trees}
use Rattle.store_file.specs.declared.catalog.TheConstants.{CELLS}
use Rattle.store_tree.specs.Cells.{bytes_order, KeyDigests, HoldsCells}

-- where levels are below 256, no rows are the gaps of the map without keys
abbrev pub BeginsEmpty : Type 0
BeginsEmpty = (lev : List ℕ → ℕ) → ((key : List ℕ) → lev key < 256) → HoldsCells lev [] []

-- where the key is on this level, the rows become the gaps of the map with the key set, whatever the digest of its value
abbrev pub WritesKey : ℕ → List ℕ → List Row → List Row → Type 0
WritesKey level key old new =
    (lev : List ℕ → ℕ) (m : KeyDigests) (digest : List ℕ) → HoldsCells lev m old → lev key ≡ level → HoldsCells lev (set bytes_order m key digest) new

-- of whatever map that is held the rows are the gaps, they stay those, and this is so of what is found and of the map's tree
abbrev pub FindsInTree : {A : Type 0} → (Trees → KeyDigests → Type 0) → (A → Tree (List ℕ) (List ℕ) → Type 0) → Trees → Trees → A → Type 0
FindsInTree hold Is old new found =
    (lev : List ℕ → ℕ) (m : KeyDigests) → HoldsCells lev m (old CELLS) → hold old m → HoldsCells lev m (new CELLS) × Is found (tree_of lev m)

-- this is the digest of the root page of a tree, or none where the tree has no node
abbrev pub IsRootDigest : Option (List ℕ) → Tree (List ℕ) (List ℕ) → Type 0
IsRootDigest digest tree = page_items everywhere digest ≡ whole_item V2 (λ bytes. bytes) tree

-- of whatever map that is held the rows are the gaps, they stay those, and it has this many keys
abbrev pub CountsKeys : (Trees → KeyDigests → Type 0) → Trees → Trees → ℕ → Type 0
CountsKeys hold old new count = (lev : List ℕ → ℕ) (m : KeyDigests) → HoldsCells lev m (old CELLS) → hold old m → HoldsCells lev m (new CELLS) × (count ≡ length m)

-- the digest of the page over a gap, where there is one
abbrev pub digest_over : Gap (List ℕ) → Tree (List ℕ) (List ℕ) → Option (List ℕ)
digest_over gap tree = option_map (λ page. page_digest V2 (λ bytes. bytes) page) (page_over bytes_order gap tree)

-- whether the page over a gap has this digest
abbrev pub SaysPage : Gap (List ℕ) → List ℕ → Bool → Tree (List ℕ) (List ℕ) → Type 0
SaysPage gap digest true tree = digest_over gap tree ≡ Some digest
SaysPage gap digest false tree = digest_over gap tree ≢ Some digest
