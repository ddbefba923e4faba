-- A map of texts, as the map of their bytes, whose gaps a table of cells has.
use Rattle.std.specs.Prelude.{◌≡◌, ℕ, List, map}
use Rattle.std.specs.Prelude.{string_bytes}
use Rattle.std.specs.Option.{option_map}
use Rattle.key_order.specs.Map.{get}
use Rattle.key_order.specs.Text.{Text, text_order}
use Rattle.merkle_digest.specs.Level.{level_of}
use Rattle.merkle_tree_theory.specs.Canonical.{SamePages}
use Rattle.merkle_tree_theory.specs.Gap.{Gap}
use Rattle.merkle_tree_theory.specs.Lookup.{page_over}
use Rattle.merkle_tree_theory.specs.Outline.{Item, of_node, of_page, outline_over, whole_item}
use Rattle.merkle_tree_theory.specs.Stream.{page_digest}
use Rattle.merkle_tree_theory.specs.Tree.{Tree}
use Rattle.merkle_tree_theory.specs.TreeOf.{defined_tree, tree_of}
use Rattle.merkle_tree_theory.specs.declared.page_format.PageFormat.TheVariants.{V2}
use Rattle.store_tree.specs.Calls.{digest_over}
use Rattle.store_tree.specs.Cells.{bytes_order, KeyDigests}
use Rattle.store_tree.specs.Maps.{bytes_pair}
use Rattle.store_tree.specs.Rows.{bound_bytes}

-- a map with the bytes of its keys
abbrev pub bytes_map : List (Text × List ℕ) → KeyDigests
bytes_map = map bytes_pair

-- a gap with the bytes of its bounds
abbrev pub bytes_gap : Gap Text → Gap (List ℕ)
bytes_gap gap = record { after = bound_bytes gap.after; before = bound_bytes gap.before }

-- an item with the bytes of its keys
abbrev pub bytes_item : Item Text (List ℕ) → Item (List ℕ) (List ℕ)
bytes_item (of_node key digest) = of_node (string_bytes key) digest
bytes_item (of_page gap digest) = of_page (bytes_gap gap) digest

-- a tree of bytes tells what a tree of texts tells: the digest of its root page, and over each gap the digest of the page and its outline
pub record TellsAlike (bytes : Tree (List ℕ) (List ℕ)) (texts : Tree Text (List ℕ)) : Type 0 where
  pub root : whole_item V2 (λ key. key) bytes ≡ map bytes_item (whole_item V2 string_bytes texts)
  pub page : (gap : Gap Text) → digest_over (bytes_gap gap) bytes ≡ option_map (λ page. page_digest V2 string_bytes page) (page_over text_order gap texts)
  pub outline : (gap : Gap Text) → outline_over V2 (λ key. key) bytes_order bytes (bytes_gap gap) ≡ map bytes_item (outline_over V2 string_bytes text_order texts gap)

-- where the levels of texts are those of their bytes, the tree of the bytes of a map's keys tells what each tree with the pages of the map's own tells, and
-- the bytes of a map have what the map has
abbrev pub TextsTellAlike : Type 0
TextsTellAlike =
    (lev : List ℕ → ℕ) (digest_of : Text → List ℕ) (base : ℕ) (m : List (Text × List ℕ)) (t : Tree Text (List ℕ))
    → ((key : Text) → lev (string_bytes key) ≡ level_of (digest_of key) base) → SamePages text_order t (defined_tree digest_of base m)
    → TellsAlike (tree_of lev (bytes_map m)) t × ((key : Text) → get bytes_order (bytes_map m) (string_bytes key) ≡ get text_order m key)
