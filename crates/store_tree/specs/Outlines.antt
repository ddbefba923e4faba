-- The outline of the page over a gap, as it is told.
use Rattle.std.specs.Prelude.{◌≡◌, ℕ, List, [], ◌∷◌, ◌++◌, map, Option, Some, None, string_bytes}
use Rattle.merkle_tree_theory.specs.Gap.{Gap, part_before, part_behind}
use Rattle.merkle_tree_theory.specs.Outline.{Item, of_node, outline_over, page_items}
use Rattle.merkle_tree_theory.specs.Tree.{Tree}
use Rattle.merkle_tree_theory.specs.declared.page_format.PageFormat.TheVariants.{V2}
use Rattle.store_tree.specs.Cells.{bytes_order}
use Rattle.store_tree.specs.declared.cell.Known.{Known}
use Rattle.store_tree.specs.declared.cell.Known.TheVariants.{Unknown, Nothing, Page as ThePage}
use Rattle.store_tree.specs.declared.outline.Outline.{Outline}
use Rattle.store_tree.specs.declared.outline.ToldNode.{ToldNode}
use Rattle.store_tree.specs.declared.page.Node.{Node}
use Rattle.store_tree.specs.declared.page.Page.{Page}

-- the digest of what is known to be a page
abbrev pub told_digest : Known → Option (List ℕ)
told_digest Unknown = None
told_digest Nothing = None
told_digest (ThePage digest count) = Some digest

-- a node, with the digest of the page before it
abbrev pub told_node : Node → ToldNode
told_node n = record { before = told_digest n.before; key = n.key; digest = n.digest }

-- the outline has the nodes of the page, and the digests of the pages between them
pub record IsOutlineOf (page : Page) (outline : Outline) : Type 0 where
  pub nodes : outline.nodes.items ≡ map told_node page.nodes.items
  pub last : outline.last ≡ told_digest page.last

-- nodes and the pages between them, as the items of a page that fills a gap
abbrev pub told_items : Gap (List ℕ) → List ToldNode → Option (List ℕ) → List (Item (List ℕ) (List ℕ))
told_items gap [] last = page_items gap last
told_items gap (n ∷ ns) last =
    page_items (part_before gap (string_bytes n.key)) n.before ++ of_node (string_bytes n.key) n.digest ∷ told_items (part_behind gap (string_bytes n.key)) ns last

abbrev pub outline_items : Gap (List ℕ) → Outline → List (Item (List ℕ) (List ℕ))
outline_items gap o = told_items gap o.nodes.items o.last

-- the same, where there is an outline
abbrev pub found_items : Gap (List ℕ) → Option Outline → List (Item (List ℕ) (List ℕ))
found_items gap None = []
found_items gap (Some o) = outline_items gap o

-- its items are those of the page over the gap, and there is none where no page is over it
abbrev pub IsOutlineAt : Gap (List ℕ) → Option Outline → Tree (List ℕ) (List ℕ) → Type 0
IsOutlineAt gap found tree = found_items gap found ≡ outline_over V2 (λ bytes. bytes) bytes_order tree gap
