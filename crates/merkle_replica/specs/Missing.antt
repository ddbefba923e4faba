-- The pages of a peer that a side hasn't over the same gaps: those that a catch-up opens.
use Rattle.std.specs.Prelude.{ℕ, Bool, if◌then◌else◌, List, [], ◌∷◌, ◌++◌, length, flat_map}
use Rattle.merkle_search_tree.specs.WhereHashed.{is_page_with}
use Rattle.merkle_tree_theory.specs.Gap.{Gap, everywhere, part_before, part_behind}
use Rattle.merkle_tree_theory.specs.Lookup.{page_over}
use Rattle.merkle_tree_theory.specs.Page.{nodes_of}
use Rattle.merkle_tree_theory.specs.Stream.{page_digest}
use Rattle.merkle_tree_theory.specs.Tree.{Tree, page, Row, high, node, Held, nothing, below}
use Rattle.merkle_tree_theory.specs.TreeOf.{defined_tree}
use Rattle.merkle_tree_theory.specs.declared.page_format.PageFormat.{PageFormat}
use Rattle.merkle_replica.specs.Contents.{Side, tree_map}
use Rattle.merkle_replica.specs.Laws.{Laws}

module _ {K : Type 0} (format : PageFormat) (bytes_of : K → List ℕ) (is_there : Gap K → List ℕ → Bool) where
  abbrev mutual
    -- the pages that aren't there, of one that fills a gap, which is one of them, and those below it; below one that is there none is missing
    pub missing_pages : Gap K → Tree K (List ℕ) → List (Tree K (List ℕ))
    missing_pages g (page l c r) = page l c r ∷ missing_in_row g r

    -- of those of a row that stands in the gap
    pub missing_in_row : Gap K → Row K (List ℕ) → List (Tree K (List ℕ))
    missing_in_row g (high h) = missing_in_held g h
    missing_in_row g (node h k d r) = missing_in_held (part_before g k) h ++ missing_in_row (part_behind g k) r

    -- of what stands between two of its keys
    pub missing_in_held : Gap K → Held K (List ℕ) → List (Tree K (List ℕ))
    missing_in_held g nothing = []
    missing_in_held g (below t) = if (is_there g (page_digest format bytes_of t)) then [] else (missing_pages g t)

  -- the pages of a whole tree that aren't there
  abbrev pub missing_of_tree : Tree K (List ℕ) → List (Tree K (List ℕ))
  missing_of_tree (page l c (high h)) = []
  missing_of_tree (page l c (node h k d r)) = missing_in_held everywhere (below (page l c (node h k d r)))

module _ {K V H : Type 0} (laws : Laws K V H) where
  -- the tree of the side's map
  abbrev pub own_tree : Side K V H → Tree K (List ℕ)
  own_tree s = defined_tree (laws.key_digest s.hasher) s.base (tree_map laws s)

  -- whether the side's own page over the gap has the digest
  abbrev pub has_page_over : Side K V H → Gap K → List ℕ → Bool
  has_page_over s g digest = is_page_with s.format laws.bytes_of digest (page_over laws.cmp g (own_tree s))

  -- the pages of the peer's tree that local hasn't over the same gaps, but for those below a page that it has
  abbrev pub pages_missing : Side K V H → Side K V H → List (Tree K (List ℕ))
  pages_missing local peer = missing_of_tree peer.format laws.bytes_of (has_page_over local) (own_tree peer)

  -- how many these are
  abbrev pub pages_to_open : Side K V H → Side K V H → ℕ
  pages_to_open local peer = length (pages_missing local peer)

  -- how many nodes they have
  abbrev pub nodes_to_compare : Side K V H → Side K V H → ℕ
  nodes_to_compare local peer = length (flat_map nodes_of (pages_missing local peer))
