-- The outline of a page.
use Rattle.std.specs.Prelude.{◌≡◌, ℕ, ◌+◌, ◌<◌, List, [], ◌∷◌, ◌++◌, Option, Some, None}
use Rattle.std.specs.List.{AllByRecursion}
use Rattle.std.specs.declared.cmp.Ordering.{Ordering}
use Rattle.key_order.specs.Order.{AnyByRecursion, Same}
use Rattle.key_order.specs.Map.{IsMap, get}
use Rattle.merkle_digest.specs.Level.{level_of}
use Rattle.merkle_tree_theory.specs.Canonical.{IsCanonicalRoot}
use Rattle.merkle_tree_theory.specs.Gap.{Gap, IsInGap, everywhere, part_before, part_behind}
use Rattle.merkle_tree_theory.specs.Tree.{Tree, page, Row, high, node, Held, nothing, below}
use Rattle.merkle_tree_theory.specs.Page.{level, cache, pairs}
use Rattle.merkle_tree_theory.specs.Lookup.{page_over, Fills}
use Rattle.merkle_tree_theory.specs.Stream.{page_digest}
use Rattle.merkle_tree_theory.specs.declared.page_format.PageFormat.{PageFormat}

-- an item of an outline: a node, with its key and value digest, or a page that is not opened, as the gap that it fills and its digest
pub data Item (K D : Type 0) : Type 0 where
  of_node : K → D → Item K D
  of_page : Gap K → List ℕ → Item K D

-- a page that fills the gap as an item, where its digest is known
abbrev pub page_items : {K D : Type 0} → Gap K → Option (List ℕ) → List (Item K D)
page_items g None = []
page_items g (Some d) = of_page g d ∷ []

module _ {K D : Type 0} (digest_of : Tree K D → Option (List ℕ)) where
  -- what stands between two keys
  abbrev pub held_items : Gap K → Held K D → List (Item K D)
  held_items g nothing = []
  held_items g (below t) = page_items g (digest_of t)

  -- the nodes of a page that fills the gap, and between them the pages right below it
  abbrev pub row_items : Gap K → Row K D → List (Item K D)
  row_items g (high h) = held_items g h
  row_items g (node h k d r) = held_items (part_before g k) h ++ of_node k d ∷ row_items (part_behind g k) r

  abbrev pub items_of : Gap K → Tree K D → List (Item K D)
  items_of g (page l c r) = row_items g r

-- the outline of a page that fills the gap, by cached digests
abbrev pub cached_items : {K D : Type 0} → Gap K → Tree K D → List (Item K D)
cached_items = items_of cache

module _ {K : Type 0} (format : PageFormat) (bytes_of : K → List ℕ) where
  -- the outline of a page that fills the gap
  abbrev pub outline_of : Gap K → Tree K (List ℕ) → List (Item K (List ℕ))
  outline_of = items_of (λ t. Some (page_digest format bytes_of t))

  abbrev pub outline_where : Gap K → Option (Tree K (List ℕ)) → List (Item K (List ℕ))
  outline_where g None = []
  outline_where g (Some t) = outline_of g t

  -- the outline of the page over the gap; nothing where there is none
  abbrev pub outline_over : (K → K → Ordering) → Tree K (List ℕ) → Gap K → List (Item K (List ℕ))
  outline_over cmp whole g = outline_where g (page_over cmp g whole)

  -- the whole tree as one item, where it has a node
  abbrev pub whole_item : Tree K (List ℕ) → List (Item K (List ℕ))
  whole_item (page l c (high h)) = []
  whole_item (page l c (node h k d r)) = of_page everywhere (page_digest format bytes_of (page l c (node h k d r))) ∷ []

  -- an item of a tree: a key has its value digest in the map, and a gap is filled by a page of the tree on a level below n
  abbrev pub IsItemOf : (K → K → Ordering) → Tree K (List ℕ) → ℕ → Item K (List ℕ) → Type 0
  IsItemOf cmp whole n (of_node k d) = get cmp (pairs whole) k ≡ Some d
  IsItemOf cmp whole n (of_page g digest) = (t : Tree K (List ℕ)) × Fills cmp g t whole × (level t < n) × (page_digest format bytes_of t ≡ digest)

-- the item has the key: it is its node, or a page in whose gap it is
abbrev pub HasItemAt : {K : Type 0} → (K → K → Ordering) → K → Item K (List ℕ) → Type 0
HasItemAt cmp k (of_node j d) = Same cmp k j
HasItemAt cmp k (of_page g digest) = IsInGap cmp k g

module _ {K : Type 0} (cmp : K → K → Ordering) (format : PageFormat) (bytes_of : K → List ℕ) (t : Tree K (List ℕ)) where
  -- the outline of a page that fills the gap has items of the tree, with pages of lower levels than its own, and has each key of the gap
  abbrev pub LeadsDown : Tree K (List ℕ) → Gap K → Type 0
  LeadsDown s gap =
      AllByRecursion (IsItemOf format bytes_of cmp t (level s)) (outline_of format bytes_of gap s)
      × ((k : K) (d : List ℕ) → get cmp (pairs t) k ≡ Some d → IsInGap cmp k gap
      → AnyByRecursion (HasItemAt cmp k) (outline_of format bytes_of gap s))

  -- the whole tree as one item is of the tree, and has each key
  abbrev pub LeadsToAll : Type 0
  LeadsToAll =
      AllByRecursion (IsItemOf format bytes_of cmp t (level t + 1)) (whole_item format bytes_of t)
      × ((k : K) (d : List ℕ) → get cmp (pairs t) k ≡ Some d → AnyByRecursion (HasItemAt cmp k) (whole_item format bytes_of t))

module _ {K H : Type 0} (cmp : K → K → Ordering) (digest_of : H → K → List ℕ) (bytes_of : K → List ℕ) where
  -- under any hasher and level base and in any page format, the outline of each page that fills a gap of a tree leads down
  abbrev pub OutlinesLeadDown : Type 0
  OutlinesLeadDown =
      (hasher : H) (base : ℕ) (format : PageFormat) (t s : Tree K (List ℕ)) (gap : Gap K)
      → IsMap cmp (pairs t) → IsCanonicalRoot (λ k. level_of (digest_of hasher k) base) t → Fills cmp gap s t → LeadsDown cmp format bytes_of t s gap

  -- so does each whole tree as one item, to all its keys
  abbrev pub WholeTreesLeadDown : Type 0
  WholeTreesLeadDown =
      (hasher : H) (base : ℕ) (format : PageFormat) (t : Tree K (List ℕ))
      → IsMap cmp (pairs t) → IsCanonicalRoot (λ k. level_of (digest_of hasher k) base) t → LeadsToAll cmp format bytes_of t
