-- A table of cells that has the gaps of a map's tree, and of some of its pages the digests and how many keys are in them.
use Rattle.std.specs.Prelude.{◌≡◌, ◌⊎◌, ℕ, ◌≤◌, ◌<◌, nat_le, List, [], ◌∷◌, length, map, Option, Some, None, ⊤}
use Rattle.std.specs.List.{AllByRecursion}
use Rattle.std.specs.Cmp.Lexicographic.{slice_cmp}
use Rattle.std.specs.Ordering.{nat_cmp}
use Rattle.std.specs.declared.cmp.Ordering.{Ordering}
use Rattle.key_order.specs.Order.{Below}
use Rattle.key_order.specs.Map.{IsMap, rows_at}
use Rattle.merkle_tree_theory.specs.Gap.{Gap, pairs_within}
use Rattle.merkle_tree_theory.specs.Page.{pairs}
use Rattle.merkle_tree_theory.specs.Stream.{page_digest}
use Rattle.merkle_tree_theory.specs.Tree.{Held, nothing, below}
use Rattle.merkle_tree_theory.specs.TreeOf.{gap_of}
use Rattle.merkle_tree_theory.specs.declared.page_format.PageFormat.TheVariants.{V2}
use Rattle.sqlite_value.specs.Order.{Row}
use Rattle.store_tree.specs.Rows.{cell_row, rows_on}
use Rattle.store_tree.specs.declared.cell.Known.{Known}
use Rattle.store_tree.specs.declared.cell.Known.TheVariants.{Unknown, Nothing, Page}

-- keys are in the order of their bytes
abbrev pub bytes_order : List ℕ → List ℕ → Ordering
bytes_order = slice_cmp nat_cmp

-- the bytes of keys, each with the digest of its value
abbrev pub KeyDigests : Type 0
KeyDigests = List (List ℕ × List ℕ)

-- the map has the key
abbrev pub HasKey : KeyDigests → List ℕ → Type 0
HasKey [] key = ⊥
HasKey (p ∷ ps) key = (p.0 ≡ key) ⊎ HasKey ps key

-- the keys of pairs are on levels below `level`
abbrev pub AreUnder : (List ℕ → ℕ) → ℕ → KeyDigests → Type 0
AreUnder lev level = AllByRecursion (λ p. lev p.0 < level)

-- where the gaps of pairs begin: at the front, and above each of their keys
abbrev pub fronts_of : KeyDigests → List (Option (List ℕ))
fronts_of ps = None ∷ map (λ p. Some p.0) ps

-- the bound, if there is one, is above the front
abbrev pub IsProper : Option (List ℕ) → Option (List ℕ) → Type 0
IsProper front None = ⊤
IsProper None (Some b) = ⊤
IsProper (Some a) (Some b) = Below bytes_order a b

-- what stands in a gap is a page with this digest, and it and the pages below it have this many keys
abbrev pub IsPageWith : List ℕ → ℕ → Held (List ℕ) (List ℕ) → Type 0
IsPageWith digest count nothing = ⊥
IsPageWith digest count (below t) = (page_digest V2 (λ bytes. bytes) t ≡ digest) × (length (pairs t) ≡ count)

module _ (lev : List ℕ → ℕ) (m : KeyDigests) where
  -- what the map has in a gap, as a page
  abbrev pub held_within : Gap (List ℕ) → Held (List ℕ) (List ℕ)
  held_within gap = gap_of lev 256 (pairs_within bytes_order gap m)

  -- the pairs whose keys are on a level or a greater one
  abbrev pub pairs_from : ℕ → KeyDigests
  pairs_from level = rows_at (λ key. nat_le level (lev key)) m

  -- the bound, if there is one, is a key of the map on this level or a greater one
  abbrev pub IsBoundAt : ℕ → Option (List ℕ) → Type 0
  IsBoundAt level None = ⊤
  IsBoundAt level (Some key) = HasKey m key × (level ≤ lev key)

  module _ (level : ℕ) where
    -- the gap of a front, which is absent or a key of the map on the level or a greater one, ends before a key above it, on the level or a greater one, or at the end of the map, and has keys on lower
    -- levels alone
    pub record IsGapOf (front : Option (List ℕ)) (gap : Gap (List ℕ)) : Type 0 where
      pub after : gap.after ≡ front
      pub begins : IsBoundAt level front
      pub before : IsBoundAt level gap.before
      pub proper : IsProper front gap.before
      pub under : AreUnder lev level (pairs_within bytes_order gap m)

    -- what is known of the gap of a front is true of what the map has there
    abbrev pub Knows : Known → Option (List ℕ) → Type 0
    Knows Unknown front = ⊤
    Knows Nothing front = (gap : Gap (List ℕ)) × IsGapOf front gap × (held_within gap ≡ nothing)
    Knows (Page digest count) front = (gap : Gap (List ℕ)) × IsGapOf front gap × IsPageWith digest count (held_within gap)

    -- the level has a row for each front of the pairs on it or above it, and what is known of each gap is true
    pub record HoldsLevel (rows : List Row) : Type 0 where
      pub known : Option (List ℕ) → Known
      pub fronts : rows_on level rows ≡ map (λ front. cell_row level front (known front)) (fronts_of (pairs_from level))
      pub right : AllByRecursion (λ front. Knows (known front) front) (fronts_of (pairs_from level))

  -- the rows are the gaps of the map's tree: on each level from 1 to one above those of all keys
  pub record HoldsCells (rows : List Row) : Type 0 where
    pub low : (key : List ℕ) → lev key < 256
    pub ascending : IsMap bytes_order m
    pub top : ℕ
    pub under : AreUnder lev top m
    pub levels : (level : ℕ) → 1 ≤ level → level ≤ top → HoldsLevel level rows
    pub others : (level : ℕ) → (level ≡ 0) ⊎ (top < level) → rows_on level rows ≡ []
