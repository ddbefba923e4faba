-- The rows whose digests a tree has, wherever they are kept.
use Rattle.std.specs.Prelude.{◌≡◌, ℕ, List, Option}
use Rattle.key_order.specs.Map.{SameMap}
use Rattle.merkle_replica.specs.Contents.{Side}
use Rattle.merkle_replica.specs.Laws.{Laws}
use Rattle.merkle_search_tree.specs.Loading.{digests}
use Rattle.merkle_tree_theory.specs.State.{State, map_of}
use Rattle.merkle_tree_theory.specs.declared.page_format.PageFormat.{PageFormat}

-- the digests of a side: its hasher, the level base and the page format of its tree, and its keys, each with the digest of its value
pub record Digests (K H : Type 0) : Type 0 where
  pub hasher : H
  pub base : ℕ
  pub format : PageFormat
  pub map : List (K × List ℕ)

-- what a side keeps: the digests, and the rows, where it has them at hand
pub record Kept (K V H : Type 0) : Type 0 where
  pub digests : Digests K H
  pub rows : Option (List (K × V))

-- the digests of a tree
abbrev pub digests_of : {K H : Type 0} → State K H → Digests K H
digests_of tree = record { hasher = tree.hasher; base = tree.base; format = tree.format; map = map_of tree }

-- the side that has these rows, and the hasher, the level base and the page format of the digests
abbrev pub side_of : {K V H : Type 0} → Digests K H → List (K × V) → Side K V H
side_of digests rows = record { hasher = digests.hasher; base = digests.base; format = digests.format; rows = rows }

-- the digests are those of the rows
abbrev pub AreDigestsOf : {K V H : Type 0} → Laws K V H → Digests K H → List (K × V) → Type 0
AreDigestsOf laws own rows = SameMap laws.cmp (λ d e. d ≡ e) own.map (digests (laws.value_digest own.hasher) rows)

-- whatever rows the digests are those of, this holds of the side that has them
abbrev pub ForRowsOf : {K V H : Type 0} → Laws K V H → Digests K H → (Side K V H → Type 0) → Type 0
ForRowsOf laws own P = (rows : List _) → AreDigestsOf laws own rows → P (side_of own rows)
