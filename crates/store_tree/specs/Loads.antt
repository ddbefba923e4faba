-- What loading keys makes of a table of cells, while nothing is known of what stands in its gaps.
use Rattle.std.specs.Prelude.{◌≡◌, ◌<◌, ℕ, true, List, [], string_bytes}
use Rattle.std.specs.List.{AllByRecursion}
use Rattle.key_order.specs.Map.{IsMap}
use Rattle.key_order.specs.Order.{AnyByRecursion}
use Rattle.key_order.specs.Text.{Text}
use Rattle.sqlite_value.specs.Order.{Row, column}
use Rattle.store_tree.specs.Calls.{WritesKey}
use Rattle.store_tree.specs.Cells.{bytes_order, KeyDigests, HasKey, HoldsCells}
use Rattle.store_tree.specs.Rows.{is_level, known_value}
use Rattle.store_tree.specs.declared.cell.Known.TheVariants.{Unknown}

-- the first level has a gap, and of no gap it is known what stands there
pub record KnowsNothing (rows : List Row) : Type 0 where
  pub first : AnyByRecursion (λ row. is_level 1 row ≡ true) rows
  pub unknown : AllByRecursion (λ row. column row 2 ≡ known_value Unknown) rows

-- where levels are below 256, the rows are the gaps of the map without keys
abbrev pub HoldsNoKeys : List Row → Type 0
HoldsNoKeys rows = (lev : List ℕ → ℕ) → ((key : List ℕ) → lev key < 256) → HoldsCells lev [] rows

-- where nothing is known and the key is on this level, the rows become the gaps of the map with the key set, whatever the digest of its value
abbrev pub AddsKey : ℕ → List ℕ → List Row → List Row → Type 0
AddsKey level key old new = KnowsNothing old → WritesKey level key old new

-- where nothing was known, nothing is
abbrev pub LearnsNothing : List Row → List Row → Type 0
LearnsNothing old new = KnowsNothing old → KnowsNothing new

-- the map has these keys and no other, each on the level that is given
pub record HasKeysOn (lev : List ℕ → ℕ) (given : List (Text × ℕ)) (m : KeyDigests) : Type 0 where
  pub levels : AllByRecursion (λ key. lev (string_bytes key.0) ≡ key.1) given
  pub all : AllByRecursion (λ key. HasKey m (string_bytes key.0)) given
  pub no_other : AllByRecursion (λ p. AnyByRecursion (λ key. string_bytes key.0 ≡ p.0) given) m

-- where levels are below 256, the rows are the gaps of whatever map has these keys and no other, each on its level, whatever the digests of their values
abbrev pub LoadsKeys : List (Text × ℕ) → List Row → Type 0
LoadsKeys keys rows = (lev : List ℕ → ℕ) (m : KeyDigests) → ((key : List ℕ) → lev key < 256) → IsMap bytes_order m → HasKeysOn lev keys m → HoldsCells lev m rows
