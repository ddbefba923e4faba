-- The table of cells says nothing of the latest registers.
use Rattle.std.proofs.Common.{◌≡◌, ℕ, List, None, option_map, string_bytes, subst, arith}
use Rattle.std.specs.List.{last_or}
use Rattle.sqlite_value.specs.Order.{Row}
use Rattle.sqlite_trees.specs.Tree.{Trees}
use Rattle.store_file.specs.Entries.{entry_row_of}
use Rattle.store_file.specs.Latest.{rows_of}
use Rattle.store_tree.specs.Cells.{KeyDigests}
use Rattle.store_tree.specs.Tables.{KeepsOthers}
use Rattle.store_rows.specs.Digests.{AreLatestDigests, HoldsDigests, TextDigests}

-- where no table but that of cells has changed, pairs have the digests of the latest registers still
pub latest_stay : (hash_key : List ℕ) (pairs : TextDigests) (old new : Trees) → KeepsOthers old new → AreLatestDigests hash_key old pairs → AreLatestDigests hash_key new pairs
latest_stay hash_key pairs old new others are = record {
  ascending = are.ascending;
  digests = λ key found latest. are.digests key found
      (subst (λ (rows : List Row). last_or None (rows_of (string_bytes key) rows) ≡ option_map (entry_row_of (string_bytes key)) found) (others 0 (λ same. omega (arith, same))) latest);
}

-- and the map is still held
pub digests_stay : (hash_key : List ℕ) (old new : Trees) (m : KeyDigests) → KeepsOthers old new → HoldsDigests hash_key old m → HoldsDigests hash_key new m
digests_stay hash_key old new m others (pairs, are, is) = (pairs, latest_stay hash_key pairs old new others are, is)
