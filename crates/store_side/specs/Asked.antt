-- What is asked of the latest registers of a table of entries.
use Rattle.std.specs.Prelude.{◌≡◌, ℕ, List, Option}
use Rattle.key_order.specs.Map.{get}
use Rattle.key_order.specs.Text.{Text, text_order}
use Rattle.merkle_bytes.specs.Options.{IsOption}
use Rattle.merkle_wire.specs.Sessions.{IsKeyOf}
use Rattle.sqlite_trees.specs.Tree.{Trees}
use Rattle.store_rows.specs.Digests.{AreLatestDigests}

module _ (hash_key : List ℕ) (trees : Trees) where
  -- it is a key of whatever map is the latest registers, or none
  abbrev pub IsSomeKey : Option Text → Type 0
  IsSomeKey found = (pairs : List (Text × List ℕ)) → AreLatestDigests hash_key trees pairs → IsOption (IsKeyOf text_order pairs) found

  -- it is what whatever map is the latest registers has at a key
  abbrev pub IsDigestOf : Text → Option (List ℕ) → Type 0
  IsDigestOf key found = (pairs : List (Text × List ℕ)) → AreLatestDigests hash_key trees pairs → found ≡ get text_order pairs key
