-- Trees of texts and numbers that upserts make, with default settings.
use Rattle.std.specs.Prelude.{◌≡◌, ℕ, List, []}
use Rattle.key_order.specs.Map.{SameMap}
use Rattle.key_order.specs.Text.{Text, text_order}
use Rattle.key_order.proofs.Latest.{set_each}
use Rattle.merkle_digest.specs.SipDigests.{number_digest}
use Rattle.merkle_digest.specs.SipHash.{zero_key}
use Rattle.merkle_search_tree.specs.Loading.{digests}
use Rattle.merkle_tree_theory.specs.Settings.{default_settings}
use Rattle.merkle_tree_theory.specs.State.{State, HasSettings, map_of}
use Rattle.merkle_tree_theory.specs.declared.page_format.PageFormat.TheVariants.{V1}

-- the tree has the map that is left where the rows are set in turn, each with the digest of its number
pub record HasUpserted (rows : List (Text × ℕ)) (tree : State Text (List ℕ)) : Type 0 where
  pub map : SameMap text_order (λ d e. d ≡ e) (set_each text_order [] (digests (number_digest zero_key) rows)) (map_of tree)
  pub settings : HasSettings (default_settings V1) tree
