-- The root of a log's tree is found out, and what isn't known of its pages.
use Rattle.std.proofs.Common.{◌≡◌, ℕ, List, length, Option, refl, ◌∙◌, arith}
use Rattle.std.proofs.lemmas.List.{length-map}
use Rattle.merkle_tree_theory.specs.TreeOf.{tree_of}
use Rattle.sqlite_trees.specs.Tree.{Trees}
use Rattle.store_file.specs.declared.catalog.TheConstants.{CELLS}
use Rattle.store_tree.specs.Calls.{CountsKeys, FindsInTree, IsRootDigest}
use Rattle.store_tree.specs.Cells.{HoldsCells}
use Rattle.store_tree.specs.Maps.{bytes_pair}
use Rattle.store_tree.specs.Tables.{KeepsOthers}
use Rattle.store_tree.specs.Texts.{bytes_map}
use Rattle.store_rows.specs.DigestLaws.{latest_stay}
use Rattle.store_rows.specs.Digests.{HoldsDigests, TextDigests, key_level}
use Rattle.store_rows.specs.InStep.{HasTreeOfDigests, HashesInStep, StaysInStep}
use Rattle.store_rows.specs.Roots.{IsRootIn}

-- the digest of the root page is found, and then the number of keys
module _ (hash_key : List ℕ) (old mid new : Trees) (digest : Option (List ℕ)) (count : ℕ)
    (finds : FindsInTree (HoldsDigests hash_key) IsRootDigest old mid digest) (first : KeepsOthers old mid)
    (counts : CountsKeys (HoldsDigests hash_key) mid new count) (second : KeepsOthers mid new) where
  module _ (pairs : TextDigests) (has : HasTreeOfDigests hash_key pairs old) where
    found : HoldsCells (key_level hash_key) (bytes_map pairs) (mid CELLS) × IsRootDigest digest (tree_of (key_level hash_key) (bytes_map pairs))
    found = finds (key_level hash_key) (bytes_map pairs) has.cells (pairs, has.digests, refl)

    counted : HoldsCells (key_level hash_key) (bytes_map pairs) (new CELLS) × (count ≡ length (bytes_map pairs))
    counted = counts (key_level hash_key) (bytes_map pairs) found.0 (pairs, latest_stay hash_key pairs old mid first has.digests, refl)

  others : KeepsOthers old new
  others tree other = second tree other ∙ first tree other

  pub root_found : IsRootIn hash_key old (record { digest = digest; count = count })
  root_found pairs has = record { digest = (found pairs has).1; count = (counted pairs has).1 ∙ length-map pairs bytes_pair }

  kept : StaysInStep hash_key old new
  kept was = record {
    entries = was.entries;
    held = record { rows = others 0 (λ same. omega (arith, same)) ∙ was.held.rows; ascending = was.held.ascending };
    pairs = was.pairs;
    tree = record { digests = latest_stay hash_key was.pairs old new others was.tree.digests; cells = (counted was.pairs was.tree).0 };
  }

  pub hashed : HashesInStep hash_key old new
  hashed = record { others = others; kept = kept }
