-- The page over a gap of the tree of texts, by the tree of their bytes.
use Rattle.std.proofs.Common.{◌≡◌, ℕ, ◌<◌, Bool, true, false, List, Option, Some, None, option_map, string_bytes, refl, sym, ap, ◌∙◌, is_eq, IsTrue}
use Rattle.std.specs.String.{string_cmp_total}
use Rattle.key_order.specs.Map.{IsMap, SameMap}
use Rattle.key_order.specs.Order.{Same}
use Rattle.key_order.specs.Text.{Text, text_order}
use Rattle.key_order.proofs.SameMaps.{same_map-own, same_map-back, same_across, ascends}
use Rattle.merkle_digest.specs.Level.{level_of}
use Rattle.merkle_digest.specs.SipDigests.{text_digest}
use Rattle.merkle_replica.specs.Contents.{Side, tree_map}
use Rattle.merkle_replica.specs.Descent.{HasPage}
use Rattle.merkle_tree_theory.specs.Canonical.{IsCanonicalRoot}
use Rattle.merkle_tree_theory.specs.Gap.{Gap}
use Rattle.merkle_tree_theory.specs.Lookup.{page_over}
use Rattle.merkle_tree_theory.specs.Page.{pairs as pairs_of}
use Rattle.merkle_tree_theory.specs.Stream.{page_digest}
use Rattle.merkle_tree_theory.specs.Tree.{Tree}
use Rattle.merkle_tree_theory.specs.TreeOf.{tree_of, defined_tree}
use Rattle.merkle_tree_theory.specs.declared.page_format.PageFormat.TheVariants.{V2}
use Rattle.merkle_tree_theory.proofs.PageOverGap.{over_inside, filled_opens}
use Rattle.merkle_tree_theory.proofs.Same.{same_digest}
use Rattle.merkle_tree_theory.proofs.Sound.{level_low}
use Rattle.merkle_tree_theory.proofs.TreeOf.{is_tree_of, tree_of-is, same_pairs}
use Rattle.merkle_tree_theory.proofs.Unique.{unique_root}
use Rattle.merkle_wire.specs.ItsRows.{AreDigestsOf, ForRowsOf, side_of}
use Rattle.merkle_wire.specs.Taking.{HasPageAt}
use Rattle.merkle_wire.proofs.PagesAt.{page_in_each}
use Rattle.store_file.specs.declared.register.Register.{Register}
use Rattle.store_tree.specs.Calls.{digest_over}
use Rattle.store_tree.specs.Texts.{bytes_gap, bytes_map, TellsAlike}
use Rattle.store_tree.proofs.Sets.{same_key}
use Rattle.store_tree.proofs.Texts.{tells_alike}
use Rattle.store_rows.specs.Digests.{TextDigests, key_level}
use Rattle.store_side.specs.FileTrees.{digests_under, file_laws, SaysKeysPage}

-- texts that are equal have the same bytes
pub one_text : (a b : Text) → Same text_order a b → string_bytes a ≡ string_bytes b
one_text a b same = same_key (string_bytes a) (string_bytes b) (ap is_eq same)

module _ (hash_key : List ℕ) where
  abbrev level : Text → ℕ
  level key = level_of (text_digest hash_key key) 16

  low : (key : Text) → level key < 256
  low key = level_low (text_digest hash_key key) 16

  one_level : (a b : Text) → Same text_order a b → level a ≡ level b
  one_level a b same = ap (key_level hash_key) (one_text a b same)

  module _ (pairs : TextDigests) where
    abbrev tree : Tree Text (List ℕ)
    tree = defined_tree (text_digest hash_key) 16 pairs

    own : IsCanonicalRoot level tree × SameMap text_order (λ d e. d ≡ e) (pairs_of tree) pairs
    own = tree_of-is level low text_order one_level string_cmp_total pairs

    -- the tree of the keys' bytes tells what the tree of the keys tells
    pub told_by_bytes : TellsAlike (tree_of (key_level hash_key) (bytes_map pairs)) tree
    told_by_bytes = (tells_alike (key_level hash_key) (text_digest hash_key) 16 pairs tree (λ key. refl) (is_tree_of level low text_order one_level tree pairs own.0 own.1)).0

    digest_told : (gap : Gap Text) → digest_over (bytes_gap gap) (tree_of (key_level hash_key) (bytes_map pairs))
        ≡ option_map (λ page. page_digest V2 string_bytes page) (page_over text_order gap tree)
    digest_told = told_by_bytes.page

    module _ (rows : List (Text × Register)) (kept : AreDigestsOf file_laws (digests_under hash_key pairs) rows) where
      abbrev local : Side Text Register (List ℕ)
      local = side_of (digests_under hash_key pairs) rows

      map_is : SameMap text_order (λ d e. d ≡ e) (pairs_of tree) (tree_map file_laws local)
      map_is = same_across text_order string_cmp_total pairs pairs (pairs_of tree) (tree_map file_laws local) (same_map-back text_order string_cmp_total (pairs_of tree) pairs own.1) kept
          (same_map-own text_order string_cmp_total pairs)

      page_there : (gap : Gap Text) (digest : List ℕ) (found : Option (Tree Text (List ℕ))) → page_over text_order gap tree ≡ found
          → option_map (λ page. page_digest V2 string_bytes page) found ≡ Some digest → HasPage file_laws local digest
      page_there gap digest None over is = absurd (let k = is in cc)
      page_there gap digest (Some s) over is = (s, (tree, (own.0, map_is), (over_inside text_order gap tree s over).0), let k = is in cc)

      module _ (up : IsMap text_order pairs) (gap : Gap Text) (digest : List ℕ) (has : HasPageAt file_laws local gap digest) where
        -- a page that fills the gap is the one over it
        page_over_it : digest_over (bytes_gap gap) (tree_of (key_level hash_key) (bytes_map pairs)) ≡ Some digest
        page_over_it =
            let up_tree : IsMap text_order (pairs_of tree) = ascends text_order string_cmp_total (λ d e. d ≡ e) (pairs_of tree) pairs own.1 up in
            let same_own = same_map-own text_order string_cmp_total (tree_map file_laws local) in
            let (s, fills, is) = page_in_each file_laws string_cmp_total local
            (λ t u f h. unique_root level text_order one_level t u f.0 h.0
            (same_pairs text_order string_cmp_total (text_digest hash_key) 16 (tree_map file_laws local) (tree_map file_laws local) t u same_own f h))
            (λ t u same. same_digest text_order V2 string_bytes one_text t u same) gap digest has tree up_tree (own.0, map_is) in
            digest_told gap ∙ ap (option_map (λ page. page_digest V2 string_bytes page)) (filled_opens text_order string_cmp_total gap s tree up_tree fills) ∙ ap Some is

    module _ (gap : Gap Text) (digest : List ℕ) where
      -- a page that is found is one of the side's
      pub said_there : (is : Bool) → SaysKeysPage hash_key (bytes_gap gap) digest pairs is → IsTrue is
          → ForRowsOf file_laws (digests_under hash_key pairs) (λ local. HasPage file_laws local digest)
      said_there true said told rows kept = page_there rows kept gap digest (page_over text_order gap tree) refl (sym (digest_told gap) ∙ said.1)
      said_there false said told rows kept = absurd (let k = told in cc)

      -- where none is found, none that fills the gap has the digest
      pub said_lacked : (is : Bool) → SaysKeysPage hash_key (bytes_gap gap) digest pairs is → is ≡ false
          → ForRowsOf file_laws (digests_under hash_key pairs) (λ local. ¬ HasPageAt file_laws local gap digest)
      said_lacked true said told rows kept = absurd (let k = told in cc)
      said_lacked false said told rows kept = λ has. said.1 (page_over_it rows kept said.0 gap digest has)
