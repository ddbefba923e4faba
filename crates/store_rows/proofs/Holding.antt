-- The digests of the latest registers, as the map of a tree.
use Rattle.std.proofs.Common.{◌≡◌, ℕ, Bool, true, false, cond, List, [], ◌∷◌, map, Option, Some, None, option_map, string_bytes, refl, sym, ap, subst, ◌∙◌, is_eq}
use Rattle.std.specs.List.{AllByRecursion}
use Rattle.std.specs.String.{string_cmp_total}
use Rattle.std.proofs.lemmas.List.Elements.{filter_agree}
use Rattle.key_order.specs.Map.{IsMap, SameMap, SameValue, get, rows_at}
use Rattle.key_order.specs.Order.{Below}
use Rattle.key_order.specs.Text.{Text, text_order}
use Rattle.key_order.proofs.Maps.{get_at, same_by_get}
use Rattle.merkle_digest.specs.SipHash.{siphash128}
use Rattle.merkle_tree_theory.specs.Gap.{is_in_gap, pairs_within}
use Rattle.sqlite_trees.specs.Tree.{Trees}
use Rattle.sqlite_trees.proofs.ListLemmas.{filter-map}
use Rattle.store_file.specs.Latest.{IsLatestAt}
use Rattle.store_file.specs.RegisterLaws.{same_bytes as same_bytes_fed}
use Rattle.store_file.specs.Ranges.{is_between, AreLatestBetween}
use Rattle.store_file.specs.declared.register.Register.{Register}
use Rattle.store_file.proofs.Ranging.{between_same}
use Rattle.store_tree.specs.Cells.{bytes_order, KeyDigests}
use Rattle.store_tree.specs.Maps.{bytes_pair, IsDigestAt}
use Rattle.store_tree.specs.Pages.{text_gap}
use Rattle.store_tree.specs.Texts.{bytes_map}
use Rattle.store_tree.proofs.Parts.{map_rows}
use Rattle.store_tree.proofs.Sets.{same_key}
use Rattle.store_tree.proofs.Texts.{get_bytes}
use Rattle.store_rows.specs.Digests.{register_digest, digest_row, digest_rows, AreLatestRows, AreLatestDigests, HoldsDigests, AreOneRegister}

-- the digest of a key's latest register
pub digest_held : (hash_key : List ℕ) (trees : Trees) (key : Text) (bytes : List ℕ) (found : Option Register) (r : Register) (digest : List ℕ) → bytes ≡ string_bytes key
    → IsLatestAt trees bytes found → found ≡ Some r → digest ≡ register_digest hash_key r → IsDigestAt (HoldsDigests hash_key trees) (string_bytes key) digest
digest_held hash_key trees key bytes found r digest same latest is told m (pairs, are, held) =
    ap (λ (l : KeyDigests). get bytes_order l (string_bytes key)) held ∙ get_bytes pairs key ∙ are.digests key found (subst (λ name. IsLatestAt trees name found) same latest)
    ∙ ap (option_map (register_digest hash_key)) is ∙ ap Some (sym told)

-- ---- the pairs in a gap

module _ (hash_key : List ℕ) where
  all_digests : (k : Text) (rows : List (Text × Register)) → AllByRecursion (λ (s : Text × Register). Below text_order k s.0) rows
      → AllByRecursion (λ (s : Text × List ℕ). Below text_order k s.0) (map (digest_row hash_key) rows)
  all_digests k [] up = tt
  all_digests k (row ∷ rows) up = (up.0, all_digests k rows up.1)

  pub digests_ascend : (rows : List (Text × Register)) → IsMap text_order rows → IsMap text_order (map (digest_row hash_key) rows)
  digests_ascend [] up = tt
  digests_ascend (row ∷ rows) up = (all_digests row.0 rows up.0, digests_ascend rows up.1)

  pub digest_got : (rows : List (Text × Register)) (k : Text) → get text_order (map (digest_row hash_key) rows) k ≡ option_map (register_digest hash_key) (get text_order rows k)
  digest_got [] k = refl
  digest_got (row ∷ rows) k = by (is_eq (text_order row.0 k)) (digest_got rows k)
    where
      by : (b : Bool) → get text_order (map (digest_row hash_key) rows) k ≡ option_map (register_digest hash_key) (get text_order rows k)
          → cond b (Some (register_digest hash_key row.1)) (get text_order (map (digest_row hash_key) rows) k) ≡ option_map (register_digest hash_key) (cond b (Some row.1) (get text_order rows k))
      by true rest = refl
      by false rest = rest

-- equal registers have one digest
same_digest : (hash_key : List ℕ) (a b : Option Register) → AreOneRegister a b → option_map (register_digest hash_key) a ≡ option_map (register_digest hash_key) b
same_digest hash_key None None same = refl
same_digest hash_key None (Some s) same = absurd same
same_digest hash_key (Some r) None same = absurd same
same_digest hash_key (Some r) (Some s) same = ap (λ bytes. Some (siphash128 hash_key bytes)) (same_bytes_fed r s same)

-- the digests of rows that have the latest registers are those of the latest registers
pub latest_digests : (hash_key : List ℕ) (trees : Trees) (rows : List (Text × Register)) → AreLatestRows trees rows → AreLatestDigests hash_key trees (digest_rows hash_key rows)
latest_digests hash_key trees rows are = record {
  ascending = digests_ascend hash_key rows are.ascending;
  digests = λ key found latest. digest_got hash_key rows key ∙ sym (same_digest hash_key found (get text_order rows key) (are.latest key found latest));
}

pub alike : {X : Type 0} (a b : Option X) → a ≡ b → SameValue (λ x y. x ≡ y) a b
alike None None e = tt
alike None (Some y) e = absurd (let k = e in cc)
alike (Some x) None e = absurd (let k = e in cc)
alike (Some x) (Some y) e = let k = e in cc

pub same_bytes : (ps qs : List (Text × List ℕ)) → SameMap text_order (λ x y. x ≡ y) ps qs → bytes_map ps ≡ bytes_map qs
same_bytes [] [] s = refl
same_bytes [] (q ∷ qs) s = absurd s
same_bytes (p ∷ ps) [] s = absurd s
same_bytes (p ∷ ps) (q ∷ qs) s = λ i. (same_key (string_bytes p.0) (string_bytes q.0) (ap is_eq s.0) i, s.1 i) ∷ same_bytes ps qs s.2 i

pub gap_test : (after before : Option Text) (k : Text) → is_in_gap bytes_order (string_bytes k) (text_gap after before) ≡ is_between after before k
gap_test None None k = refl
gap_test None (Some b) k = refl
gap_test (Some a) None k = refl
gap_test (Some a) (Some b) k = refl

module _ (after before : Option Text) where
  abbrev between : List (Text × List ℕ) → List (Text × List ℕ)
  between = rows_at (is_between after before)

  gap_bytes : (pairs : List (Text × List ℕ)) → pairs_within bytes_order (text_gap after before) (bytes_map pairs) ≡ bytes_map (between pairs)
  gap_bytes pairs = filter-map (λ (p : List ℕ × List ℕ). is_in_gap bytes_order p.0 (text_gap after before)) bytes_pair pairs
      ∙ ap bytes_map (filter_agree (λ (p : Text × List ℕ). is_in_gap bytes_order (string_bytes p.0) (text_gap after before)) (λ p. is_between after before p.0) (λ p. gap_test after before p.0) pairs)

  -- the digests of the latest registers of the keys between two
  pub pairs_held : (hash_key : List ℕ) (trees : Trees) (rows : List (Text × Register)) (found : List (Text × List ℕ)) → AreLatestBetween after before trees rows
      → found ≡ map (digest_row hash_key) rows
      → (m : KeyDigests) → HoldsDigests hash_key trees m → map bytes_pair found ≡ pairs_within bytes_order (text_gap after before) m
  pairs_held hash_key trees rows found latest told m (pairs, are, is) =
      ap bytes_map told ∙ same_bytes (map (digest_row hash_key) rows) (between pairs) alike_all ∙ sym (gap_bytes pairs) ∙ ap (pairs_within bytes_order (text_gap after before)) (sym is)
    where
      at : (k : Text) → get text_order (map (digest_row hash_key) rows) k ≡ get text_order (between pairs) k
      at k = digest_got hash_key rows k ∙ by (is_between after before k) refl ∙ sym (get_at text_order string_cmp_total (is_between after before) (between_same after before) pairs k)
        where
          by : (b : Bool) → is_between after before k ≡ b → option_map (register_digest hash_key) (get text_order rows k) ≡ cond (is_between after before k) (get text_order pairs k) None
          by true within = sym (ap (λ b. cond b (get text_order pairs k) None) within ∙ are.digests k (get text_order rows k) (latest.latest k within))
          by false out = ap (option_map (register_digest hash_key)) (latest.others k out) ∙ sym (ap (λ b. cond b (get text_order pairs k) None) out)

      alike_all : SameMap text_order (λ x y. x ≡ y) (map (digest_row hash_key) rows) (between pairs)
      alike_all = same_by_get text_order string_cmp_total (λ x y. x ≡ y) (map (digest_row hash_key) rows) (between pairs) (digests_ascend hash_key rows latest.ascending)
          (map_rows text_order string_cmp_total (is_between after before) pairs are.ascending) (λ k. alike _ _ (at k))
