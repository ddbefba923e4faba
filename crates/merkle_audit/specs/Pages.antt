-- When the page ranges of two trees tell that pages with equal digests have equal maps below them.
use Rattle.std.specs.Prelude.{◌≡◌, ℕ, List, []}
use Rattle.std.specs.List.{AllByRecursion}
use Rattle.std.specs.declared.cmp.Ordering.{Ordering}
use Rattle.key_order.specs.Map.{SameMap}
use Rattle.key_order.specs.Order.{Same}
use Rattle.merkle_diff.specs.Entry.{Entry}
use Rattle.merkle_replica.specs.Contents.{Contents}
use Rattle.merkle_search_tree.specs.Loading.{digests}
use Rattle.merkle_search_tree.specs.Pages.{root_digest}
use Rattle.merkle_tree_theory.specs.Listing.{entry_rows}

-- the rows of a replica with each value replaced by its digest
abbrev pub row_digests : {K V H : Type 0} → (H → V → List ℕ) → Contents K V H → List (K × List ℕ)
row_digests value_digest c = digests (value_digest c.tree.hasher) c.rows

-- none of the entries has the digest
abbrev pub LacksPageDigest : {K : Type 0} → List ℕ → List (Entry K (List ℕ)) → Type 0
LacksPageDigest digest = AllByRecursion (λ e. digest ≡ e.digest → ⊥)

module _ {K V H : Type 0} (cmp : K → K → Ordering) (value_digest : H → V → List ℕ) (a b : Contents K V H) where
  -- two rows have equal keys, and values with one digest, each by the hasher of its replica
  abbrev pub AreRowsAlike : K × V → K × V → Type 0
  AreRowsAlike r s = Same cmp r.0 s.0 × (value_digest a.tree.hasher r.1 ≡ value_digest b.tree.hasher s.1)

  -- so have all rows of two lists, place by place
  abbrev pub AreAllAlike : List (K × V) → List (K × V) → Type 0
  AreAllAlike rows others = SameMap cmp (λ d c. d ≡ c) (digests (value_digest a.tree.hasher) rows) (digests (value_digest b.tree.hasher) others)

  -- where the two entries have one digest, the rows of a within the one and those of b within the other have equal keys and equal digests
  abbrev pub TellsMap : Entry K (List ℕ) → Entry K (List ℕ) → Type 0
  TellsMap e f = e.digest ≡ f.digest → SameMap cmp (λ d c. d ≡ c) (entry_rows cmp e (row_digests value_digest a)) (entry_rows cmp f (row_digests value_digest b))

  -- so it is of an entry and each of a list
  abbrev pub TellsMaps : List (Entry K (List ℕ)) → Entry K (List ℕ) → Type 0
  TellsMaps fs e = AllByRecursion (TellsMap e) fs

  -- so it is of each entry of one list and each of the other
  abbrev pub TellMaps : List (Entry K (List ℕ)) → List (Entry K (List ℕ)) → Type 0
  TellMaps es fs = AllByRecursion (TellsMaps fs) es

  -- and where one replica has no row, no entry of the other has the digest of its empty page
  pub record TellAll (bytes_of : K → List ℕ) (es fs : List (Entry K (List ℕ))) : Type 0 where
    pub maps : TellMaps es fs
    pub first_alone : a.rows ≡ [] → LacksPageDigest (root_digest bytes_of a.tree) fs
    pub second_alone : b.rows ≡ [] → LacksPageDigest (root_digest bytes_of b.tree) es
