-- What the answering side tells of a page, and its bytes.
use Rattle.std.specs.Prelude.{◌≡◌, ℕ, List, [], ◌∷◌, ◌++◌, map, flat_map, Bool, true, Option, Some, None, ⊤, ◌⊎◌}
use Rattle.std.specs.declared.cmp.Ordering.{Ordering}
use Rattle.merkle_bytes.specs.Keys.{key_behind}
use Rattle.merkle_bytes.specs.Options.{option_bytes}
use Rattle.merkle_bytes.specs.Runs.{run_bytes, row_behind, row_key}
use Rattle.merkle_digest.specs.SipHash.{siphash128, zero_key}
use Rattle.merkle_tree_theory.specs.Outline.{Item, of_node, of_page}
use Rattle.key_order.specs.Order.{Same}
use Rattle.key_order.specs.Map.{get}
use denote.Ref.{Bor}

-- rows; keys with the digests of their values; or a page: the digest of its nodes, their keys, and the digests of the pages before and after them
pub data Outline (K V : Type 0) : Type 0 where
  rows_told : List (K × V) → Outline K V
  digests_told : List (K × List ℕ) → Outline K V
  page_told : List ℕ → List K → List (Option (List ℕ)) → Outline K V

module _ {K : Type 0} where
  -- the nodes among the items of an outline, each as its key and the digest of its value
  abbrev pub nodes_among : List (Item K (List ℕ)) → List (K × List ℕ)
  nodes_among [] = []
  nodes_among (of_node k d ∷ xs) = (k, d) ∷ nodes_among xs
  nodes_among (of_page g d ∷ xs) = nodes_among xs

  -- the digest of the page before each node and of that after the last, where `before` is what stands before the first item
  abbrev pub pages_beside : Option (List ℕ) → List (Item K (List ℕ)) → List (Option (List ℕ))
  pages_beside before [] = before ∷ []
  pages_beside before (of_node k d ∷ xs) = before ∷ pages_beside None xs
  pages_beside before (of_page g d ∷ xs) = pages_beside (Some d) xs

  -- no page is below
  abbrev pub HasNoPage : List (Item K (List ℕ)) → Type 0
  HasNoPage [] = ⊤
  HasNoPage (of_node k d ∷ xs) = HasNoPage xs
  HasNoPage (of_page g d ∷ xs) = ⊥

  -- the keys of nodes
  abbrev pub keys_among : List (K × List ℕ) → List K
  keys_among = map (λ p. p.0)

-- the digest of digests, one after the other
abbrev pub digest_of_all : List (List ℕ) → List ℕ
digest_of_all ds = siphash128 zero_key (flat_map (λ d. d) ds)

-- the digest of nodes: that of the digests of their values
abbrev pub nodes_digest : {K : Type 0} → List (K × List ℕ) → List ℕ
nodes_digest nodes = digest_of_all (map (λ p. p.1) nodes)

-- nodes that are lent, each as its key and the digest of its value
abbrev pub node_pairs : {K : Type 0} → List (Bor K × Bor (List ℕ)) → List (K × List ℕ)
node_pairs = map (λ n. (n.0.now, n.1.now))

module _ {K V : Type 0} (cmp : K → K → Ordering) (rows : List (K × V)) where
  -- `found` has the row at each of the keys, one after the other, but for keys that aren't there
  abbrev pub AreRowsAt : List K → List (K × V) → Type 0
  AreRowsAt [] found = found ≡ []
  AreRowsAt (k ∷ ks) found = ((get cmp rows k ≡ None) × AreRowsAt ks found)
      ⊎ ((row : K × V) × (rest : List (K × V)) × Same cmp row.0 k × (get cmp rows k ≡ Some row.1) × AreRowsAt ks rest × (found ≡ row ∷ rest))

  -- the nodes, as rows or as digests
  abbrev pub AreNodes : List (K × List ℕ) → Outline K V → Type 0
  AreNodes nodes (rows_told rs) = AreRowsAt (keys_among nodes) rs
  AreNodes nodes (digests_told same) = same ≡ nodes
  AreNodes nodes _ = ⊥

  -- what is told of a page with these items, with the pages below it or alone: a page, where there are pages below that are to be told, else its nodes
  abbrev pub IsTold : Bool → List (Item K (List ℕ)) → Outline K V → Type 0
  IsTold with_pages list (page_told digest keys pages) = (with_pages ≡ true) × (digest ≡ nodes_digest (nodes_among list)) × (keys ≡ keys_among (nodes_among list)) × (pages ≡ pages_beside None list)
  IsTold with_pages list nodes = (with_pages ≡ true → HasNoPage list) × AreNodes (nodes_among list) nodes

-- the digests of pages, each where there is one
abbrev pub pages_bytes : List (Option (List ℕ)) → List ℕ
pages_bytes = flat_map (option_bytes (λ d. d))

module _ {K : Type 0} (encoding : K → List ℕ) where
  -- how many keys there are, and the keys, each after the one before
  abbrev pub keys_told : List ℕ → List K → List ℕ
  keys_told = run_bytes (λ last k. key_behind last (encoding k)) (λ last k. encoding k)

  -- the bytes of nodes, after a key: the keys, and then the digests
  abbrev pub nodes_bytes : List ℕ → List (K × List ℕ) → List ℕ
  nodes_bytes last nodes = keys_told last (keys_among nodes) ++ flat_map (λ n. n.1) nodes

  -- the bytes of a page, after a key: the digest of its nodes, their keys, and the digests of the pages beside them
  abbrev pub page_bytes : List ℕ → List ℕ → List K → List (Option (List ℕ)) → List ℕ
  page_bytes last digest keys pages = digest ++ (keys_told last keys ++ pages_bytes pages)

-- the bytes of what is told, after a key
abbrev pub outline_bytes : {K V : Type 0} → (K → List ℕ) → (V → List ℕ) → List ℕ → Outline K V → List ℕ
outline_bytes encoding values last (rows_told rows) = 0 ∷ run_bytes (row_behind encoding values) (row_key encoding) last rows
outline_bytes encoding values last (digests_told nodes) = 1 ∷ nodes_bytes encoding last nodes
outline_bytes encoding values last (page_told digest keys pages) = 2 ∷ page_bytes encoding last digest keys pages
