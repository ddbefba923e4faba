-- A tree that is being loaded from rows in ascending key order.
use Rattle.std.specs.Prelude.{◌≡◌, ℕ, ◌-◌, ◌^◌, min, List, [], ◌∷◌, ◌++◌, map, length, codes, ⊤}
use Rattle.std.specs.Fmt.{decimal}
use Rattle.std.specs.declared.cmp.Ordering.{Ordering}
use Rattle.key_order.specs.Map.{IsMap, SameMap}
use Rattle.merkle_digest.specs.Level.{level_of}
use Rattle.merkle_tree_theory.specs.Edge.{IsEdge, edge_pairs}
use Rattle.merkle_tree_theory.specs.Settings.{Settings}
use Rattle.merkle_tree_theory.specs.State.{State, map_of}
use Rattle.merkle_search_tree.specs.declared.load.Loading.{Loading}
use Rattle.merkle_search_tree.specs.declared.load.LoadRefused.{LoadRefused}
use Rattle.merkle_search_tree.specs.declared.load.LoadRefused.TheVariants.{Memory, NotAscending}

-- how many rows there are, but at most what a `usize` holds
abbrev pub row_count : {X : Type 0} → List X → ℕ
row_count rows = min (length rows) (2 ^ 64 - 1)

-- the pairs of the open pages ascend, the pages are those of a right edge, and the pairs are counted
pub record IsLoading {K H : Type 0} (cmp : K → K → Ordering) (digest_of : H → K → List ℕ) (settings : Settings H) (loading : Loading K (List ℕ)) : Type 0 where
  pub ascending : IsMap cmp (edge_pairs loading.edge.items)
  pub fits : IsEdge (λ k. level_of (digest_of settings.hasher k) settings.base) 256 loading.edge.items
  pub counted : loading.count ≡ row_count (edge_pairs loading.edge.items)

-- a row is put after those that are loaded
abbrev pub Adds : {K V H : Type 0} → (H → V → List ℕ) → Settings H → Loading K (List ℕ) → K → V → Loading K (List ℕ) → Type 0
Adds value_digest settings old key value new = edge_pairs new.edge.items ≡ edge_pairs old.edge.items ++ (key, value_digest settings.hasher value) ∷ []

-- the rows with each value replaced by its digest
abbrev pub digests : {K V D : Type 0} → (V → D) → List (K × V) → List (K × D)
digests digest_of = map (λ r. (r.0, digest_of r.1))

module _ {K V H : Type 0} (cmp : K → K → Ordering) (digest_of : V → List ℕ) where
  -- rows came that ascend, and the map of the tree is these rows with the digests of their values
  abbrev pub HasLoaded : (List (K × V) → Type 0) → State K H → Type 0
  HasLoaded Came tree = (rows : List (K × V)) × Came rows × IsMap cmp rows × (map_of tree ≡ digests digest_of rows)

  -- the map of the tree is the rows with the digests of their values, up to equal keys
  abbrev pub HasRowDigests : List (K × V) → State K H → Type 0
  HasRowDigests rows tree = SameMap cmp (λ d e. d ≡ e) (map_of tree) (digests digest_of rows)

-- the rows begin with these
abbrev pub BeginsWith : {X : Type 0} → List X → List X → Type 0
BeginsWith {X} rows front = (rest : List X) × (front ++ rest ≡ rows)

module _ {K X : Type 0} (cmp : K → K → Ordering) where
  -- after these rows, which ascend, a row with the key k doesn't
  abbrev pub EndsAscent : List (K × X) → K → Type 0
  EndsAscent rows k = IsMap cmp rows × ((x : X) → ¬ (IsMap cmp (rows ++ (k, x) ∷ [])))

  -- a row with the key k was refused after these rows: memory ran out, or it doesn't ascend
  abbrev pub RowFails : List (K × X) → K → LoadRefused → Type 0
  RowFails rows k Memory = ⊤
  RowFails rows k (NotAscending at) = EndsAscent rows k × (at ≡ row_count rows)

  -- loading was refused: memory ran out, or the last of the rows that came is the first that doesn't ascend
  abbrev pub LoadFails : (List (K × X) → Type 0) → LoadRefused → Type 0
  LoadFails Came Memory = ⊤
  LoadFails Came (NotAscending at) = (rows : List (K × X)) × (row : K × X) × Came (rows ++ row ∷ []) × EndsAscent rows row.0 × (at ≡ row_count rows)

-- what a refusal says
abbrev pub refusal_text : LoadRefused → List ℕ
refusal_text Memory = codes "memory was refused, and no row was loaded"
refusal_text (NotAscending at) = codes "the key at place " ++ decimal at ++ codes " isn't above the one before it, and no row was loaded"
