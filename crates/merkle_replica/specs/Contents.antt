-- What a replica is seen as.
use Rattle.std.specs.Prelude.{◌≡◌, ℕ, List, []}
use Rattle.std.specs.Coded.{Coded, coded_list, coded×, code_by}
use Rattle.std.specs.declared.cmp.Ordering.{Ordering}
use Rattle.std.proofs.Common.{refl}
use Rattle.key_order.specs.Map.{IsMap, SameMap}
use Rattle.merkle_search_tree.specs.Loading.{digests}
use Rattle.merkle_tree_theory.specs.Canonical.{IsTreeOf}
use Rattle.merkle_tree_theory.specs.State.{State, state_code, map_of, IsNew}
use Rattle.merkle_tree_theory.specs.Tree.{Tree}
use Rattle.merkle_tree_theory.specs.declared.page_format.PageFormat.{PageFormat}
use Rattle.merkle_replica.specs.Laws.{Laws}

-- its rows, and its tree
pub record Contents (K V H : Type 0) : Type 0 where
  pub rows : List (K × V)
  pub tree : State K H

abbrev pub contents_code : {K V H : Type 0} → Coded K → Coded V → Coded H → Coded (Contents K V H)
contents_code {K} {V} {H} k v h =
    code_by (List (K × V) × State K H) (coded× (coded_list (coded× k v)) (state_code k h))
    (λ c. (c.rows, c.tree)) (λ p. record { rows = p.0; tree = p.1 }) (λ _. refl)

-- what pulls see of a replica: the hasher, the level base and the page format of its tree, and its rows
pub record Side (K V H : Type 0) : Type 0 where
  pub hasher : H
  pub base : ℕ
  pub format : PageFormat
  pub rows : List (K × V)

abbrev pub side : {K V H : Type 0} → Contents K V H → Side K V H
side c = record { hasher = c.tree.hasher; base = c.tree.base; format = c.tree.format; rows = c.rows }

-- the side with other rows
abbrev pub with_rows : {K V H : Type 0} → Side K V H → List (K × V) → Side K V H
with_rows s rows = record s { rows = rows }

-- the map of a side's tree: its rows with each value replaced by its digest
abbrev pub tree_map : {K V H : Type 0} → Laws K V H → Side K V H → List (K × List ℕ)
tree_map laws s = digests (laws.value_digest s.hasher) s.rows

-- it is the tree of the side's map
abbrev pub IsTreeOfSide : {K V H : Type 0} → Laws K V H → Side K V H → Tree K (List ℕ) → Type 0
IsTreeOfSide laws s root = IsTreeOf laws.cmp (laws.key_digest s.hasher) s.base root (tree_map laws s)

-- the tree's map is the digests of the rows
abbrev pub HasItsDigests : {K V H : Type 0} → (K → K → Ordering) → (H → V → List ℕ) → Contents K V H → Type 0
HasItsDigests cmp digest_of c = SameMap cmp (λ d e. d ≡ e) (map_of c.tree) (digests (digest_of c.tree.hasher) c.rows)

-- the rows ascend by key, and the tree's map is the digests of the rows
pub record IsKept {K V H : Type 0} (cmp : K → K → Ordering) (digest_of : H → V → List ℕ) (c : Contents K V H) : Type 0 where
  pub ascending : IsMap cmp c.rows
  pub digested : HasItsDigests cmp digest_of c

-- no row, and the empty tree with this hasher, level base and page format
abbrev pub IsEmpty : {K V H : Type 0} → H → ℕ → PageFormat → Contents K V H → Type 0
IsEmpty hasher base format c = (c.rows ≡ []) × IsNew hasher base format c.tree
