-- What a `MerkleSearchTree` is seen as.
use Rattle.std.specs.Prelude.{◌≡◌, ℕ, List, Option, None}
use Rattle.std.specs.Coded.{Coded, coded_ℕ, coded_list, coded_option, coded×, code_by}
use Rattle.std.proofs.Common.{refl}
use Rattle.merkle_tree_theory.specs.Tree.{Tree, page, high, nothing}
use Rattle.merkle_tree_theory.specs.TreeCode.{tree_code}
use Rattle.merkle_tree_theory.specs.Page.{pairs}
use Rattle.merkle_tree_theory.specs.Settings.{Settings, format_code}
use Rattle.merkle_tree_theory.specs.declared.page_format.PageFormat.{PageFormat}

-- the hasher, the level base, the page format, the root page with all caches, and the cached root hash
pub record State (K H : Type 0) : Type 0 where
  pub hasher : H
  pub base : ℕ
  pub format : PageFormat
  pub root : Tree K (List ℕ)
  pub root_hash : Option (List ℕ)

-- the map of a tree: its keys in order, each with its value digest
abbrev pub map_of : {K H : Type 0} → State K H → List (K × List ℕ)
map_of s = pairs s.root

-- the empty tree with this hasher, level base and page format: its one page has level 0 and no node, and nothing is cached
abbrev pub IsNew : {K H : Type 0} → H → ℕ → PageFormat → State K H → Type 0
IsNew hasher base format s = s ≡ record { hasher = hasher; base = base; format = format; root = page 0 None (high nothing); root_hash = None }

-- the tree has the hasher, the level base and the page format of a builder
abbrev pub HasSettings : {K H : Type 0} → Settings H → State K H → Type 0
HasSettings builder tree = (tree.hasher ≡ builder.hasher) × (tree.base ≡ builder.base) × (tree.format ≡ builder.format)

-- the hasher, the level base and the page format stay
abbrev pub SameSettings : {K H : Type 0} → State K H → State K H → Type 0
SameSettings old new = (new.hasher ≡ old.hasher) × (new.base ≡ old.base) × (new.format ≡ old.format)

abbrev pub state_code : {K H : Type 0} → Coded K → Coded H → Coded (State K H)
state_code {K} {H} k h =
    code_by (H × (ℕ × (PageFormat × (Tree K (List ℕ) × Option (List ℕ)))))
    (coded× h (coded× coded_ℕ (coded× format_code (coded× (tree_code k (coded_list coded_ℕ)) (coded_option (coded_list coded_ℕ))))))
    (λ s. (s.hasher, (s.base, (s.format, (s.root, s.root_hash)))))
    (λ p. record { hasher = p.0; base = p.1.0; format = p.1.1.0; root = p.1.1.1.0; root_hash = p.1.1.1.1 }) (λ _. refl)
