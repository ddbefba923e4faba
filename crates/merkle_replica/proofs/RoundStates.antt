-- A catch-up between two of its rounds.
use Rattle.std.specs.Prelude.{◌≡◌, ℕ, ◌+◌, ◌<◌, ◌≤◌, List, [], ◌∷◌, length, Option, Some, None, ◌⊎◌}
use Rattle.std.specs.List.{AllByRecursion}
use Rattle.key_order.specs.Order.{AnyByRecursion, Same}
use Rattle.merkle_tree_theory.specs.Tree.{Tree}
use Rattle.merkle_tree_theory.specs.Gap.{Gap, IsInGap}
use Rattle.merkle_tree_theory.specs.Lookup.{Fills, page_over}
use Rattle.merkle_tree_theory.specs.Page.{level, nodes_of}
use Rattle.merkle_replica.specs.Laws.{Laws}
use Rattle.merkle_replica.specs.Contents.{Contents, side}
use Rattle.merkle_replica.specs.CatchUp.{IsLacked, IsHidden}
use Rattle.merkle_replica.specs.Missing.{has_page_over, missing_of_tree, missing_pages}

-- the sum of what each element weighs
abbrev pub total : {X : Type 0} → (X → ℕ) → List X → ℕ
total weight [] = 0
total weight (x ∷ xs) = weight x + total weight xs

module _ {K V H : Type 0} (laws : Laws K V H) (local peer : Contents K V H) where
  -- a page of the peer's tree fills the gap, on a level below n
  abbrev pub IsPageGap : ℕ → Gap K → Type 0
  IsPageGap n g = (t : Tree K (List ℕ)) × Fills laws.cmp g t peer.tree.root × (level t < n)

  -- the gaps are those of such pages, the keys are missing, and each key that is missing is in a gap, found, or hidden
  pub record IsUnderway (n : ℕ) (gaps : List (Gap K)) (keys : List K) : Type 0 where
    pub pages : AllByRecursion (IsPageGap n) gaps
    pub lacked : AllByRecursion (IsLacked laws (side local) (side peer)) keys
    pub covered : (k : K) → IsLacked laws (side local) (side peer) k → (AnyByRecursion (IsInGap laws.cmp k) gaps ⊎ AnyByRecursion (Same laws.cmp k) keys) ⊎ IsHidden laws (side local) (side peer) k

  -- how much the pages weigh that are missing of the page that was found over a gap
  abbrev pub lacking : (Tree K (List ℕ) → ℕ) → Gap K → Option (Tree K (List ℕ)) → ℕ
  lacking weight g None = 0
  lacking weight g (Some t) = total weight (missing_pages peer.tree.format laws.bytes_of (has_page_over laws (side local)) g t)

  -- of the page over a gap in the peer's tree
  abbrev pub over : (Tree K (List ℕ) → ℕ) → Gap K → ℕ
  over weight g = lacking weight g (page_over laws.cmp g peer.tree.root)

  -- how much the pages weigh that are missing of the peer's tree
  abbrev pub missing : (Tree K (List ℕ) → ℕ) → ℕ
  missing weight = total weight (missing_of_tree peer.tree.format laws.bytes_of (has_page_over laws (side local)) peer.tree.root)

  -- the pages that were opened and those that are left are all that are missing, the nodes that were compared and theirs are all nodes of these,
  -- and each page that was opened had a node
  pub record AreCounted (opened compared : ℕ) (gaps : List (Gap K)) : Type 0 where
    pub pages : opened + total (over (λ t. 1)) gaps ≡ missing (λ t. 1)
    pub nodes : compared + total (over (λ t. length (nodes_of t))) gaps ≡ missing (λ t. length (nodes_of t))
    pub fewer : opened ≤ compared

-- how much a page weighs that was found
abbrev pub weight_found : {K : Type 0} → (Tree K (List ℕ) → ℕ) → Option (Tree K (List ℕ)) → ℕ
weight_found weight None = 0
weight_found weight (Some t) = weight t
