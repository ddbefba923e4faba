-- A map has one tree, and equal maps have trees of equal pages.
use Rattle.std.specs.Prelude.{◌≡◌, ℕ, List}
use Rattle.std.specs.declared.cmp.Ordering.{Ordering}
use Rattle.key_order.specs.Map.{SameMap}
use Rattle.merkle_tree_theory.specs.Tree.{Tree}
use Rattle.merkle_tree_theory.specs.TreeOf.{defined_tree}
use Rattle.merkle_tree_theory.specs.Canonical.{SamePages, IsTreeOf}
use Rattle.merkle_tree_theory.specs.declared.page_format.PageFormat.{PageFormat}

module _ {K D : Type 0} (cmp : K → K → Ordering) (digest_of : K → List ℕ) (base : ℕ) where
  -- the tree that the map defines is a tree of it
  abbrev pub DefinesTree : List (K × D) → Type 0
  DefinesTree m = IsTreeOf cmp digest_of base (defined_tree digest_of base m) m

  -- each tree of the map has the pages of the one that it defines
  abbrev pub HasOneTree : List (K × D) → Type 0
  HasOneTree m = (t : Tree K D) → IsTreeOf cmp digest_of base t m → SamePages cmp t (defined_tree digest_of base m)

  -- whatever has the pages of the tree that the map defines is a tree of it
  abbrev pub PagesSuffice : List (K × D) → Type 0
  PagesSuffice m = (t : Tree K D) → SamePages cmp t (defined_tree digest_of base m) → IsTreeOf cmp digest_of base t m

module _ {K H : Type 0} (cmp : K → K → Ordering) (digest_of : H → K → List ℕ) where
  -- under any hasher and level base, each tree of a map has the property
  abbrev pub EachTree : (Tree K (List ℕ) → Type 0) → Type 0
  EachTree P = (hasher : H) (base : ℕ) (m : List (K × List ℕ)) (t : Tree K (List ℕ)) → IsTreeOf cmp (digest_of hasher) base t m → P t

  -- under any hasher and level base, trees of equal maps are related
  abbrev pub TreesOfEqualMaps : (Tree K (List ℕ) → Tree K (List ℕ) → Type 0) → Type 0
  TreesOfEqualMaps R =
      (hasher : H) (base : ℕ) (a b : List (K × List ℕ)) (t u : Tree K (List ℕ)) → SameMap cmp (λ d e. d ≡ e) a b
      → IsTreeOf cmp (digest_of hasher) base t a → IsTreeOf cmp (digest_of hasher) base u b → R t u

  -- so are they in any page format
  abbrev pub TreesOfEqualMapsInAnyFormat : (PageFormat → Tree K (List ℕ) → Tree K (List ℕ) → Type 0) → Type 0
  TreesOfEqualMapsInAnyFormat R =
      (hasher : H) (base : ℕ) (format : PageFormat) (a b : List (K × List ℕ)) (t u : Tree K (List ℕ)) → SameMap cmp (λ d e. d ≡ e) a b
      → IsTreeOf cmp (digest_of hasher) base t a → IsTreeOf cmp (digest_of hasher) base u b → R format t u
