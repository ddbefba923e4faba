-- A subtree that is taken apart at a key, page by page.
use Rattle.std.specs.Prelude.{◌≡◌, ℕ, ◌+◌, ◌≤◌, [], length}
use Rattle.std.specs.Vec.{vec_capacity}
use Rattle.std.specs.declared.cmp.Ordering.{Ordering}
use Rattle.merkle_tree_theory.specs.Tree.{Tree, Held, nothing, below}
use Rattle.merkle_tree_theory.specs.Upsert.{held_lower, held_upper}
use Rattle.merkle_tree_theory.specs.Chain.{with_high, with_first, row_of_page, page_chain, HaveNodes}
use Rattle.merkle_search_tree.specs.Parting.{gap, PartingFits}
use Rattle.merkle_search_tree.specs.declared.chain.Chain.{Chain}
use Rattle.merkle_search_tree.specs.declared.parting.Parting.{Parting}
use Rattle.merkle_search_tree.specs.declared.split.Sides.{Sides}

module _ {K D : Type 0} where
  -- no pages, with room for n
  abbrev pub IsEmptyChain : ℕ → Chain K D → Type 0
  IsEmptyChain n chain = (chain.pages.items ≡ []) × (chain.stale ≡ 0) × (n ≤ vec_capacity chain.pages)

  -- each side has room for n more pages
  abbrev pub HaveRoom : ℕ → Sides K D → Type 0
  HaveRoom n s =
      (length s.below.pages.items + n ≤ vec_capacity s.below.pages)
      × (length s.rest.pages.items + n ≤ vec_capacity s.rest.pages)

  -- how many of m pages lose their digests: n, but all where there is something on the other side
  abbrev pub stale_of : Held K D → ℕ → ℕ → ℕ
  stale_of nothing n m = n
  stale_of (below t) n m = m

module _ {K D : Type 0} (cmp : K → K → Ordering) (at : K) where
  -- the parts of the whole are the pages of the sides, with the parts of what is still to be taken apart page_chain below them
  abbrev pub InParts : Held K D → Held K D → Sides K D → Type 0
  InParts whole left s =
      (page_chain with_high (stale_of (held_upper cmp at left) s.below.stale (length s.below.pages.items)) s.below.pages.items (held_lower cmp at left) ≡ held_lower cmp at whole)
      × (page_chain with_first (stale_of (held_lower cmp at left) s.rest.stale (length s.rest.pages.items)) s.rest.pages.items (held_upper cmp at left) ≡ held_upper cmp at whole)
      × (s.below.stale ≤ length s.below.pages.items)
      × (s.rest.stale ≤ length s.rest.pages.items)
      × HaveNodes s.rest.pages.items

module _ {K D : Type 0} where
  -- h is what stands in the gap of each key at which the page t has this parting
  abbrev pub IsGapAt : Tree K D → Parting K D → Held K D → Type 0
  IsGapAt t parting h = (cmp : K → K → Ordering) (key : K) → PartingFits cmp key (row_of_page t) parting → h ≡ gap cmp key (row_of_page t)

  -- at each such key the parts of a whole stay the same, where t was still to be taken apart, and now h is
  abbrev pub KeepsParts : Tree K D → Parting K D → Sides K D → Held K D → Sides K D → Type 0
  KeepsParts t parting old h new = (cmp : K → K → Ordering) (key : K) (whole : Held K D) → PartingFits cmp key (row_of_page t) parting
      → InParts cmp key whole (below t) old → InParts cmp key whole h new
