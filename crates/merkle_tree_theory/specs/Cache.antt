-- The cached digests of the pages of a tree.
use Rattle.std.specs.Prelude.{◌≡◌, ℕ, ◌+◌, List, false, Option, Some, None, ⊤}
use Rattle.std.specs.declared.cmp.Ordering.{Ordering}
use Rattle.key_order.specs.Map.{has_key}
use Rattle.merkle_tree_theory.specs.Tree.{Tree, page, Row, high, node, Held, nothing, below}
use Rattle.merkle_tree_theory.specs.Page.{row_pairs}
use Rattle.merkle_tree_theory.specs.Stream.{page_digest}
use Rattle.merkle_tree_theory.specs.declared.page_format.PageFormat.{PageFormat}

-- one where there is no digest
abbrev pub one_without : Option (List ℕ) → ℕ
one_without None = 1
one_without (Some d) = 0

module _ {K D : Type 0} where
  abbrev mutual
    -- how many pages lack a digest
    pub uncached_pages : Tree K D → ℕ
    uncached_pages (page l c r) = one_without c + row_uncached_pages r

    pub row_uncached_pages : Row K D → ℕ
    row_uncached_pages (high h) = held_uncached_pages h
    row_uncached_pages (node h k d r) = held_uncached_pages h + row_uncached_pages r

    pub held_uncached_pages : Held K D → ℕ
    held_uncached_pages nothing = 0
    held_uncached_pages (below t) = uncached_pages t

module _ {K D : Type 0} (cmp : K → K → Ordering) where
  abbrev mutual
    -- no page whose subtree holds the key has a digest
    pub KeyUncached : K → Tree K D → Type 0
    KeyUncached k (page l None r) = RowKeyUncached k r
    KeyUncached k (page l (Some c) r) = has_key cmp (row_pairs r) k ≡ false

    pub RowKeyUncached : K → Row K D → Type 0
    RowKeyUncached k (high h) = HeldKeyUncached k h
    RowKeyUncached k (node h x d r) = HeldKeyUncached k h × RowKeyUncached k r

    pub HeldKeyUncached : K → Held K D → Type 0
    HeldKeyUncached k nothing = ⊤
    HeldKeyUncached k (below t) = KeyUncached k t

module _ {K D : Type 0} where
  -- the page, where there is one, has a digest
  abbrev pub HasCache : Held K D → Type 0
  HasCache nothing = ⊤
  HasCache (below (page l None r)) = ⊥
  HasCache (below (page l (Some d) r)) = ⊤

  -- the page below each node, and the high page, has a digest
  abbrev pub EachHasCache : Row K D → Type 0
  EachHasCache (high h) = HasCache h
  EachHasCache (node h k d r) = HasCache h × EachHasCache r

module _ {K : Type 0} (format : PageFormat) (bytes_of : K → List ℕ) where
  abbrev mutual
    -- each cached digest is that of its page, and below a page with a cached digest every page has one
    pub CachesHold : Tree K (List ℕ) → Type 0
    CachesHold (page l None r) = RowCachesHold r
    CachesHold (page l (Some d) r) = (d ≡ page_digest format bytes_of (page l (Some d) r)) × EachHasCache r × RowCachesHold r

    pub RowCachesHold : Row K (List ℕ) → Type 0
    RowCachesHold (high h) = HeldCachesHold h
    RowCachesHold (node h k d r) = HeldCachesHold h × RowCachesHold r

    pub HeldCachesHold : Held K (List ℕ) → Type 0
    HeldCachesHold nothing = ⊤
    HeldCachesHold (below t) = CachesHold t

  abbrev mutual
    -- the page and those below it with every digest in place
    pub tree_with_digests : Tree K (List ℕ) → Tree K (List ℕ)
    tree_with_digests (page l c r) = page l (Some (page_digest format bytes_of (page l c r))) (row_with_digests r)

    pub row_with_digests : Row K (List ℕ) → Row K (List ℕ)
    row_with_digests (high h) = high (held_with_digests h)
    row_with_digests (node h k d r) = node (held_with_digests h) k d (row_with_digests r)

    pub held_with_digests : Held K (List ℕ) → Held K (List ℕ)
    held_with_digests nothing = nothing
    held_with_digests (below t) = below (tree_with_digests t)
