-- When equal digests of pages tell that the maps of their subtrees are equal.
use Rattle.std.specs.Prelude.{◌≡◌, ℕ, ◌<◌, ◌^◌, List, length}
use Rattle.std.specs.List.{AllByRecursion}
use Rattle.std.specs.declared.cmp.Ordering.{Ordering}
use Rattle.key_order.specs.Map.{SameMap}
use Rattle.merkle_tree_theory.specs.Tree.{Tree}
use Rattle.merkle_tree_theory.specs.Page.{nodes_of, pairs}
use Rattle.merkle_tree_theory.specs.Canonical.{IsTreeOf}
use Rattle.merkle_tree_theory.specs.Ranges.{IsPageOf}
use Rattle.merkle_tree_theory.specs.declared.page_format.PageFormat.{PageFormat}
use Rattle.merkle_tree_theory.specs.declared.page_format.PageFormat.TheVariants.{V2}
use Rattle.merkle_tree_theory.specs.Stream.{page_digest, stream_of, SameDigest}

module _ {K D P T : Type 0} (cmp : K → K → Ordering) (IsPageOfLocal IsPageOfPeer : T → List (K × D) → Type 0) (local_digest peer_digest : T → P) (pairs : T → List (K × D)) where
  -- where a page of one tree and a page of the other have equal digests, the maps of their subtrees are equal
  abbrev pub HasFaithfulPages : List (K × D) → List (K × D) → Type 0
  HasFaithfulPages a b = (s t : T) → IsPageOfLocal s a → IsPageOfPeer t b → local_digest s ≡ peer_digest t → SameMap cmp (λ d e. d ≡ e) (pairs s) (pairs t)

module _ {K : Type 0} (cmp : K → K → Ordering) (digest_of : K → List ℕ) (base : ℕ) where
  -- the map's keys have fewer than 2 ^ 64 bytes, its value digests n bytes, and the pages of its tree fewer than 2 ^ 64 nodes: so it is of
  -- every map in a program
  pub record IsSmall (bytes_of : K → List ℕ) (n : ℕ) (m : List (K × List ℕ)) : Type 0 where
    pub keys : AllByRecursion (λ p. length (bytes_of p.0) < 2 ^ 64) m
    pub digests : AllByRecursion (λ p. length p.1 ≡ n) m
    pub pages : (s : Tree K (List ℕ)) → IsPageOf cmp digest_of base s m → length (nodes_of s) < 2 ^ 64

  -- no two streams collide: where a page of the tree of a and a page of the tree of b have equal digests, they have equal streams
  abbrev pub NoCollision : PageFormat → (K → List ℕ) → List (K × List ℕ) → List (K × List ℕ) → Type 0
  NoCollision format bytes_of a b = (s t : Tree K (List ℕ)) → IsPageOf cmp digest_of base s a → IsPageOf cmp digest_of base t b
      → page_digest format bytes_of s ≡ page_digest format bytes_of t → stream_of format bytes_of s ≡ stream_of format bytes_of t

  module _ (bytes_of : K → List ℕ) (n : ℕ) where
    -- where two maps are small, with value digests of n bytes, and no two streams of their pages collide in format 2, X holds
    abbrev pub WhereNoneCollide : List (K × List ℕ) → List (K × List ℕ) → Type 0 → Type 0
    WhereNoneCollide a b X = IsSmall bytes_of n a → IsSmall bytes_of n b → NoCollision V2 bytes_of a b → X

    -- there pages with equal digests have equal maps below them
    abbrev pub PagesTellMaps : Type 0
    PagesTellMaps =
        (a b : List (K × List ℕ)) → WhereNoneCollide a b
        (HasFaithfulPages cmp (IsPageOf cmp digest_of base) (IsPageOf cmp digest_of base)
        (page_digest V2 bytes_of) (page_digest V2 bytes_of) pairs a b)

    -- there maps are equal whose trees have one digest
    abbrev pub RootsTellMaps : Type 0
    RootsTellMaps =
        (a b : List (K × List ℕ)) (t u : Tree K (List ℕ)) → WhereNoneCollide a b
        (IsTreeOf cmp digest_of base t a → IsTreeOf cmp digest_of base u b → SameDigest V2 bytes_of t u → SameMap cmp (λ d e. d ≡ e) a b)
