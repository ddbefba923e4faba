-- Faithful digests: what has equal digests is equal.
use Rattle.std.specs.Prelude.{◌≡◌, ℕ, true, List, [], ◌∷◌, ⊤, Some}
use Rattle.std.specs.List.{AllByRecursion}
use Rattle.std.specs.declared.cmp.Ordering.{Ordering}
use Rattle.key_order.specs.Order.{Upto}
use Rattle.key_order.specs.Interval.{Span, IsCovered}
use Rattle.key_order.specs.Map.{get, last_key}
use Rattle.merkle_tree_theory.specs.Faithful.{IsSmall, NoCollision, HasFaithfulPages}
use Rattle.merkle_tree_theory.specs.Page.{pairs}
use Rattle.merkle_tree_theory.specs.Ranges.{IsPageOf}
use Rattle.merkle_tree_theory.specs.Stream.{page_digest}
use Rattle.merkle_tree_theory.specs.declared.page_format.PageFormat.TheVariants.{V2}
use Rattle.merkle_replica.specs.Laws.{Laws}
use Rattle.merkle_replica.specs.Contents.{Side, tree_map}

module _ {K X : Type 0} (cmp : K → K → Ordering) where
  -- the span of b holds that of a, or a is empty
  abbrev pub SpanHolds : List (K × X) → List (K × X) → Type 0
  SpanHolds b [] = ⊤
  SpanHolds [] (r ∷ rs) = ⊥
  SpanHolds (s ∷ ss) (r ∷ rs) = Upto cmp s.0 r.0 × Upto cmp (last_key r.0 rs) (last_key s.0 ss)

module _ {K V H : Type 0} (laws : Laws K V H) where
  -- where a page of a's tree and a page of b's have equal digests, the maps of their subtrees are equal
  abbrev pub HaveFaithfulPages : Side K V H → Side K V H → Type 0
  HaveFaithfulPages a b =
      HasFaithfulPages laws.cmp (IsPageOf laws.cmp (laws.key_digest a.hasher) a.base) (IsPageOf laws.cmp (laws.key_digest b.hasher) b.base)
      (page_digest a.format laws.bytes_of) (page_digest b.format laws.bytes_of) pairs (tree_map laws a) (tree_map laws b)

  -- where a key that both sides have has equal value digests, its two values are equal
  abbrev pub HaveFaithfulValues : Side K V H → Side K V H → Type 0
  HaveFaithfulValues a b =
      (k : K) (x y : V) → get laws.cmp a.rows k ≡ Some x → get laws.cmp b.rows k ≡ Some y
      → laws.value_digest a.hasher x ≡ laws.value_digest b.hasher y → laws.eq x y ≡ true

  -- the two sides have faithful digests, each by its own hasher, level base and page format
  pub record IsFaithful (a b : Side K V H) : Type 0 where
    pub same_pages : HaveFaithfulPages a b
    pub same_values : HaveFaithfulValues a b

  -- so have the two sides met before each turn
  abbrev pub AllFaithful : List (Side K V H × Side K V H) → Type 0
  AllFaithful = AllByRecursion (λ sides. IsFaithful sides.0 sides.1)

  -- each key of the peer that local lacks, or has with another digest, is in one of the ranges
  abbrev pub MissesNone : Side K V H → Side K V H → List (Span K) → Type 0
  MissesNone local peer found =
      (k : K) (d : List ℕ) → get laws.cmp (tree_map laws peer) k ≡ Some d → ¬ (get laws.cmp (tree_map laws local) k ≡ Some d) → IsCovered laws.cmp k found

  -- the sides give each key one digest, and have one level base and one page format
  pub record AreSetAlike (a b : Side K V H) : Type 0 where
    pub keys : (k : K) → laws.key_digest a.hasher k ≡ laws.key_digest b.hasher k
    pub base : a.base ≡ b.base
    pub format : a.format ≡ b.format

  -- the map of the side's tree is small, with value digests of n bytes
  abbrev pub HasSmallMap : ℕ → Side K V H → Type 0
  HasSmallMap n s = IsSmall laws.cmp (laws.key_digest s.hasher) s.base laws.bytes_of n (tree_map laws s)

  -- no two streams of pages in format 2 collide, of the maps of both sides in trees as a has them
  abbrev pub NoStreamsCollide : Side K V H → Side K V H → Type 0
  NoStreamsCollide a b = NoCollision laws.cmp (laws.key_digest a.hasher) a.base V2 laws.bytes_of (tree_map laws a) (tree_map laws b)

  -- of two alike sides in format 2, with value digests of n bytes: their maps are small, no two streams of their pages collide, and where a
  -- key that both have has equal value digests, its two values are equal
  pub record IsCollisionFree (n : ℕ) (a b : Side K V H) : Type 0 where
    pub small_first : HasSmallMap n a
    pub small_second : HasSmallMap n b
    pub streams : NoStreamsCollide a b
    pub same_values : HaveFaithfulValues a b

  -- so are the two sides met before each turn
  abbrev pub AllCollisionFree : ℕ → List (Side K V H × Side K V H) → Type 0
  AllCollisionFree n = AllByRecursion (λ sides. IsCollisionFree n sides.0 sides.1)
