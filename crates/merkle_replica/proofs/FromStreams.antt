-- Coverage and convergence in format 2, from what the law on streams says of pages.
use Rattle.std.proofs.Common.{◌≡◌, ℕ, ◌≤◌, List, [], ◌∷◌, length, sym, ◌∙◌, subst}
use Rattle.std.specs.Cmp.{IsTotalOrder, IsEquivalence}
use Rattle.key_order.specs.Interval.{Span}
use Rattle.key_order.specs.Map.{IsMap}
use Rattle.key_order.specs.Join.{IsJoining}
use Rattle.merkle_tree_theory.specs.Faithful.{IsSmall, NoCollision, HasFaithfulPages}
use Rattle.merkle_tree_theory.specs.Page.{pairs}
use Rattle.merkle_tree_theory.specs.Ranges.{IsPageOf}
use Rattle.merkle_tree_theory.specs.Stream.{page_digest}
use Rattle.merkle_tree_theory.specs.declared.page_format.PageFormat.{PageFormat}
use Rattle.merkle_tree_theory.specs.declared.page_format.PageFormat.TheVariants.{V2}
use Rattle.merkle_replica.specs.Laws.{Laws}
use Rattle.merkle_replica.specs.Contents.{Side, with_rows, tree_map}
use Rattle.merkle_replica.specs.Faithful.{SpanHolds, HaveFaithfulPages, IsFaithful, AllFaithful, MissesNone, AreSetAlike, HasSmallMap, NoStreamsCollide, IsCollisionFree, AllCollisionFree}
use Rattle.merkle_replica.specs.Pulls.{Answer, IsAnswerFor, IsByTurns, HoldTheJoin}
use Rattle.merkle_replica.proofs.Convergence.{converges}
use Rattle.merkle_replica.proofs.Listings.{AreListings}
use Rattle.merkle_replica.proofs.PullParts.{covers_sides}

module _ {K V H : Type 0} (laws : Laws K V H) (n : ℕ) where
  -- what the law on streams says of these maps
  abbrev PagesTell : H → ℕ → List (K × List ℕ) → List (K × List ℕ) → Type 0
  PagesTell hasher base m w =
      IsSmall laws.cmp (laws.key_digest hasher) base laws.bytes_of n m → IsSmall laws.cmp (laws.key_digest hasher) base laws.bytes_of n w
      → NoCollision laws.cmp (laws.key_digest hasher) base V2 laws.bytes_of m w
      → HasFaithfulPages laws.cmp (IsPageOf laws.cmp (laws.key_digest hasher) base) (IsPageOf laws.cmp (laws.key_digest hasher) base)
      (page_digest V2 laws.bytes_of) (page_digest V2 laws.bytes_of) pairs m w

  -- so of alike sides in format 2
  faithful_pages : (a b : Side K V H) → PagesTell a.hasher a.base (tree_map laws a) (tree_map laws b) → AreSetAlike laws a b → a.format ≡ V2
      → HasSmallMap laws n a → HasSmallMap laws n b → NoStreamsCollide laws a b → HaveFaithfulPages laws a b
  faithful_pages a b tell alike format small_a small_b streams =
      let of_a : V2 ≡ a.format = sym format in
      let of_b : V2 ≡ b.format = sym format ∙ alike.format in
      let settings : (laws.key_digest a.hasher, (a.base, (V2, V2))) ≡ (laws.key_digest b.hasher, (b.base, (a.format, b.format))) = λ i. (λ k. alike.keys k i, (alike.base i, (of_a i, of_b i))) in
      subst (λ (q : (K → List ℕ) × (ℕ × (PageFormat × PageFormat))). IsSmall laws.cmp q.0 q.1.0 laws.bytes_of n (tree_map laws b)
      → HasFaithfulPages laws.cmp (IsPageOf laws.cmp (laws.key_digest a.hasher) a.base) (IsPageOf laws.cmp q.0 q.1.0) (page_digest q.1.1.0 laws.bytes_of)
      (page_digest q.1.1.1 laws.bytes_of) pairs (tree_map laws a) (tree_map laws b))
      settings (λ small. tell small_a small streams) small_b

  -- without collision digests are faithful
  pub faithful_from : (a b : Side K V H) → PagesTell a.hasher a.base (tree_map laws a) (tree_map laws b) → AreSetAlike laws a b → a.format ≡ V2 → IsCollisionFree laws n a b → IsFaithful laws a b
  faithful_from a b tell alike format free = record { same_pages = faithful_pages a b tell alike format free.small_first free.small_second free.streams; same_values = free.same_values }

  module _ (tell : (hasher : H) (base : ℕ) (m w : List (K × List ℕ)) → PagesTell hasher base m w) where
    pub all_faithful : (answers : List (Answer K)) (a b : Side K V H) (a' b' : List (K × V)) (met : List (Side K V H × Side K V H)) → AreSetAlike laws a b
        → a.format ≡ V2 → IsByTurns laws answers a b a' b' met
        → AllCollisionFree laws n met → AllFaithful laws met
    all_faithful [] a b a' b' met alike format (u, v, w) free = subst (AllFaithful laws) (sym w) tt
    all_faithful (q ∷ qs) a b a' b' met alike format (after, rest, w, t, more) free =
        let (here, others) = subst (AllCollisionFree laws n) w free in
        let back : AreSetAlike laws b (with_rows a after) = record { keys = λ k. sym (alike.keys k); base = sym alike.base; format = sym alike.format } in
        subst (AllFaithful laws) (sym w)
        (faithful_from a b (tell a.hasher a.base (tree_map laws a) (tree_map laws b)) alike format here, all_faithful qs b (with_rows a after) b' a' rest back (sym alike.format ∙ format) more others)

    -- without collision four turns or more leave the join
    pub converges_from : IsTotalOrder laws.cmp → IsEquivalence laws.eq → IsJoining laws.eq laws.join → AreListings laws
        → (answers : List (Answer K)) (a b : Side K V H) (a' b' : List (K × V)) (met : List (Side K V H × Side K V H)) → AreSetAlike laws a b → a.format ≡ V2
        → IsMap laws.cmp a.rows → IsMap laws.cmp b.rows → IsByTurns laws answers a b a' b' met
        → AllCollisionFree laws n met → 4 ≤ length answers → HoldTheJoin laws a b a' b'
    converges_from o e j lists answers a b a' b' met alike format aa ab turns free =
        converges laws o e j lists answers a b a' b' met aa ab turns (all_faithful answers a b a' b' met alike format turns free)

  -- coverage where no streams collide
  pub covers_from : IsTotalOrder laws.cmp → AreListings laws → (local peer : Side K V H) (found : List (Span K))
      → PagesTell local.hasher local.base (tree_map laws local) (tree_map laws peer) → AreSetAlike laws local peer → local.format ≡ V2
      → IsMap laws.cmp local.rows → IsMap laws.cmp peer.rows → IsAnswerFor laws local peer found → HasSmallMap laws n local → HasSmallMap laws n peer
      → NoStreamsCollide laws local peer → SpanHolds laws.cmp peer.rows local.rows → MissesNone laws local peer found
  covers_from o lists local peer found tell alike format al ap answered sl sp streams =
      covers_sides laws o lists local peer found al ap answered (faithful_pages local peer tell alike format sl sp streams)
