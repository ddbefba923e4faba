-- Where digests are faithful, no streams of pages collide.
use Rattle.std.proofs.Common.{◌≡◌, ◌++◌, ℕ, suc, List, length, refl, sym, ap, subst, ◌∙◌, inl, inr}
use Rattle.std.specs.Cmp.{IsTotalOrder}
use Rattle.std.specs.declared.cmp.Ordering.{Ordering}
use Rattle.key_order.specs.Order.{Same}
use Rattle.key_order.specs.Map.{SameMap}
use Rattle.key_order.proofs.SameMaps.{same_map-own}
use Rattle.merkle_digest.specs.Level.{level_of}
use Rattle.merkle_tree_theory.specs.Canonical.{HasNode, IsCanonical, IsCanonicalRoot, IsTreeOf, SamePages, SameRow, SameHeld, EqualPages}
use Rattle.merkle_tree_theory.specs.Faithful.{HasFaithfulPages, NoCollision}
use Rattle.merkle_tree_theory.specs.OneTree.{TreesOfEqualMaps}
use Rattle.merkle_tree_theory.specs.Page.{pairs, row_nodes}
use Rattle.merkle_tree_theory.specs.Ranges.{IsPageIn, IsPageOf}
use Rattle.merkle_tree_theory.specs.Stream.{SameDigest, below_bytes, head_bytes, held_stream, key_bytes, page_digest, row_stream, stream_of}
use Rattle.merkle_tree_theory.specs.Tree.{Tree, page, Row, high, node, Held, nothing, below}
use Rattle.merkle_tree_theory.specs.declared.page_format.PageFormat.{PageFormat}
use Rattle.merkle_tree_theory.specs.declared.page_format.PageFormat.TheVariants.{V2}
use Rattle.merkle_tree_theory.proofs.Inside.{canonical_down}
use Rattle.merkle_tree_theory.proofs.PagesIn.{inside}
use Rattle.merkle_replica.specs.Contents.{Side, tree_map}
use Rattle.merkle_replica.specs.Faithful.{AreSetAlike, HaveFaithfulPages, IsFaithful}
use Rattle.merkle_replica.specs.Laws.{Laws}
use Rattle.merkle_audit.specs.Collisions.{IsFreeWhereSmall}

as_root : {K D : Type 0} (lev : K → ℕ) (s : Tree K D) → HasNode s → IsCanonical lev s → IsCanonicalRoot lev s
as_root lev (page l c (high h)) some canonical = absurd some
as_root lev (page l c (node h k d r)) some canonical = canonical

-- a page of a canonical tree is canonical as a root page
canonical_root : {K D : Type 0} (lev : K → ℕ) (s t : Tree K D) → IsCanonicalRoot lev t → IsPageIn s t → IsCanonicalRoot lev s
canonical_root lev s (page l c (high nothing)) g (inl e) = subst (IsCanonicalRoot lev) (sym e) g
canonical_root lev s (page l c (high nothing)) g (inr i) = absurd i
canonical_root lev s (page l c (high (below t))) g i = absurd g
canonical_root lev s (page l c (node h k d r)) g i = let (some, canonical) = inside (canonical_down lev) s (page l c (node h k d r)) (tt, g) i in as_root lev s some canonical

-- pages that are equal apart from caches have one stream, since those below them have one digest
module _ {K : Type 0} (cmp : K → K → Ordering) (bytes_of : K → List ℕ) (bytes : (a b : K) → Same cmp a b → bytes_of a ≡ bytes_of b)
    (digests : EqualPages cmp (SameDigest V2 bytes_of)) where
  same_held : (h g : Held K (List ℕ)) → SameHeld cmp h g → held_stream V2 bytes_of h ≡ held_stream V2 bytes_of g
  same_held nothing nothing s = refl
  same_held nothing (below u) s = absurd s
  same_held (below t) nothing s = absurd s
  same_held (below t) (below u) s = ap (below_bytes V2) (digests t u s)

  same_row : (r q : Row K (List ℕ)) → SameRow cmp r q → (length (row_nodes r) ≡ length (row_nodes q)) × (row_stream V2 bytes_of r ≡ row_stream V2 bytes_of q)
  same_row (high h) (high g) s = (refl, same_held h g s)
  same_row (high h) (node g k d q) s = absurd s
  same_row (node h k d r) (high g) s = absurd s
  same_row (node h k d r) (node g j e q) s =
      let (count, rest) = same_row r q s.3 in
      (ap suc count, λ i. ((same_held h g s.0 i ++ key_bytes V2 (bytes k j s.1 i)) ++ s.2 i) ++ rest i)

  same_stream : (t u : Tree K (List ℕ)) → SamePages cmp t u → stream_of V2 bytes_of t ≡ stream_of V2 bytes_of u
  same_stream (page l c r) (page m b q) s = let (count, rest) = same_row r q s.2 in λ i. head_bytes V2 (s.0 i) (count i) ++ rest i

  module _ (o : IsTotalOrder cmp) (digest_of : K → List ℕ) (base : ℕ)
      (one : (a b : List (K × List ℕ)) (t u : Tree K (List ℕ)) → SameMap cmp (λ d e. d ≡ e) a b
      → IsTreeOf cmp digest_of base t a → IsTreeOf cmp digest_of base u b → SamePages cmp t u) where
    -- where pages of equal digests have equal maps below them, no two streams collide
    pub none_collide : (a b : List (K × List ℕ)) → HasFaithfulPages cmp (IsPageOf cmp digest_of base) (IsPageOf cmp digest_of base) (page_digest V2 bytes_of) (page_digest V2 bytes_of) pairs a b
        → NoCollision cmp digest_of base V2 bytes_of a b
    none_collide a b faithful s t (root, of_a, in_a) (other, of_b, in_b) same =
        let lev : K → ℕ = λ k. level_of (digest_of k) base in
        let s_is : IsTreeOf cmp digest_of base s (pairs s) = (canonical_root lev s root of_a.0 in_a, same_map-own cmp o (pairs s)) in
        let t_is : IsTreeOf cmp digest_of base t (pairs t) = (canonical_root lev t other of_b.0 in_b, same_map-own cmp o (pairs t)) in
        same_stream s t (one (pairs s) (pairs t) s t (faithful s t (root, of_a, in_a) (other, of_b, in_b) same) s_is t_is)

module _ {K V H : Type 0} (laws : Laws K V H) (o : IsTotalOrder laws.cmp) (bytes : (a b : K) → Same laws.cmp a b → laws.bytes_of a ≡ laws.bytes_of b)
    (digests : EqualPages laws.cmp (SameDigest V2 laws.bytes_of)) (one : TreesOfEqualMaps laws.cmp laws.key_digest (SamePages laws.cmp)) where
  -- faithful pages of alike sides in format 2, by the hasher and the settings of the first
  by_first : (a b : Side K V H) → AreSetAlike laws a b → a.format ≡ V2 → HaveFaithfulPages laws a b
      → HasFaithfulPages laws.cmp (IsPageOf laws.cmp (laws.key_digest a.hasher) a.base) (IsPageOf laws.cmp (laws.key_digest a.hasher) a.base)
      (page_digest V2 laws.bytes_of) (page_digest V2 laws.bytes_of) pairs (tree_map laws a) (tree_map laws b)
  by_first a b alike format faithful =
      let settings : (laws.key_digest b.hasher, (b.base, (a.format, b.format))) ≡ (laws.key_digest a.hasher, (a.base, (V2, V2))) =
      λ i. (λ k. sym (alike.keys k) i, (sym alike.base i, (format i, (sym alike.format ∙ format) i))) in
      subst (λ (q : (K → List ℕ) × (ℕ × (PageFormat × PageFormat))). HasFaithfulPages laws.cmp (IsPageOf laws.cmp (laws.key_digest a.hasher) a.base) (IsPageOf laws.cmp q.0 q.1.0)
      (page_digest q.1.1.0 laws.bytes_of) (page_digest q.1.1.1 laws.bytes_of) pairs (tree_map laws a) (tree_map laws b)) settings faithful

  pub free_where_small : (a b : Side K V H) → IsFaithful laws a b → IsFreeWhereSmall laws a b
  free_where_small a b faithful n alike format small_a small_b = record {
    small_first = small_a;
    small_second = small_b;
    streams =
        none_collide laws.cmp laws.bytes_of bytes digests o (laws.key_digest a.hasher) a.base (one a.hasher a.base) (tree_map laws a) (tree_map laws b)
        (by_first a b alike format faithful.same_pages);
    same_values = faithful.same_values;
  }
