-- Rows of equal root digests, and root digests of equal rows.
use Rattle.std.proofs.Common.{◌≡◌, ℕ, true, List, [], ◌∷◌, Option, Some, None, refl, inl, ◌∙◌}
use Rattle.std.specs.Cmp.{IsTotalOrder}
use Rattle.key_order.specs.Map.{IsMap, SameMap, SameValue, get}
use Rattle.key_order.proofs.Maps.{same_by_get, get_by_same}
use Rattle.key_order.proofs.SameMaps.{same_across}
use Rattle.merkle_search_tree.specs.Loading.{digests}
use Rattle.merkle_tree_theory.specs.Canonical.{IsTreeOf}
use Rattle.merkle_tree_theory.specs.Page.{pairs}
use Rattle.merkle_tree_theory.specs.Ranges.{IsPageIn}
use Rattle.merkle_tree_theory.specs.Stream.{page_digest}
use Rattle.merkle_tree_theory.specs.Tree.{Tree, page}
use Rattle.merkle_tree_theory.specs.TreeOf.{defined_tree}
use Rattle.merkle_replica.specs.Contents.{Side, tree_map}
use Rattle.merkle_replica.specs.Faithful.{AreSetAlike, HaveFaithfulValues, IsFaithful}
use Rattle.merkle_replica.specs.Laws.{Laws}
use Rattle.merkle_replica.specs.Agreeing.{GiveOneDigest, HaveEqualRows}

-- the root page is a page of its tree
root_in : {K D : Type 0} (t : Tree K D) → IsPageIn t t
root_in (page l c r) = inl refl

module _ {K V H : Type 0} (laws : Laws K V H) (a b : Side K V H) where
  -- two values have one digest, each by the hasher of its side
  abbrev HaveOneDigest : V → V → Type 0
  HaveOneDigest x y = laws.value_digest a.hasher x ≡ laws.value_digest b.hasher y

  -- where the digests of rows are equal, the rows have equal keys, and values of one digest
  undigested : (xs ys : List (K × V)) → SameMap laws.cmp (λ d e. d ≡ e) (digests (laws.value_digest a.hasher) xs) (digests (laws.value_digest b.hasher) ys) → SameMap laws.cmp HaveOneDigest xs ys
  undigested [] [] s = tt
  undigested [] (y ∷ ys) s = absurd s
  undigested (x ∷ xs) [] s = absurd s
  undigested (x ∷ xs) (y ∷ ys) s = (s.0, s.1, undigested xs ys s.2)

  -- what both sides have at a key is equal where it has one digest, while digests of values are faithful
  equal_at : HaveFaithfulValues laws a b → (k : K) (v w : Option V) → get laws.cmp a.rows k ≡ v → get laws.cmp b.rows k ≡ w → SameValue HaveOneDigest v w → SameValue (λ x y. laws.eq x y ≡ true) v w
  equal_at faithful k None None p q s = tt
  equal_at faithful k None (Some y) p q s = s
  equal_at faithful k (Some x) None p q s = s
  equal_at faithful k (Some x) (Some y) p q s = faithful k x y p q s

  -- equal rows have equal digests, where each value has one by both sides
  pub equal_digests : ((hasher : H) (x y : V) → laws.eq x y ≡ true → laws.value_digest hasher x ≡ laws.value_digest hasher y) → GiveOneDigest laws a b
      → (xs ys : List (K × V)) → SameMap laws.cmp (λ x y. laws.eq x y ≡ true) xs ys
      → SameMap laws.cmp (λ d e. d ≡ e) (digests (laws.value_digest a.hasher) xs) (digests (laws.value_digest b.hasher) ys)
  equal_digests respects one [] [] s = tt
  equal_digests respects one [] (y ∷ ys) s = absurd s
  equal_digests respects one (x ∷ xs) [] s = absurd s
  equal_digests respects one (x ∷ xs) (y ∷ ys) s = (s.0, respects a.hasher x.1 y.1 s.1 ∙ one y.1, equal_digests respects one xs ys s.2)

  -- alike sides give a map's tree one root digest
  pub one_root : AreSetAlike laws a b → (m : List (K × List ℕ))
      → page_digest a.format laws.bytes_of (defined_tree (laws.key_digest a.hasher) a.base m) ≡ page_digest b.format laws.bytes_of
      (defined_tree (laws.key_digest b.hasher) b.base m)
  one_root alike m = λ i. page_digest (alike.format i) laws.bytes_of (defined_tree (λ k. alike.keys k i) (alike.base i) m)

  -- sides whose trees have one root digest have equal rows, while digests are faithful
  pub equal_by_root : IsTotalOrder laws.cmp → IsFaithful laws a b → IsMap laws.cmp a.rows → IsMap laws.cmp b.rows → (t u : Tree K (List ℕ))
      → IsTreeOf laws.cmp (laws.key_digest a.hasher) a.base t (tree_map laws a)
      → IsTreeOf laws.cmp (laws.key_digest b.hasher) b.base u (tree_map laws b) → page_digest a.format laws.bytes_of t ≡ page_digest b.format laws.bytes_of u → HaveEqualRows laws a b
  equal_by_root o faithful p q t u of_a of_b one =
      let pages = faithful.same_pages t u (t, of_a, root_in t) (u, of_b, root_in u) one in
      let maps = same_across laws.cmp o (pairs t) (pairs u) (tree_map laws a) (tree_map laws b) of_a.1 of_b.1 pages in
      same_by_get laws.cmp o (λ x y. laws.eq x y ≡ true) a.rows b.rows p q (λ k. equal_at faithful.same_values k (get laws.cmp a.rows k) (get laws.cmp b.rows k) refl refl
      (get_by_same laws.cmp o HaveOneDigest a.rows b.rows (undigested a.rows b.rows maps) k))
