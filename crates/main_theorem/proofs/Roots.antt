-- Trees of equal rows.
use Rattle.std.proofs.Common.{◌≡◌, ℕ, Bool, true, List, [], ◌∷◌, Option, Some, ap, sym, subst, ◌∙◌}
use Rattle.std.specs.Cmp.{IsTotalOrder}
use Rattle.std.specs.declared.cmp.Ordering.{Ordering}
use Rattle.key_order.specs.Map.{SameMap}
use Rattle.key_order.proofs.SameMaps.{same_map-own, same_map-back, same_across}
use Rattle.merkle_digest.specs.Level.{level_of}
use Rattle.merkle_diff.specs.SameEntries.{SameEntries}
use Rattle.merkle_tree_theory.specs.Canonical.{IsTreeOf, IsCanonicalRoot, SamePages}
use Rattle.merkle_search_tree.specs.Loading.{digests}
use Rattle.merkle_tree_theory.specs.Ranges.{ranges_of}
use Rattle.merkle_tree_theory.specs.Settings.{Settings}
use Rattle.merkle_tree_theory.specs.Sound.{IsSound}
use Rattle.merkle_tree_theory.specs.State.{State, map_of, HasSettings, SameSettings}
use Rattle.merkle_tree_theory.specs.Stream.{page_digest}
use Rattle.merkle_tree_theory.specs.Tree.{Tree}
use Rattle.merkle_tree_theory.specs.TreeOf.{defined_tree}
use Rattle.merkle_tree_theory.specs.declared.page_format.PageFormat.{PageFormat}
use Rattle.merkle_replica.specs.Laws.{Laws}
use Rattle.main_theorem.specs.After.{tree_by_settings, page_ranges_under, root_hash_under, IsDefinedBy}
use Rattle.merkle_replica.specs.Agreeing.{AreEqual}

module _ {K X : Type 0} (cmp : K → K → Ordering) (o : IsTotalOrder cmp) where
  pub followed : (a b c : List (K × X)) → SameMap cmp (λ d e. d ≡ e) a b → SameMap cmp (λ d e. d ≡ e) b c → SameMap cmp (λ d e. d ≡ e) a c
  followed a b c f g = same_across cmp o b b a c (same_map-back cmp o a b f) g (same_map-own cmp o b)

module _ {K V : Type 0} (cmp : K → K → Ordering) (eq : V → V → Bool) (hash : V → List ℕ) (respects : (x y : V) → eq x y ≡ true → hash x ≡ hash y) where
  -- equal rows have equal digests
  pub same_digests : (a b : List (K × V)) → AreEqual cmp eq a b → SameMap cmp (λ d e. d ≡ e) (digests hash a) (digests hash b)
  same_digests [] [] h = tt
  same_digests [] (s ∷ ss) h = absurd h
  same_digests (r ∷ rs) [] h = absurd h
  same_digests (r ∷ rs) (s ∷ ss) h = (h.0, respects r.1 s.1 h.1, same_digests rs ss h.2)

module _ {K H : Type 0} (cmp : K → K → Ordering) (key_digest : H → K → List ℕ) (bytes_of : K → List ℕ) where
  -- a sound tree is that of a map that is equal to its own, under its settings
  pub tree_is : (t : State K H) (hasher : H) (base : ℕ) (m : List (K × List ℕ)) → t.hasher ≡ hasher → t.base ≡ base → IsSound cmp key_digest bytes_of t → SameMap cmp (λ d e. d ≡ e) (map_of t) m
      → IsTreeOf cmp (key_digest hasher) base t.root m
  tree_is t hasher base m h b sound same = (
    subst (λ n. IsCanonicalRoot (λ k. level_of (key_digest hasher k) n) t.root) b (subst (λ x. IsCanonicalRoot (λ k. level_of (key_digest x k) t.base) t.root) h sound.canonical),
    same,
  )

  -- the digest of the root page is that of the tree of the rows, under any settings that the tree has
  pub root_as : {V : Type 0} (value_digest : H → V → List ℕ) (s : Settings H) (t : State K H) (rows : List (K × V)) → t.hasher ≡ s.hasher → t.base ≡ s.base → t.format ≡ s.format
      → page_digest t.format bytes_of (defined_tree (key_digest t.hasher) t.base (digests (value_digest t.hasher) rows))
      ≡ page_digest s.format bytes_of (defined_tree (key_digest s.hasher) s.base (digests (value_digest s.hasher) rows))
  root_as value_digest s t rows h b f = λ i. page_digest (f i) bytes_of (defined_tree (key_digest (h i)) (b i) (digests (value_digest (h i)) rows))

module _ {K V H : Type 0} (laws : Laws K V H) (o : IsTotalOrder laws.cmp) (respects : (h : H) (x y : V) → laws.eq x y ≡ true → laws.value_digest h x ≡ laws.value_digest h y)
    (only : (hasher : H) (base : ℕ) (m : List (K × List ℕ)) (t : Tree K (List ℕ)) → IsTreeOf laws.cmp (laws.key_digest hasher) base t m
    → SamePages laws.cmp t (defined_tree (laws.key_digest hasher) base m)) (s : Settings H) where
  -- a tree of rows has the pages of the one that any map defines that is equal to them
  pub pages_are : (t : State K H) (rows m : List (K × V)) → HasSettings s t → IsSound laws.cmp laws.key_digest laws.bytes_of t
      → SameMap laws.cmp (λ d e. d ≡ e) (map_of t) (digests (laws.value_digest t.hasher) rows)
      → AreEqual laws.cmp laws.eq rows m → SamePages laws.cmp t.root (tree_by_settings laws s m)
  pages_are t rows m set sound digested h =
      let b = digests (laws.value_digest s.hasher) m in
      let own : SameMap laws.cmp (λ d e. d ≡ e) (map_of t) b =
      followed laws.cmp o (map_of t) (digests (laws.value_digest s.hasher) rows) b
      (subst (λ x. SameMap laws.cmp (λ d e. d ≡ e) (map_of t) (digests (laws.value_digest x) rows)) set.0 digested)
      (same_digests laws.cmp laws.eq (laws.value_digest s.hasher) (respects s.hasher) rows m h) in
      only s.hasher s.base b t.root (tree_is laws.cmp laws.key_digest laws.bytes_of t s.hasher s.base b set.0 set.1 sound own)

module _ {K V H : Type 0} (laws : Laws K V H) (o : IsTotalOrder laws.cmp) (respects : (h : H) (x y : V) → laws.eq x y ≡ true → laws.value_digest h x ≡ laws.value_digest h y)
    (defined : (hasher : H) (base : ℕ) (m : List (K × List ℕ)) → IsTreeOf laws.cmp (laws.key_digest hasher) base (defined_tree (laws.key_digest hasher) base m) m)
    (only : (hasher : H) (base : ℕ) (m : List (K × List ℕ)) (t : Tree K (List ℕ)) → IsTreeOf laws.cmp (laws.key_digest hasher) base t m
    → SamePages laws.cmp t (defined_tree (laws.key_digest hasher) base m))
    (equal : (hasher : H) (base : ℕ) (format : PageFormat) (a b : List (K × List ℕ)) (t u : Tree K (List ℕ)) → SameMap laws.cmp (λ d e. d ≡ e) a b
    → IsTreeOf laws.cmp (laws.key_digest hasher) base t a → IsTreeOf laws.cmp (laws.key_digest hasher) base u b → page_digest format laws.bytes_of t ≡ page_digest format laws.bytes_of u)
    (ranges : (format : PageFormat) (t u : Tree K (List ℕ)) → SamePages laws.cmp t u
    → SameEntries laws.cmp (ranges_of format laws.bytes_of t) (ranges_of format laws.bytes_of u)) (s : Settings H) where
  -- equal rows define one root hash
  pub one_hash : (rows m : List (K × V)) → AreEqual laws.cmp laws.eq rows m → root_hash_under laws s rows ≡ root_hash_under laws s m
  one_hash rows m h =
      let a = digests (laws.value_digest s.hasher) rows in
      let b = digests (laws.value_digest s.hasher) m in
      equal s.hasher s.base s.format a b (defined_tree (laws.key_digest s.hasher) s.base a) (defined_tree (laws.key_digest s.hasher) s.base b)
      (same_digests laws.cmp laws.eq (laws.value_digest s.hasher) (respects s.hasher) rows m h) (defined s.hasher s.base a) (defined s.hasher s.base b)

  -- where it is hashed, it is what such a map defines
  pub is_defined : (t : State K H) (rows m : List (K × V)) → HasSettings s t → IsSound laws.cmp laws.key_digest laws.bytes_of t
      → SameMap laws.cmp (λ d e. d ≡ e) (map_of t) (digests (laws.value_digest t.hasher) rows)
      → t.root_hash ≡ Some (root_hash_under laws s rows) → AreEqual laws.cmp laws.eq rows m → IsDefinedBy laws s m t
  is_defined t rows m set sound digested root h =
      let pages = pages_are laws o respects only s t rows m set sound digested h in
      record {
        pages = pages;
        ranges = subst (λ f. SameEntries laws.cmp (ranges_of f laws.bytes_of t.root) (page_ranges_under laws s m)) (sym set.2) (ranges s.format t.root (tree_by_settings laws s m) pages);
        root_hash = root ∙ ap Some (one_hash rows m h);
      }

  -- the root hash that a replica has at last, by the rows that it has
  pub root_last : (t : State K H) (rows rows' : List (K × V)) (root : Option (List ℕ)) → HasSettings s t → rows' ≡ rows
      → root ≡ Some (page_digest t.format laws.bytes_of (defined_tree (laws.key_digest t.hasher) t.base (digests (laws.value_digest t.hasher) rows))) → root ≡ Some (root_hash_under laws s rows')
  root_last t rows rows' root set r h = h ∙ ap Some (root_as laws.cmp laws.key_digest laws.bytes_of laws.value_digest s t rows set.0 set.1 set.2) ∙ ap (λ x. Some (root_hash_under laws s x)) (sym r)

-- settings that stay
pub settings_stay : {K H : Type 0} (s : Settings H) (t u : State K H) → HasSettings s t → SameSettings t u → HasSettings s u
settings_stay s t u h q = (q.0 ∙ h.0, q.1 ∙ h.1, q.2 ∙ h.2)
