-- In a hashed tree the ranges by cached digests are the page ranges.
use Rattle.std.proofs.Common.{◌≡◌, ℕ, List, [], ◌∷◌, ◌++◌, Option, Some, None, refl, sym, ap, ◌∙◌}
use Rattle.std.specs.Prelude.{⊤, true, is_some, MatchOption}
use Rattle.std.specs.Cmp.{IsTotalOrder}
use Rattle.std.specs.declared.cmp.Ordering.{Ordering}
use Rattle.key_order.specs.Map.{IsMap}
use Rattle.key_order.proofs.ListParts.{each-append, map-first, map-rest}
use Rattle.merkle_tree_theory.specs.Tree.{Tree, page, Row, high, node, Held, nothing, below}
use Rattle.merkle_tree_theory.specs.Page.{pairs, row_pairs, held_pairs, nodes_of, cache, pages_in_order, row_pages, held_pages}
use Rattle.merkle_tree_theory.specs.Canonical.{HasNode, IsCanonical, IsRow, IsGap, IsCanonicalRoot}
use Rattle.merkle_tree_theory.specs.Cache.{HasCache, EachHasCache, CachesHold, RowCachesHold, HeldCachesHold, uncached_pages}
use Rattle.merkle_tree_theory.specs.Sound.{RootHashHolds}
use Rattle.merkle_tree_theory.specs.Stream.{page_digest}
use Rattle.merkle_tree_theory.specs.Ranges.{entry_of, ranges_of, row_ranges, held_ranges}
use Rattle.merkle_tree_theory.specs.CachedRanges.{HasRange, as_list, range_from, cached_ranges, row_cached, held_cached}
use Rattle.std.specs.List.{AllByRecursion}
use Rattle.merkle_tree_theory.proofs.UpsertForm.{none_missing}
use Rattle.merkle_tree_theory.proofs.RangeKeys.{first_last, not-none}
use Rattle.merkle_tree_theory.specs.declared.page_format.PageFormat.{PageFormat}

module _ {K : Type 0} (cmp : K → K → Ordering) (o : IsTotalOrder cmp) where
  pub range-entry : (ps : List (K × List ℕ)) (d : List ℕ) → IsMap cmp ps → as_list (range_from cmp ps d) ≡ entry_of ps d
  range-entry [] d m = refl
  range-entry (p ∷ ps) d m = rw (first_last cmp o p ps m) refl

  module _ (lev : K → ℕ) (format : PageFormat) (bytes_of : K → List ℕ) where
    mutual
      tree_listed : (t : Tree K (List ℕ)) → HasCache (below t) → CachesHold format bytes_of t → HasNode t → IsCanonical lev t → IsMap cmp (pairs t) → cached_ranges cmp t ≡ ranges_of format bytes_of t
      tree_listed (page l None r) c q n g m = absurd c
      tree_listed (page l (Some d) (high h)) c q n g m = absurd n
      tree_listed (page l (Some d) (node h k e r)) c q n g m =
          ap (λ w. w ++ row_cached cmp (node h k e r)) (range-entry (row_pairs (node h k e r)) d m)
          ∙ ap (λ w. entry_of (row_pairs (node h k e r)) d ++ w) (row_listed l (node h k e r) q.1 q.2 g m)
          ∙ ap (λ w. entry_of (row_pairs (node h k e r)) w ++ row_ranges format bytes_of (node h k e r)) q.0

      row_listed : (l : ℕ) (r : Row K (List ℕ)) → EachHasCache r → RowCachesHold format bytes_of r → IsRow lev l r → IsMap cmp (row_pairs r) → row_cached cmp r ≡ row_ranges format bytes_of r
      row_listed l (high h) c q g m = held_listed l h c q g m
      row_listed l (node h k d r) c q g m =
          ap (λ w. w ++ row_cached cmp r) (held_listed l h c.0 q.0 g.0 (map-first cmp (held_pairs h) ((k, d) ∷ row_pairs r) m))
          ∙ ap (λ w. held_ranges format bytes_of h ++ w) (row_listed l r c.1 q.1 g.2 (map-rest cmp (held_pairs h) ((k, d) ∷ row_pairs r) m).1)

      held_listed : (l : ℕ) (h : Held K (List ℕ)) → HasCache h → HeldCachesHold format bytes_of h → IsGap lev l h → IsMap cmp (held_pairs h) → held_cached cmp h ≡ held_ranges format bytes_of h
      held_listed l nothing c q g m = refl
      held_listed l (below t) c q g m = tree_listed t c q g.1 g.2 m

    -- so it is for a root page with a cached digest
    pub root_listed : (t : Tree K (List ℕ)) (d : List ℕ) → cache t ≡ Some d → CachesHold format bytes_of t → IsCanonicalRoot lev t → IsMap cmp (pairs t)
        → cached_ranges cmp t ≡ ranges_of format bytes_of t
    root_listed (page l None r) d e q g m = absurd (cc)
    root_listed (page l (Some c) (high nothing)) d e q g m = refl
    root_listed (page l (Some c) (high (below t))) d e q g m = absurd g
    root_listed (page l (Some c) (node h k x r)) d e q g m = tree_listed (page l (Some c) (node h k x r)) tt q tt g m

    pub hashed_listed : (h : Option (List ℕ)) (t : Tree K (List ℕ)) → is_some h ≡ true → RootHashHolds h (cache t) → CachesHold format bytes_of t
        → IsCanonicalRoot lev t → IsMap cmp (pairs t) → cached_ranges cmp t ≡ ranges_of format bytes_of t
    hashed_listed None t e r q g m = absurd (cc)
    hashed_listed (Some d) t e r q g m = root_listed t d r q g m

module _ {K : Type 0} (cmp : K → K → Ordering) (lev : K → ℕ) (format : PageFormat) (bytes_of : K → List ℕ) where
  mutual
    tree_ranged : (t : Tree K (List ℕ)) → HasCache (below t) → CachesHold format bytes_of t → HasNode t → IsCanonical lev t → IsMap cmp (pairs t) → AllByRecursion (HasRange cmp) (pages_in_order t)
    tree_ranged (page l None r) c q n g m = absurd c
    tree_ranged (page l (Some d) r) c q n g m = ((n, c, m), row_ranged l r q.1 q.2 g m)

    row_ranged : (l : ℕ) (r : Row K (List ℕ)) → EachHasCache r → RowCachesHold format bytes_of r → IsRow lev l r → IsMap cmp (row_pairs r) → AllByRecursion (HasRange cmp) (row_pages r)
    row_ranged l (high h) c q g m = held_ranged l h c q g m
    row_ranged l (node h k d r) c q g m =
        each-append (HasRange cmp) (held_pages h) (row_pages r) (held_ranged l h c.0 q.0 g.0 (map-first cmp (held_pairs h) ((k, d) ∷ row_pairs r) m))
        (row_ranged l r c.1 q.1 g.2 (map-rest cmp (held_pairs h) ((k, d) ∷ row_pairs r) m).1)

    held_ranged : (l : ℕ) (h : Held K (List ℕ)) → HasCache h → HeldCachesHold format bytes_of h → IsGap lev l h → IsMap cmp (held_pairs h) → AllByRecursion (HasRange cmp) (held_pages h)
    held_ranged l nothing c q g m = tt
    held_ranged l (below t) c q g m = tree_ranged t c q g.1 g.2 m

  -- each page of a hashed tree that has a node has a range
  pub hashed_ranges : (h : Option (List ℕ)) (t : Tree K (List ℕ)) → is_some h ≡ true → RootHashHolds h (cache t) → CachesHold format bytes_of t
      → IsCanonicalRoot lev t → IsMap cmp (pairs t) → (nodes_of t ≡ [] → ⊥)
      → AllByRecursion (HasRange cmp) (pages_in_order t)
  hashed_ranges None t e r q g m n = absurd (cc)
  hashed_ranges (Some d) (page l c (high h)) e r q g m n = absurd (n refl)
  hashed_ranges (Some d) (page l None (node h k x s)) e r q g m n = absurd (cc)
  hashed_ranges (Some d) (page l (Some c) (node h k x s)) e r q g m n = tree_ranged (page l (Some c) (node h k x s)) tt q tt g m

-- a page without keys has no node
pub no_nodes : {K D : Type 0} (t : Tree K D) → pairs t ≡ [] → nodes_of t ≡ []
no_nodes (page l c (high h)) e = refl
no_nodes (page l c (node h k d r)) e = absurd (not-none (held_pairs h) (k, d) (row_pairs r) e)

module _ {K : Type 0} (format : PageFormat) (bytes_of : K → List ℕ) where
  -- a cached root hash is the root page's digest, and no page lacks a digest then
  pub hashed_has : (h : Option (List ℕ)) (t : Tree K (List ℕ)) → RootHashHolds h (cache t) → CachesHold format bytes_of t
      → MatchOption h ⊤ (λ d. (d ≡ page_digest format bytes_of t) × (uncached_pages t ≡ 0))
  hashed_has None t e c = tt
  hashed_has (Some d) (page l None r) e c = absurd (cc)
  hashed_has (Some d) (page l (Some x) r) e c = (some d x (sym e) ∙ c.0, none_missing format bytes_of (page l (Some x) r) x refl c)
    where
      some : (x y : List ℕ) → Some x ≡ Some y → x ≡ y
      some x y e = cc
