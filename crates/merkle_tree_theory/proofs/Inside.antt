-- What holds of each page of a tree.
use Rattle.std.proofs.Common.{◌≡◌, ◌≢◌, ℕ, List, [], ◌∷◌, ◌++◌, length, Option, Some, None, refl, ap, sym, subst, ◌∙◌, inl, inr}
use Rattle.std.specs.Prelude.{true, false, is_some, cond, Bool}
use Rattle.std.specs.Option.{option_map}
use Rattle.std.specs.Ordering.{is_eq}
use Rattle.std.specs.Cmp.{IsTotalOrder}
use Rattle.std.specs.declared.cmp.Ordering.{Ordering}
use Rattle.key_order.specs.Map.{IsMap, get, entry}
use Rattle.key_order.proofs.Keys.{eq_reverse}
use Rattle.key_order.proofs.ListParts.{map-first, map-rest}
use Rattle.merkle_tree_theory.specs.Tree.{Tree, page, Row, high, node, Held, nothing, below, Node, row}
use Rattle.merkle_tree_theory.specs.Page.{pairs, row_pairs, held_pairs, cache}
use Rattle.merkle_tree_theory.specs.Gap.{Gap, everywhere, part_before, part_behind}
use Rattle.merkle_tree_theory.specs.Canonical.{HasNode, IsCanonical, IsRow, IsGap, IsCanonicalRoot}
use Rattle.merkle_tree_theory.specs.Cache.{HasCache, EachHasCache, CachesHold, RowCachesHold, HeldCachesHold}
use Rattle.merkle_tree_theory.specs.Sound.{RootHashHolds}
use Rattle.merkle_tree_theory.specs.Stream.{page_digest}
use Rattle.merkle_tree_theory.specs.Ranges.{IsPageIn}
use Rattle.merkle_tree_theory.specs.Outline.{of_node, page_items, outline_of, row_items, held_items, cached_items, whole_item}
use Rattle.merkle_tree_theory.specs.declared.page_format.PageFormat.{PageFormat}
use Rattle.merkle_tree_theory.proofs.PagesIn.{GoesDown, MatchRow, inside, itself}

-- a page with a list of nodes that isn't empty has a node
pub some_row : {K D : Type 0} {l : ℕ} {c : Option (List ℕ)} {t : Tree K D} (es : List (Node K D)) (h : Held K D) → page l c (row es h) ≡ t → (length es ≡ 0 → ⊥) → HasNode t
some_row [] h is some = absurd (some refl)
some_row (e ∷ es) h is some = subst (λ (u : Tree _ _). HasNode u) is tt

module _ {K : Type 0} (format : PageFormat) (bytes_of : K → List ℕ) where
  holds_down : GoesDown (CachesHold format bytes_of) (RowCachesHold format bytes_of)
  holds_down = record { to_row = row_of; to_high = λ t q. q; to_below = λ t k d r q. q.0; to_rest = λ h k d r q. q.1 }
    where
      row_of : (t : Tree K (List ℕ)) → CachesHold format bytes_of t → MatchRow (RowCachesHold format bytes_of) t
      row_of (page l None r) q = q
      row_of (page l (Some d) r) q = q.2

  -- a cached digest is that of its page
  own_digest : (s : Tree K (List ℕ)) (d : List ℕ) → CachesHold format bytes_of s → cache s ≡ Some d → page_digest format bytes_of s ≡ d
  own_digest (page l None r) d q e = absurd (cc)
  own_digest (page l (Some c) r) d q e = sym q.0 ∙ some c d e
    where
      some : (x y : List ℕ) → Some x ≡ Some y → x ≡ y
      some x y e = cc

  pub true_digest : (s t : Tree K (List ℕ)) (d : List ℕ) → CachesHold format bytes_of t → IsPageIn s t → cache s ≡ Some d → page_digest format bytes_of s ≡ d
  true_digest s t d q i e = own_digest s d (inside holds_down s t q i) e

module _ {K D : Type 0} (lev : K → ℕ) where
  -- below a canonical page each page has a node, and is canonical
  pub canonical_down : GoesDown (λ (t : Tree K D). HasNode t × IsCanonical lev t) (λ (r : Row K D). (l : ℕ) × IsRow lev l r)
  canonical_down = record { to_row = row_of; to_high = λ t (l, g). (g.1, g.2); to_below = λ t k d r (l, g). (g.0.1, g.0.2); to_rest = λ h k d r (l, g). (l, g.2) }
    where
      row_of : (t : Tree K D) → HasNode t × IsCanonical lev t → MatchRow (λ (r : Row K D). (l : ℕ) × IsRow lev l r) t
      row_of (page l c r) g = (l, g.1)

module _ {K : Type 0} (cmp : K → K → Ordering) (o : IsTotalOrder cmp) (lev : K → ℕ) (format : PageFormat) (bytes_of : K → List ℕ) where
  -- what holds of each page of a hashed tree that has a node
  pub record IsHashedPage (t : Tree K (List ℕ)) : Type 0 where
    pub cached : HasCache (below t)
    pub holds : CachesHold format bytes_of t
    pub has_node : HasNode t
    pub canonical : IsCanonical lev t
    pub ascending : IsMap cmp (pairs t)

  -- of a row of such a page
  abbrev IsHashedRow : Row K (List ℕ) → Type 0
  IsHashedRow r = (l : ℕ) × EachHasCache r × RowCachesHold format bytes_of r × IsRow lev l r × IsMap cmp (row_pairs r)

  hashed_down : GoesDown IsHashedPage IsHashedRow
  hashed_down = record {
    to_row = row_of;
    to_high = λ t (l, c, q, g, m). record { cached = c; holds = q; has_node = g.1; canonical = g.2; ascending = m };
    to_below = λ t k d r (l, c, q, g, m). record { cached = c.0; holds = q.0; has_node = g.0.1; canonical = g.0.2; ascending = map-first cmp (pairs t) ((k, d) ∷ row_pairs r) m };
    to_rest = λ h k d r (l, c, q, g, m). (l, c.1, q.1, g.2, (map-rest cmp (held_pairs h) ((k, d) ∷ row_pairs r) m).1);
  }
    where
      row_of : (t : Tree K (List ℕ)) → IsHashedPage t → MatchRow IsHashedRow t
      row_of (page l None r) g = absurd g.cached
      row_of (page l (Some d) r) g = (l, g.holds.1, g.holds.2, g.canonical, g.ascending)

  -- so it is of each page of a hashed tree
  pub hashed_page : (h : Option (List ℕ)) (t : Tree K (List ℕ)) → is_some h ≡ true → RootHashHolds h (cache t) → CachesHold format bytes_of t → IsCanonicalRoot lev t → IsMap cmp (pairs t)
      → (s : Tree K (List ℕ)) → IsPageIn s t → HasNode s → IsHashedPage s
  hashed_page None t e r q g m s i n = absurd (cc)
  hashed_page (Some d) (page l c (high nothing)) e r q g m s (inl f) n = absurd (subst (λ (u : Tree K (List ℕ)). HasNode u) f n)
  hashed_page (Some d) (page l c (high nothing)) e r q g m s (inr f) n = absurd f
  hashed_page (Some d) (page l c (high (below t))) e r q g m s i n = absurd g
  hashed_page (Some d) (page l None (node h k x w)) e r q g m s i n = absurd (cc)
  hashed_page (Some d) (page l (Some c) (node h k x w)) e r q g m s i n =
      inside hashed_down s (page l (Some c) (node h k x w)) (record { cached = tt; holds = q; has_node = tt; canonical = g; ascending = m }) i

  pub has_digest : (s : Tree K (List ℕ)) → IsHashedPage s → cache s ≡ Some (page_digest format bytes_of s)
  has_digest (page l None r) g = absurd g.cached
  has_digest (page l (Some d) r) g = ap Some g.holds.0

  held_outline : (g : Gap K) (h : Held K (List ℕ)) → HasCache h → HeldCachesHold format bytes_of h → held_items cache g h ≡ held_items (λ t. Some (page_digest format bytes_of t)) g h
  held_outline g nothing c q = refl
  held_outline g (below (page l None r)) c q = absurd c
  held_outline g (below (page l (Some d) r)) c q = ap (page_items g) (ap Some q.0)

  row_outline : (g : Gap K) (r : Row K (List ℕ)) → EachHasCache r → RowCachesHold format bytes_of r → row_items cache g r ≡ row_items (λ t. Some (page_digest format bytes_of t)) g r
  row_outline g (high h) c q = held_outline g h c q
  row_outline g (node h k d r) c q =
      let first = part_before g k in
      let rest = part_behind g k in
      ap (λ w. w ++ of_node k d ∷ row_items cache rest r) (held_outline first h c.0 q.0)
      ∙ ap (λ w. held_items (λ t. Some (page_digest format bytes_of t)) first h ++ of_node k d ∷ w) (row_outline rest r c.1 q.1)

  -- the outline of such a page by cached digests
  pub outline_is : (g : Gap K) (s : Tree K (List ℕ)) → IsHashedPage s → cached_items g s ≡ outline_of format bytes_of g s
  outline_is g (page l None r) p = absurd p.cached
  outline_is g (page l (Some d) r) p = row_outline g r p.holds.1 p.holds.2

  -- a page that has a node has its digest in a hashed tree
  pub filling_digest : (h : Option (List ℕ)) (t : Tree K (List ℕ)) → h ≢ None → RootHashHolds h (cache t) → CachesHold format bytes_of t → IsCanonicalRoot lev t → IsMap cmp (pairs t)
      → (s : Tree K (List ℕ)) → IsPageIn s t → HasNode s → cache s ≡ Some (page_digest format bytes_of s)
  filling_digest None t some r q g m s i n = absurd (some refl)
  filling_digest (Some d) t some r q g m s i n = has_digest s (hashed_page (Some d) t refl r q g m s i n)

  -- the whole tree as an item by the cached digest of its root page
  pub whole_is : (t : Tree K (List ℕ)) (d : List ℕ) → HasNode t → CachesHold format bytes_of t → cache t ≡ Some d → page_items everywhere (Some d) ≡ whole_item format bytes_of t
  whole_is (page l c (high h)) d n q e = absurd n
  whole_is (page l c (node h k x r)) d n q e =
      ap (page_items everywhere) (ap Some (sym (true_digest format bytes_of (page l c (node h k x r)) (page l c (node h k x r)) d q (itself (page l c (node h k x r))) e)))

module _ {K X : Type 0} (cmp : K → K → Ordering) (o : IsTotalOrder cmp) where
  -- the value at a key is that of its pair
  pub get_entry : (m : List (K × X)) (k : K) → option_map (λ (p : K × X). p.1) (entry cmp m k) ≡ get cmp m k
  get_entry [] k = refl
  get_entry (p ∷ ps) k = rw (ap is_eq (o.antisymm k p.0) ∙ eq_reverse (cmp p.0 k)) (by (is_eq (cmp p.0 k)) (get_entry ps k))
    where
      by : (b : Bool) → option_map (λ (q : K × X). q.1) (entry cmp ps k) ≡ get cmp ps k → option_map (λ (q : K × X). q.1) (cond b (Some p) (entry cmp ps k)) ≡ cond b (Some p.1) (get cmp ps k)
      by true e = refl
      by false e = e
