-- One round of a catch-up: outlines of pages of the peer, and what they leave to ask for.
use Rattle.std.proofs.Common.{◌≡◌, ℕ, ◌+◌, ◌<◌, ◌≤◌, true, List, [], ◌∷◌, ◌++◌, length, Option, Some, None, refl, sym, ◌∙◌, ap, subst, arith, ◌⊎◌, inl, inr}
use Rattle.std.specs.List.{AllByRecursion, flat_map}
use Rattle.std.specs.Cmp.{IsTotalOrder}
use Rattle.std.specs.Cmp.Lexicographic.{bytes_decides}
use Rattle.key_order.specs.Order.{AnyByRecursion, Same}
use Rattle.key_order.specs.Map.{IsMap, SameMap, get}
use Rattle.key_order.proofs.ListParts.{each-append}
use Rattle.key_order.proofs.Maps.{get_same}
use Rattle.key_order.proofs.SameMaps.{ascends, same_is_map}
use Rattle.merkle_tree_theory.specs.Canonical.{IsCanonicalRoot}
use Rattle.merkle_digest.specs.Level.{level_of}
use Rattle.merkle_tree_theory.specs.Tree.{Tree, page, high, node, nothing, below}
use Rattle.merkle_tree_theory.specs.declared.page_format.PageFormat.{PageFormat}
use Rattle.merkle_tree_theory.specs.Page.{level, pairs}
use Rattle.merkle_tree_theory.specs.Gap.{Gap, IsInGap}
use Rattle.merkle_tree_theory.specs.Lookup.{Fills, page_over}
use Rattle.merkle_tree_theory.specs.Outline.{Item, of_node, of_page, IsItemOf, HasItemAt, outline_of, outline_where, outline_over, whole_item}
use Rattle.merkle_tree_theory.specs.Ranges.{IsPageIn}
use Rattle.merkle_tree_theory.specs.State.{map_of}
use Rattle.merkle_tree_theory.specs.Stream.{page_digest}
use Rattle.merkle_tree_theory.proofs.PageOverGap.{over_inside}
use Rattle.merkle_search_tree.specs.WhereHashed.{is_page_with}
use Rattle.merkle_replica.specs.Laws.{Laws}
use Rattle.merkle_replica.specs.Contents.{Contents, IsTreeOfSide, Side, side, tree_map}
use Rattle.merkle_replica.specs.Faithful.{HaveFaithfulPages}
use Rattle.merkle_replica.specs.CatchUp.{IsLacked, IsHidden, HasFound}
use Rattle.merkle_replica.specs.Descent.{HasPage, IsSortedOut, AreSortedOut, gaps_of}
use Rattle.merkle_replica.specs.Missing.{has_page_over, own_tree}
use Rattle.merkle_search_tree.specs.declared.gap.Gap.{Gap as BorrowedGap}
use Rattle.merkle_replica.proofs.RoundStates.{IsPageGap, IsUnderway}
use Rattle.merkle_replica.proofs.Bounds.{ascending_digests}
use Rattle.merkle_replica.proofs.Descents.{same_get}

pub any-append : {X : Type 0} (P : X → Type 0) (xs ys : List X) → AnyByRecursion P xs ⊎ AnyByRecursion P ys → AnyByRecursion P (xs ++ ys)
any-append P [] ys (inl a) = absurd a
any-append P [] ys (inr a) = a
any-append P (x ∷ xs) ys (inl (inl a)) = inl a
any-append P (x ∷ xs) ys (inl (inr a)) = inr (any-append P xs ys (inl a))
any-append P (x ∷ xs) ys (inr a) = inr (any-append P xs ys (inr a))

module _ {K V H : Type 0} (laws : Laws K V H) (o : IsTotalOrder laws.cmp) (local peer : Contents K V H) where
  abbrev root : Tree K (List ℕ)
  root = peer.tree.root

  abbrev Valid : ℕ → List (Item K (List ℕ)) → Type 0
  Valid n = AllByRecursion (IsItemOf peer.tree.format laws.bytes_of laws.cmp root n)

  abbrev Lacked : K → Type 0
  Lacked = IsLacked laws (side local) (side peer)

  abbrev Hidden : K → Type 0
  Hidden = IsHidden laws (side local) (side peer)

  abbrev outline : Gap K → List (Item K (List ℕ))
  outline = outline_over peer.tree.format laws.bytes_of laws.cmp root

  weaker : (a b : ℕ) → a ≤ b → (xs : List (Item K (List ℕ))) → Valid a xs → Valid b xs
  weaker a b le [] h = tt
  weaker a b le (of_node k d ∷ xs) h = (h.0, weaker a b le xs h.1)
  weaker a b le (of_page g digest ∷ xs) ((t, fills, less, q), h) = ((t, fills, omega arith, q), weaker a b le xs h)

  -- outlines over gaps that pages of the peer's tree fill
  module _ (down : (t : Tree K (List ℕ)) (g : Gap K) → Fills laws.cmp g t root → Valid (level t) (outline g)
      × ((k : K) (d : List ℕ) → get laws.cmp (pairs root) k ≡ Some d → IsInGap laws.cmp k g → AnyByRecursion (HasItemAt laws.cmp k) (outline g))) where
    outlines_valid : (n m : ℕ) → n ≤ m + 1 → (gs : List (Gap K)) → AllByRecursion (IsPageGap laws local peer n) gs → Valid m (flat_map outline gs)
    outlines_valid n m le [] a = tt
    outlines_valid n m le (g ∷ gs) ((t, fills, low), a) =
        each-append (IsItemOf peer.tree.format laws.bytes_of laws.cmp root m) (outline g) (flat_map outline gs)
        (weaker (level t) m (omega arith) (outline g) (down t g fills).0) (outlines_valid n m le gs a)

    outlines_cover : (n : ℕ) (gs : List (Gap K)) (k : K) (d : List ℕ) → AllByRecursion (IsPageGap laws local peer n) gs → get laws.cmp (pairs root) k ≡ Some d
        → AnyByRecursion (IsInGap laws.cmp k) gs → AnyByRecursion (HasItemAt laws.cmp k) (flat_map outline gs)
    outlines_cover n [] k d a f i = absurd i
    outlines_cover n (g ∷ gs) k d ((t, fills, low), a) f (inl i) = any-append (HasItemAt laws.cmp k) (outline g) (flat_map outline gs) (inl ((down t g fills).1 k d f i))
    outlines_cover n (g ∷ gs) k d (p, a) f (inr i) = any-append (HasItemAt laws.cmp k) (outline g) (flat_map outline gs) (inr (outlines_cover n gs k d a f i))

  -- what items leave to ask for
  sorted_pages : (n : ℕ) (es : List (Item K (List ℕ))) (gs : List (Gap K)) (ks : List K) → Valid n es → AreSortedOut laws (side local) es gs ks → AllByRecursion (IsPageGap laws local peer n) gs
  sorted_pages n [] gs ks v (p, q) = subst (AllByRecursion (IsPageGap laws local peer n)) (sym p) tt
  sorted_pages n (of_node k d ∷ es) gs ks v (gf, gr, ko, kr, (empty, h), r, p, q) =
      subst (AllByRecursion (IsPageGap laws local peer n)) (sym (p ∙ ap (λ z. z ++ gr) empty)) (sorted_pages n es gr kr v.1 r)
  sorted_pages n (of_page g digest ∷ es) gs ks ((t, fills, low, w), v) (gf, gr, ko, kr, (empty, inl (has, none)), r, p, q) =
      subst (AllByRecursion (IsPageGap laws local peer n)) (sym (p ∙ ap (λ z. z ++ gr) none)) (sorted_pages n es gr kr v r)
  sorted_pages n (of_page g digest ∷ es) gs ks ((t, fills, low, w), v) (gf, gr, ko, kr, (empty, inr (lacks, one)), r, p, q) =
      subst (AllByRecursion (IsPageGap laws local peer n)) (sym (p ∙ ap (λ z. z ++ gr) one)) ((t, fills, low), sorted_pages n es gr kr v r)

  module _ (kept : SameMap laws.cmp (λ d e. d ≡ e) (map_of peer.tree) (tree_map laws (side peer))) where
    abbrev at_peer : (k : K) → get laws.cmp (pairs root) k ≡ get laws.cmp (tree_map laws (side peer)) k
    at_peer k = same_get laws.cmp o (map_of peer.tree) (tree_map laws (side peer)) kept k

    sorted_lacked : (n : ℕ) (es : List (Item K (List ℕ))) (gs : List (Gap K)) (ks : List K) → Valid n es → AreSortedOut laws (side local) es gs ks → AllByRecursion Lacked ks
    sorted_lacked n [] gs ks v (p, q) = subst (AllByRecursion Lacked) (sym q) tt
    sorted_lacked n (of_node k d ∷ es) gs ks v (gf, gr, ko, kr, (empty, inl (has, none)), r, p, q) =
        subst (AllByRecursion Lacked) (sym (q ∙ ap (λ z. z ++ kr) none)) (sorted_lacked n es gr kr v.1 r)
    sorted_lacked n (of_node k d ∷ es) gs ks v (gf, gr, ko, kr, (empty, inr (lacks, one)), r, p, q) =
        subst (AllByRecursion Lacked) (sym (q ∙ ap (λ z. z ++ kr) one)) ((d, sym (at_peer k) ∙ v.0, lacks), sorted_lacked n es gr kr v.1 r)
    sorted_lacked n (of_page g digest ∷ es) gs ks v (gf, gr, ko, kr, (empty, h), r, p, q) =
        subst (AllByRecursion Lacked) (sym (q ∙ ap (λ z. z ++ kr) empty)) (sorted_lacked n es gr kr v.1 r)

    module _ (in_gap : (t : Tree K (List ℕ)) (g : Gap K) (k : K) (d : List ℕ) → Fills laws.cmp g t root → IsInGap laws.cmp k g
        → get laws.cmp (pairs root) k ≡ Some d → get laws.cmp (pairs t) k ≡ Some d)
        (canonical : IsCanonicalRoot (λ k. level_of (laws.key_digest peer.tree.hasher k) peer.tree.base) root) (own_is : IsTreeOfSide laws (side local) (own_tree laws (side local))) where
      -- local has the page over a gap where it has its digest
      own_page : (g : Gap K) (c : List ℕ) → has_page_over laws (side local) g c ≡ true → HasPage laws (side local) c
      own_page g c has = by (page_over laws.cmp g (own_tree laws (side local))) refl has
        where
          by : (found : Option (Tree K (List ℕ))) → page_over laws.cmp g (own_tree laws (side local)) ≡ found
              → is_page_with local.tree.format laws.bytes_of c found ≡ true → HasPage laws (side local) c
          by None e same = absurd (cc)
          by (Some s) e same =
              (s, (own_tree laws (side local), own_is, (over_inside laws.cmp g (own_tree laws (side local)) s e).0), (bytes_decides (page_digest local.tree.format laws.bytes_of s) c).0 same)

      -- a key in a page of the peer whose digest is that of a page of local is hidden
      hides : (t : Tree K (List ℕ)) (g : Gap K) (k : K) (c d : List ℕ) → Fills laws.cmp g t root → page_digest peer.tree.format laws.bytes_of t ≡ c
          → HasPage laws (side local) c → IsInGap laws.cmp k g → get laws.cmp (pairs root) k ≡ Some d → Hidden k
      hides t g k c d fills own (s, of_local, digest) inside f = (s, t, d, of_local, (root, (canonical, kept), fills.inside), digest ∙ sym own, in_gap t g k d fills inside f)

      -- so a key that is missing is in a gap or among the keys that are asked for, unless it is hidden
      abbrev Covers : K → List (Gap K) → List K → Type 0
      Covers k gs ks = (AnyByRecursion (IsInGap laws.cmp k) gs ⊎ AnyByRecursion (Same laws.cmp k) ks) ⊎ Hidden k

      item_covers : (n : ℕ) (x : Item K (List ℕ)) (gs : List (Gap K)) (ks : List K) (k : K) → IsItemOf peer.tree.format laws.bytes_of laws.cmp root n x
          → IsSortedOut laws (side local) x gs ks → Lacked k → HasItemAt laws.cmp k x → Covers k gs ks
      item_covers n (of_node j c) gs ks k v (empty, inl (has, none)) (d, there, lacks) same =
          let in_peer : get laws.cmp (tree_map laws (side peer)) k ≡ Some c = get_same laws.cmp o (tree_map laws (side peer)) k j same ∙ sym (at_peer j) ∙ v in
          let in_local : get laws.cmp (tree_map laws (side local)) k ≡ Some d = get_same laws.cmp o (tree_map laws (side local)) k j same ∙ has ∙ sym in_peer ∙ there in
          absurd (lacks in_local)
      item_covers n (of_node j c) gs ks k v (empty, inr (lacks, one)) l same = inl (inr (subst (AnyByRecursion (Same laws.cmp k)) (sym one) (inl same)))
      item_covers n (of_page g digest) gs ks k v (empty, inl (has, none)) l inside = inr (hides v.0 g k digest l.0 v.1 v.3 (own_page g digest has) inside (at_peer k ∙ l.1))
      item_covers n (of_page g digest) gs ks k v (empty, inr (lacks, one)) l inside = inl (inl (subst (AnyByRecursion (IsInGap laws.cmp k)) (sym one) (inl inside)))

      sorted_covers : (n : ℕ) (es : List (Item K (List ℕ))) (gs : List (Gap K)) (ks : List K) (k : K) → Valid n es → AreSortedOut laws (side local) es gs ks
          → Lacked k → AnyByRecursion (HasItemAt laws.cmp k) es → Covers k gs ks
      sorted_covers n [] gs ks k v r l a = absurd a
      sorted_covers n (x ∷ es) gs ks k v (gf, gr, ko, kr, h, r, p, q) l (inl a) = go (item_covers n x gf ko k v.0 h l a)
        where
          go : Covers k gf ko → Covers k gs ks
          go (inl (inl b)) = inl (inl (subst (AnyByRecursion (IsInGap laws.cmp k)) (sym p) (any-append (IsInGap laws.cmp k) gf gr (inl b))))
          go (inl (inr b)) = inl (inr (subst (AnyByRecursion (Same laws.cmp k)) (sym q) (any-append (Same laws.cmp k) ko kr (inl b))))
          go (inr b) = inr b
      sorted_covers n (x ∷ es) gs ks k v (gf, gr, ko, kr, h, r, p, q) l (inr a) = go (sorted_covers n es gr kr k v.1 r l a)
        where
          go : Covers k gr kr → Covers k gs ks
          go (inl (inl b)) = inl (inl (subst (AnyByRecursion (IsInGap laws.cmp k)) (sym p) (any-append (IsInGap laws.cmp k) gf gr (inr b))))
          go (inl (inr b)) = inl (inr (subst (AnyByRecursion (Same laws.cmp k)) (sym q) (any-append (Same laws.cmp k) ko kr (inr b))))
          go (inr b) = inr b

-- what a tree's laws say of the peer's tree and of local's
pub record Premises {K V H : Type 0} (laws : Laws K V H) (local peer : Contents K V H) : Type 0 where
  pub down : (t : Tree K (List ℕ)) (g : Gap K) → Fills laws.cmp g t peer.tree.root
      → AllByRecursion (IsItemOf peer.tree.format laws.bytes_of laws.cmp peer.tree.root (level t)) (outline_over peer.tree.format laws.bytes_of laws.cmp peer.tree.root g)
      × ((k : K) (d : List ℕ) → get laws.cmp (pairs peer.tree.root) k ≡ Some d → IsInGap laws.cmp k g
      → AnyByRecursion (HasItemAt laws.cmp k) (outline_over peer.tree.format laws.bytes_of laws.cmp peer.tree.root g))
  pub first : AllByRecursion (IsItemOf peer.tree.format laws.bytes_of laws.cmp peer.tree.root (level peer.tree.root + 1)) (whole_item peer.tree.format laws.bytes_of peer.tree.root)
      × ((k : K) (d : List ℕ) → get laws.cmp (pairs peer.tree.root) k ≡ Some d → AnyByRecursion (HasItemAt laws.cmp k) (whole_item peer.tree.format laws.bytes_of peer.tree.root))
  pub in_gap : (t : Tree K (List ℕ)) (g : Gap K) (k : K) (d : List ℕ) → Fills laws.cmp g t peer.tree.root → IsInGap laws.cmp k g
      → get laws.cmp (pairs peer.tree.root) k ≡ Some d → get laws.cmp (pairs t) k ≡ Some d
  pub in_page : (t page : Tree K (List ℕ)) (k : K) (d : List ℕ) → IsMap laws.cmp (pairs t) → IsPageIn page t → get laws.cmp (pairs page) k ≡ Some d → get laws.cmp (pairs t) k ≡ Some d
  pub kept : SameMap laws.cmp (λ d e. d ≡ e) (map_of peer.tree) (tree_map laws (side peer))
  pub up : IsMap laws.cmp (tree_map laws (side local))
  pub up_peer : IsMap laws.cmp (tree_map laws (side peer))
  pub canonical : IsCanonicalRoot (λ k. level_of (laws.key_digest peer.tree.hasher k) peer.tree.base) peer.tree.root
  pub ascending : IsMap laws.cmp (pairs peer.tree.root)
  pub own_is : IsTreeOfSide laws (side local) (own_tree laws (side local))

module _ {K V H : Type 0} (laws : Laws K V H) (o : IsTotalOrder laws.cmp) (local peer : Contents K V H) (p : Premises laws local peer) where
  -- the first items are the whole tree of the peer
  pub starts : (es : List (Item K (List ℕ))) (gaps : List (Gap K)) (keys : List K) → es ≡ whole_item peer.tree.format laws.bytes_of peer.tree.root → AreSortedOut laws (side local) es gaps keys
      → IsUnderway laws local peer (level peer.tree.root + 1) gaps keys
  starts es gaps keys is s =
      let n = level peer.tree.root + 1 in
      let r = subst (λ xs. AreSortedOut laws (side local) xs gaps keys) is s in
      let first = whole_item peer.tree.format laws.bytes_of peer.tree.root in
      record {
        pages = sorted_pages laws o local peer n first gaps keys p.first.0 r;
        lacked = sorted_lacked laws o local peer p.kept n first gaps keys p.first.0 r;
        covered = λ k l.
            sorted_covers laws o local peer p.kept p.in_gap p.canonical p.own_is n first gaps keys k p.first.0 r l
            (p.first.1 k l.0 (same_get laws.cmp o (map_of peer.tree) (tree_map laws (side peer)) p.kept k ∙ l.1));
      }

  -- a round leads to pages of lower levels
  pub goes_on : (n m : ℕ) (gaps gaps' : List (Gap K)) (keys more : List K) → n ≤ m + 1 → IsUnderway laws local peer n gaps keys
      → AreSortedOut laws (side local) (flat_map (outline_over peer.tree.format laws.bytes_of laws.cmp peer.tree.root) gaps) gaps' more → IsUnderway laws local peer m gaps' (keys ++ more)
  goes_on n m gaps gaps' keys more le u r =
      let es = flat_map (outline_over peer.tree.format laws.bytes_of laws.cmp peer.tree.root) gaps in
      let v = outlines_valid laws o local peer p.down n m le gaps u.pages in
      record {
        pages = sorted_pages laws o local peer m es gaps' more v r;
        lacked = each-append (IsLacked laws (side local) (side peer)) keys more u.lacked (sorted_lacked laws o local peer p.kept m es gaps' more v r);
        covered = λ k l. go k (u.covered k l) (λ i.
            sorted_covers laws o local peer p.kept p.in_gap p.canonical p.own_is m es gaps' more k v r l
            (outlines_cover laws o local peer p.down n gaps k l.0 u.pages (same_get laws.cmp o (map_of peer.tree) (tree_map laws (side peer)) p.kept k ∙ l.1) i));
      }
    where
      go : (k : K) → (AnyByRecursion (IsInGap laws.cmp k) gaps ⊎ AnyByRecursion (Same laws.cmp k) keys) ⊎ IsHidden laws (side local) (side peer) k
          → (AnyByRecursion (IsInGap laws.cmp k) gaps → (AnyByRecursion (IsInGap laws.cmp k) gaps' ⊎ AnyByRecursion (Same laws.cmp k) more) ⊎ IsHidden laws (side local) (side peer) k)
          → (AnyByRecursion (IsInGap laws.cmp k) gaps' ⊎ AnyByRecursion (Same laws.cmp k) (keys ++ more)) ⊎ IsHidden laws (side local) (side peer) k
      go k (inr h) f = inr h
      go k (inl (inr a)) f = inl (inr (any-append (Same laws.cmp k) keys more (inl a)))
      go k (inl (inl i)) f = then_found (f i)
        where
          then_found : (AnyByRecursion (IsInGap laws.cmp k) gaps' ⊎ AnyByRecursion (Same laws.cmp k) more) ⊎ IsHidden laws (side local) (side peer) k
              → (AnyByRecursion (IsInGap laws.cmp k) gaps' ⊎ AnyByRecursion (Same laws.cmp k) (keys ++ more)) ⊎ IsHidden laws (side local) (side peer) k
          then_found (inl (inl a)) = inl (inl a)
          then_found (inl (inr a)) = inl (inr (any-append (Same laws.cmp k) keys more (inr a)))
          then_found (inr h) = inr h

  -- while pages are faithful, nothing that is missing is hidden
  none_hidden : HaveFaithfulPages laws (side local) (side peer) → (k : K) → IsLacked laws (side local) (side peer) k → IsHidden laws (side local) (side peer) k → ⊥
  none_hidden faithful k (d, there, lacks) (s, t, c, (u, (form, same), j), (v, (form', same'), i), digests, f) =
      let maps = faithful s t (u, (form, same), j) (v, (form', same'), i) digests in
      let found : get laws.cmp (pairs s) k ≡ Some c = same_get laws.cmp o (pairs s) (pairs t) maps k ∙ f in
      let in_local : get laws.cmp (tree_map laws (side local)) k ≡ Some c = sym (same_get laws.cmp o (pairs u) (tree_map laws (side local)) same k)
      ∙ p.in_page u s k c (ascends laws.cmp o (λ d e. d ≡ e) (pairs u) (tree_map laws (side local)) same p.up) j found in
      let in_peer : get laws.cmp (tree_map laws (side peer)) k ≡ Some c = sym (same_get laws.cmp o (pairs v) (tree_map laws (side peer)) same' k)
      ∙ p.in_page v t k c (ascends laws.cmp o (λ d e. d ≡ e) (pairs v) (tree_map laws (side peer)) same' p.up_peer) i f in
      lacks (in_local ∙ sym in_peer ∙ there)

  -- with no page left, all is found
  pub ends : (n : ℕ) (gaps : List (Gap K)) (keys : List K) → gaps ≡ [] → IsUnderway laws local peer n gaps keys → HasFound laws (side local) (side peer) keys
  ends n gaps keys none u = record {
    lacked = u.lacked;
    unless_hidden = λ k l. go k (u.covered k l);
    all = λ faithful k l. seen k (go k (u.covered k l)) (none_hidden faithful k l);
  }
    where
      go : (k : K) → (AnyByRecursion (IsInGap laws.cmp k) gaps ⊎ AnyByRecursion (Same laws.cmp k) keys) ⊎ IsHidden laws (side local) (side peer) k
          → AnyByRecursion (Same laws.cmp k) keys ⊎ IsHidden laws (side local) (side peer) k
      go k (inl (inl i)) = absurd (subst (AnyByRecursion (IsInGap laws.cmp k)) none i)
      go k (inl (inr a)) = inl a
      go k (inr h) = inr h

      seen : (k : K) → AnyByRecursion (Same laws.cmp k) keys ⊎ IsHidden laws (side local) (side peer) k → (IsHidden laws (side local) (side peer) k → ⊥) → AnyByRecursion (Same laws.cmp k) keys
      seen k (inl a) n = a
      seen k (inr h) n = absurd (n h)

  -- pages are left only above level 0
  pub some_left : (n : ℕ) (gaps : List (Gap K)) (keys : List K) → IsUnderway laws local peer n gaps keys → (gaps ≡ [] → ⊥) → 0 < n
  some_left n [] keys u ne = absurd (ne refl)
  some_left n (g ∷ gs) keys u ne = let low = u.pages.0.2 in omega arith

-- the premises, from the laws of trees
pub premises_from : {K V H : Type 0} (laws : Laws K V H) (o : IsTotalOrder laws.cmp) (local peer : Contents K V H)
    → IsTreeOfSide laws (side local) (own_tree laws (side local)) → IsMap laws.cmp (map_of peer.tree)
    → IsCanonicalRoot (λ k. level_of (laws.key_digest peer.tree.hasher k) peer.tree.base) peer.tree.root
    → SameMap laws.cmp (λ d e. d ≡ e) (map_of peer.tree) (tree_map laws (side peer)) → IsMap laws.cmp local.rows
    → ((t page : Tree K (List ℕ)) (g : Gap K) → IsMap laws.cmp (pairs t) → Fills laws.cmp g page t → page_over laws.cmp g t ≡ Some page)
    → ((hasher : H) (base : ℕ) (format : PageFormat) (t page : Tree K (List ℕ)) (g : Gap K) → IsMap laws.cmp (pairs t)
    → IsCanonicalRoot (λ k. level_of (laws.key_digest hasher k) base) t → Fills laws.cmp g page t
    → AllByRecursion (IsItemOf format laws.bytes_of laws.cmp t (level page)) (outline_of format laws.bytes_of g page)
    × ((k : K) (d : List ℕ) → get laws.cmp (pairs t) k ≡ Some d → IsInGap laws.cmp k g → AnyByRecursion (HasItemAt laws.cmp k) (outline_of format laws.bytes_of g page)))
    → ((hasher : H) (base : ℕ) (format : PageFormat) (t : Tree K (List ℕ)) → IsMap laws.cmp (pairs t) → IsCanonicalRoot (λ k. level_of (laws.key_digest hasher k) base) t
    → AllByRecursion (IsItemOf format laws.bytes_of laws.cmp t (level t + 1)) (whole_item format laws.bytes_of t)
    × ((k : K) (d : List ℕ) → get laws.cmp (pairs t) k ≡ Some d → AnyByRecursion (HasItemAt laws.cmp k) (whole_item format laws.bytes_of t)))
    → ((t page : Tree K (List ℕ)) (g : Gap K) (k : K) (d : List ℕ) → IsMap laws.cmp (pairs t) → Fills laws.cmp g page t → IsInGap laws.cmp k g
    → get laws.cmp (pairs t) k ≡ Some d → get laws.cmp (pairs page) k ≡ Some d)
    → ((t page : Tree K (List ℕ)) (k : K) (d : List ℕ) → IsMap laws.cmp (pairs t) → IsPageIn page t → get laws.cmp (pairs page) k ≡ Some d → get laws.cmp (pairs t) k ≡ Some d)
    → Premises laws local peer
premises_from {K} laws o local peer own_is ascending form kept up opens over whole in_gap within = record {
  down = λ t g fills.
      subst (λ found. AllByRecursion (IsItemOf peer.tree.format laws.bytes_of laws.cmp peer.tree.root (level t)) (outline_where peer.tree.format laws.bytes_of g found)
      × ((k : K) (d : List ℕ) → get laws.cmp (pairs peer.tree.root) k ≡ Some d → IsInGap laws.cmp k g → AnyByRecursion (HasItemAt laws.cmp k) (outline_where peer.tree.format laws.bytes_of g found)))
      (sym (opens peer.tree.root t g ascending fills)) (over peer.tree.hasher peer.tree.base peer.tree.format peer.tree.root t g ascending form fills);
  first = whole peer.tree.hasher peer.tree.base peer.tree.format peer.tree.root ascending form;
  in_gap = λ t g k d fills inside f. in_gap peer.tree.root t g k d ascending fills inside f;
  in_page = within;
  kept = kept;
  up = ascending_digests laws.cmp o (laws.value_digest local.tree.hasher) local.rows up;
  up_peer = same_is_map laws.cmp o (λ d e. d ≡ e) (map_of peer.tree) (tree_map laws (side peer)) kept ascending;
  canonical = form;
  ascending = ascending;
  own_is = own_is;
}

-- the level of a root page is that of a key, or 0
pub root_level : {K D : Type 0} (lev : K → ℕ) (t : Tree K D) → ((k : K) → lev k ≤ 255) → IsCanonicalRoot lev t → level t ≤ 255
root_level lev (page l c (high nothing)) most g = omega arith
root_level lev (page l c (high (below t))) most g = absurd g
root_level lev (page l c (node h k d r)) most g = let here = g.1 in let low = most k in omega arith

-- whether there are gaps, by how many there are
pub some_gaps : {K : Type 0} (gs : List (BorrowedGap K)) → (length gs ≡ 0 → ⊥) → gaps_of gs ≡ [] → ⊥
some_gaps [] n e = n refl
some_gaps (g ∷ gs) n e = absurd (cc)

pub no_gaps : {K : Type 0} (gs : List (BorrowedGap K)) → length gs ≡ 0 → gaps_of gs ≡ []
no_gaps [] e = refl
no_gaps (g ∷ gs) e = absurd (omega arith)

-- the sides of a descent as contents, of which only the peer's root page is looked at
abbrev pub contents_of : {K V H : Type 0} → Side K V H → Tree K (List ℕ) → Contents K V H
contents_of s root = record { rows = s.rows; tree = record { hasher = s.hasher; base = s.base; format = s.format; root = root; root_hash = None } }
