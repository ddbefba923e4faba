-- The pages that a side hasn't, counted: of those right below one that was told, the gaps that are asked for have no more than there are below it.
use Rattle.std.specs.Prelude.{if◌then◌else◌}
use Rattle.std.proofs.Common.{◌≡◌, ℕ, ◌+◌, ◌≤◌, Bool, true, false, List, [], ◌∷◌, Option, Some, None, refl, sym, ap, ap₂, subst, ◌∙◌, ◌⊎◌, inl, inr, arith}
use Rattle.std.specs.Cmp.{IsTotalOrder, tied_itself}
use Rattle.std.specs.declared.cmp.Ordering.{Ordering}
use Rattle.key_order.specs.Map.{IsMap}
use Rattle.key_order.proofs.Bools.{which}
use Rattle.key_order.proofs.ListParts.{map-rest}
use Rattle.key_order.proofs.SameKeys.{SameKeys}
use Rattle.merkle_replica.specs.Contents.{Side}
use Rattle.merkle_replica.specs.Laws.{Laws}
use Rattle.merkle_search_tree.proofs.SameItems.{page_over-alike, same_gap-trans}
use Rattle.merkle_tree_theory.specs.Canonical.{IsCanonicalRoot, IsRow, SameHeld, SamePages, SameRow}
use Rattle.merkle_tree_theory.specs.Gap.{Gap, SameGap, pairs_within, part_before, part_behind}
use Rattle.merkle_tree_theory.specs.Lookup.{Fills, page_over}
use Rattle.merkle_tree_theory.specs.Outline.{outline_where, outline_over}
use Rattle.merkle_tree_theory.specs.Page.{pairs, row_pairs}
use Rattle.merkle_tree_theory.specs.Ranges.{IsPageIn, IsPageInRow}
use Rattle.merkle_tree_theory.specs.Stream.{page_digest}
use Rattle.merkle_tree_theory.specs.Tree.{Tree, page, Row, high, node, Held, nothing, below}
use Rattle.merkle_tree_theory.specs.declared.page_format.PageFormat.{PageFormat}
use Rattle.merkle_tree_theory.proofs.PageOverGap.{filled_opens}
use Rattle.merkle_tree_theory.proofs.PagesIn.{itself, page_in}
use Rattle.merkle_wire.specs.SessionLaws.{lacked_in_held, lacked_in_row, lacked_pages}
use Rattle.merkle_wire.specs.Outlines.{keys_among, nodes_among, pages_beside}
use Rattle.merkle_wire.specs.Taking.{AreNewGaps, HasPageAt, IsNewGap}
use Rattle.merkle_wire.proofs.FilledGaps.{fills-alike}
use Rattle.merkle_wire.proofs.PagesBelow.{items_in, map_inside, nodes_in}
use Rattle.merkle_wire.proofs.PartsFilled.{page_canonical, part_before_all, part_behind_all}
use Rattle.merkle_wire.proofs.SameNodes.{SameFound, over-same}
use Rattle.merkle_wire.proofs.Times.{total-append}
use Rattle.merkle_wire.proofs.Steady.{total}
use Rattle.merkle_wire.proofs.TakenGaps.{IsOneGap}

module _ {K : Type 0} (cmp : K → K → Ordering) (format : PageFormat) (bytes_of : K → List ℕ) (is_there : Gap K → List ℕ → Bool) where
  -- how many a tree has at and below its page over a gap
  abbrev pub lacked_where : Gap K → Option (Tree K (List ℕ)) → ℕ
  lacked_where g None = 0
  lacked_where g (Some t) = lacked_pages format bytes_of is_there g t

  abbrev pub lacked_over : Tree K (List ℕ) → Gap K → ℕ
  lacked_over root g = lacked_where g (page_over cmp g root)

-- a test of which pages are there: the side's own page that fills the gap has the digest where the test says so, of equal gaps alike
pub record TellsOwnPages {K V H : Type 0} (laws : Laws K V H) (local : Side K V H) (is_there : Gap K → List ℕ → Bool) : Type 0 where
  pub there : (g : Gap K) (d : List ℕ) → is_there g d ≡ true → HasPageAt laws local g d
  pub alike : (g h : Gap K) (d : List ℕ) → SameGap laws.cmp g h → is_there g d ≡ is_there h d

module _ {K V H : Type 0} (laws : Laws K V H) (o : IsTotalOrder laws.cmp) (local : Side K V H) (format : PageFormat)
    (one_digest : (t u : Tree K (List ℕ)) → SamePages laws.cmp t u → page_digest format laws.bytes_of t ≡ page_digest format laws.bytes_of u)
    (is_there : Gap K → List ℕ → Bool) (tells : TellsOwnPages laws local is_there) where
  abbrev pub lacked : Gap K → Tree K (List ℕ) → ℕ
  lacked = lacked_pages format laws.bytes_of is_there

  abbrev in_row : Gap K → Row K (List ℕ) → ℕ
  in_row = lacked_in_row format laws.bytes_of is_there

  abbrev pub in_held : Gap K → Held K (List ℕ) → ℕ
  in_held = lacked_in_held format laws.bytes_of is_there

  -- in equal gaps, of the same pages, there are as many
  mutual
    pub lacked-same : (g h : Gap K) (t u : Tree K (List ℕ)) → SameGap laws.cmp g h → SamePages laws.cmp t u → lacked g t ≡ lacked h u
    lacked-same g h (page l c r) (page m e s) sg q = ap (λ x. 1 + x) (row-same g h r s sg q.2)

    row-same : (g h : Gap K) (r s : Row K (List ℕ)) → SameGap laws.cmp g h → SameRow laws.cmp r s → in_row g r ≡ in_row h s
    row-same g h (high x) (high y) sg q = held-same g h x y sg q
    row-same g h (high x) (node y j e s) sg q = absurd q
    row-same g h (node x k d r) (high y) sg q = absurd q
    row-same g h (node x k d r) (node y j e s) sg q =
        ap₂ (λ a b. a + b) (held-same (part_before g k) (part_before h j) x y (sg.0, q.1) q.0) (row-same (part_behind g k) (part_behind h j) r s (q.1, sg.1) q.3)

    pub held-same : (g h : Gap K) (x y : Held K (List ℕ)) → SameGap laws.cmp g h → SameHeld laws.cmp x y → in_held g x ≡ in_held h y
    held-same g h nothing nothing sg q = refl
    held-same g h nothing (below u) sg q = absurd q
    held-same g h (below t) nothing sg q = absurd q
    held-same g h (below t) (below u) sg q =
        ap₂ (λ b m. if b then 0 else m) (tells.alike g h (page_digest format laws.bytes_of t) sg ∙ ap (is_there h) (one_digest t u q)) (lacked-same g h t u sg q)

  -- a page is the same as itself
  mutual
    pages-own : (t : Tree K (List ℕ)) → SamePages laws.cmp t t
    pages-own (page l c r) = (refl, tt, row-own r)

    row-own : (r : Row K (List ℕ)) → SameRow laws.cmp r r
    row-own (high h) = held-own h
    row-own (node h k d r) = (held-own h, tied_itself o k, refl, row-own r)

    held-own : (h : Held K (List ℕ)) → SameHeld laws.cmp h h
    held-own nothing = tt
    held-own (below t) = pages-own t

  abbrev over : Tree K (List ℕ) → Gap K → ℕ
  over = lacked_over laws.cmp format laws.bytes_of is_there

  abbrev where_found : Gap K → Option (Tree K (List ℕ)) → ℕ
  where_found = lacked_where laws.cmp format laws.bytes_of is_there

  pub lacked_over-same : (root tree : Tree K (List ℕ)) (g h : Gap K) → SamePages laws.cmp root tree → SameGap laws.cmp g h → over root g ≡ over tree h
  lacked_over-same root tree g h q s =
      by (page_over laws.cmp g root) (page_over laws.cmp h tree) (subst (SameFound laws.cmp o (page_over laws.cmp g root)) (page_over-alike laws.cmp o g h s tree) (over-same laws.cmp o g root tree q))
    where
      by : (x y : Option (Tree K (List ℕ))) → SameFound laws.cmp o x y → where_found g x ≡ where_found h y
      by None None f = refl
      by None (Some u) f = absurd f
      by (Some t) None f = absurd f
      by (Some t) (Some u) f = lacked-same g h t u s f

  module _ (tree : Tree K (List ℕ)) (up : IsMap laws.cmp (pairs tree)) where
    pub lacked_filled : (g : Gap K) (t : Tree K (List ℕ)) → Fills laws.cmp g t tree → over tree g ≡ lacked g t
    lacked_filled g t f = ap (where_found g) (filled_opens laws.cmp o g t tree up f)

    -- the gap of a page that is told by its digest
    new_lacked : (g h : Gap K) (t : Tree K (List ℕ)) (new : List (Gap K)) → Fills laws.cmp g t tree → SameGap laws.cmp g h
        → IsNewGap laws local h (Some (page_digest format laws.bytes_of t)) new → total (over tree) new ≤ in_held g (below t)
    new_lacked g h t new f s (inl (none, own)) = subst (λ gs. total (over tree) gs ≤ in_held g (below t)) (sym none) (omega arith)
    new_lacked g h t new f s (inr (one, lacks)) = by (which (is_there g (page_digest format laws.bytes_of t)))
      where
        count : (new : List (Gap K)) → IsOneGap laws local h new → total (over tree) new ≤ lacked g t
        count new (own, is, e) = subst (λ gs. total (over tree) gs ≤ lacked g t) (sym is) (
            let same = same_gap-trans laws.cmp o g h own s e in
            omega (arith, lacked_filled own t (fills-alike laws.cmp o g own t tree same f), lacked-same g own t t same (pages-own t)))

        by : (is_there g (page_digest format laws.bytes_of t) ≡ false) ⊎ (is_there g (page_digest format laws.bytes_of t) ≡ true) → total (over tree) new ≤ in_held g (below t)
        by (inl n) = rw n (count new one)
        by (inr n) = absurd (lacks (tells.there h (page_digest format laws.bytes_of t) (sym (tells.alike g h (page_digest format laws.bytes_of t) s) ∙ n)))

    -- those of the pages of a row
    row_lacked : (lev : K → ℕ) (l : ℕ) (g h : Gap K) (r : Row K (List ℕ)) (ks : List K) (new : List (Gap K)) → IsRow lev l r
        → pairs_within laws.cmp g (pairs tree) ≡ row_pairs r → IsMap laws.cmp (row_pairs r)
        → ((s : Tree K (List ℕ)) → IsPageInRow s r → IsPageIn s tree) → SameGap laws.cmp g h → SameKeys laws.cmp (keys_among (nodes_in laws.cmp o format laws.bytes_of g r)) ks
        → AreNewGaps laws local h ks (pages_beside None (items_in laws.cmp o format laws.bytes_of g r)) new → total (over tree) new ≤ in_row g r
    row_lacked lev l g h (high q) (x ∷ ks) new c all m i s k a = absurd (none q k)
      where
        none : (q : Held K (List ℕ)) → SameKeys laws.cmp (keys_among (nodes_in laws.cmp o format laws.bytes_of g (high q))) (x ∷ ks) → ⊥
        none nothing k = k
        none (below t) k = k
    row_lacked lev l g h (high nothing) [] new c all m i s k a = subst (λ gs. total (over tree) gs ≤ 0) (sym a) (omega arith)
    row_lacked lev l g h (high (below t)) [] new c all m i s k a = new_lacked g h t new (record { inside = i t (itself t); some = c.1; all = all }) s a
    row_lacked lev l g h (node nothing j e r) [] new c all m i s k a = absurd k
    row_lacked lev l g h (node (below t) j e r) [] new c all m i s k a = absurd k
    row_lacked lev l g h (node nothing j e r) (x ∷ ks) new c all m i s k (first, rest, one, more, is) =
        subst (λ gs. total (over tree) gs ≤ in_row g (node nothing j e r)) (sym is)
        (omega (
          arith,
          total-append (over tree) first rest,
          ap (total (over tree)) one,
          row_lacked lev l (part_behind g j) (part_behind h x) r ks rest c.2 (part_behind_all laws.cmp o g tree [] j e (row_pairs r) m all) m.1 (λ s u. i s (inr u)) (k.0, s.1) k.1 more,
        ))
    row_lacked lev l g h (node (below t) j e r) (x ∷ ks) new c all m i s k (first, rest, one, more, is) =
        let fills : Fills laws.cmp (part_before g j) t tree = record { inside = i t (inl (itself t)); some = c.0.1; all = part_before_all laws.cmp o g tree (pairs t) j e (row_pairs r) m all } in
        subst (λ gs. total (over tree) gs ≤ in_row g (node (below t) j e r)) (sym is)
        (omega (
          arith,
          total-append (over tree) first rest,
          new_lacked (part_before g j) (part_before h x) t first fills (s.0, k.0) one,
          row_lacked lev l (part_behind g j) (part_behind h x) r ks rest c.2 (part_behind_all laws.cmp o g tree (pairs t) j e (row_pairs r) m all)
              (map-rest laws.cmp (pairs t) ((j, e) ∷ row_pairs r) m).1 (λ s u. i s (inr u)) (k.0, s.1) k.1 more,
        ))

    -- the gaps that are asked for of a page that was told
    pub parts_lacked : (lev : K → ℕ) → IsCanonicalRoot lev tree → (g h : Gap K) (u : Tree K (List ℕ)) (ks : List K) (new : List (Gap K)) → Fills laws.cmp g u tree → SameGap laws.cmp g h
        → SameKeys laws.cmp (keys_among (nodes_among (outline_over format laws.bytes_of laws.cmp tree g))) ks
        → AreNewGaps laws local h ks (pages_beside None (outline_over format laws.bytes_of laws.cmp tree g)) new
        → total (over tree) new + 1 ≤ lacked g u
    parts_lacked lev canonical g h (page l c r) ks new f s k a =
        let is = ap (outline_where format laws.bytes_of g) (filled_opens laws.cmp o g (page l c r) tree up f) in
        omega (
          arith,
          row_lacked lev l g h r ks new (page_canonical lev (page l c r) tree canonical f.inside f.some) f.all (map_inside laws.cmp o (page l c r) tree up f.inside)
              (λ s j. page_in s (page l c r) tree (inr j) f.inside) s
              (subst (λ xs. SameKeys laws.cmp (keys_among (nodes_among xs)) ks) is k) (subst (λ xs. AreNewGaps laws local h ks (pages_beside None xs) new) is a),
        )
