-- The peer's pages that fill gaps: they do so in each tree of its map, and those right below a page that was told fill the parts of its gap.
use Rattle.std.proofs.Common.{◌≡◌, ℕ, ◌<◌, ◌&&◌, true, false, List, [], ◌∷◌, ◌++◌, length, Option, Some, None, refl, sym, ap, ap₂, subst, ◌∙◌, append_assoc, append-nil, ◌⊎◌, inl, inr, arith}
use Rattle.std.proofs.lemmas.List.{length-append}
use Rattle.std.specs.Cmp.{IsTotalOrder}
use Rattle.std.specs.List.{AllByRecursion}
use Rattle.std.specs.declared.cmp.Ordering.{Ordering}
use Rattle.key_order.specs.Map.{IsMap, SameMap, rows_at}
use Rattle.key_order.proofs.SameKeys.{SameKeys}
use Rattle.key_order.proofs.Bools.{which}
use Rattle.key_order.proofs.ListParts.{each-append}
use Rattle.merkle_diff.proofs.Each.{each-with}
use Rattle.merkle_replica.specs.Contents.{Side}
use Rattle.merkle_replica.specs.Laws.{Laws}
use Rattle.merkle_search_tree.proofs.SameItems.{same_gap-trans}
use Rattle.merkle_tree_theory.specs.Canonical.{HasNode, IsCanonicalRoot, SamePages}
use Rattle.merkle_tree_theory.specs.Gap.{Gap, IsInGap, SameGap, is_in_gap, pairs_within, part_before, part_behind}
use Rattle.merkle_tree_theory.specs.Lookup.{Fills, page_over}
use Rattle.merkle_tree_theory.specs.Outline.{of_page, IsItemOf, outline_over, outline_where}
use Rattle.merkle_tree_theory.specs.Page.{held_pairs, level, pairs, row_pairs}
use Rattle.merkle_tree_theory.specs.Ranges.{IsPageIn}
use Rattle.merkle_tree_theory.specs.Stream.{page_digest}
use Rattle.merkle_tree_theory.specs.Tree.{Tree, page, Row, high, node, Held, nothing, below}
use Rattle.merkle_tree_theory.specs.declared.page_format.PageFormat.{PageFormat}
use Rattle.merkle_tree_theory.proofs.OutlineDescents.{outline_down}
use Rattle.merkle_tree_theory.proofs.InGaps.{each_within, in_gap-same, is_after-alike, is_before-alike, is_in_gap-same, test_from_in_gap, within-append}
use Rattle.merkle_tree_theory.proofs.PageOverGap.{filled_opens, over_inside}
use Rattle.merkle_tree_theory.proofs.PagesIn.{GoesDown, MatchRow, inside}
use Rattle.merkle_tree_theory.proofs.SameRanges.{same-pairs}
use Rattle.merkle_wire.specs.Outlines.{keys_among, nodes_among, pages_beside}
use Rattle.merkle_wire.specs.Taking.{AreNewGaps, IsNewGap}
use Rattle.merkle_wire.proofs.InGaps.{all_pass}
use Rattle.merkle_wire.proofs.PagesBelow.{items_in, nodes_in}
use Rattle.merkle_wire.proofs.SameNodes.{SameFound, over-same}
use Rattle.merkle_wire.proofs.TakenGaps.{IsGapOrNone, gap_or_none}

-- of three lists that together are as long as the second the others are empty
only_second : {X : Type 0} (xs ys zs : List X) → length (xs ++ (ys ++ zs)) ≡ length ys → xs ++ (ys ++ zs) ≡ ys
only_second [] ys [] e = append-nil ys
only_second [] ys (z ∷ zs) e = absurd (omega (arith, e, length-append ys (z ∷ zs)))
only_second (x ∷ xs) ys zs e = absurd (omega (arith, e, length-append xs (ys ++ zs), length-append ys zs))

module _ {K : Type 0} (cmp : K → K → Ordering) (o : IsTotalOrder cmp) where
  -- where the pairs of a page stand among others
  abbrev pub Context : List (K × List ℕ) → List (K × List ℕ) → Type 0
  Context whole ps = (pre : List (K × List ℕ)) × (post : List (K × List ℕ)) × (whole ≡ pre ++ (ps ++ post))

  pub context_down : (whole : List (K × List ℕ)) → GoesDown (λ (t : Tree K (List ℕ)). Context whole (pairs t)) (λ (r : Row K (List ℕ)). Context whole (row_pairs r))
  context_down whole = record {
    to_row = row_of;
    to_high = λ t c. c;
    to_below = λ t k d r (pre, post, e). (pre, ((k, d) ∷ row_pairs r) ++ post, e ∙ ap (λ w. pre ++ w) (append_assoc (pairs t) ((k, d) ∷ row_pairs r) post));
    to_rest = λ h k d r (pre, post, e). (
      pre ++ (held_pairs h ++ (k, d) ∷ []),
      post,
      e ∙ ap (λ w. pre ++ w) (append_assoc (held_pairs h) ((k, d) ∷ row_pairs r) post ∙ sym (append_assoc (held_pairs h) ((k, d) ∷ []) (row_pairs r ++ post)))
          ∙ sym (append_assoc pre (held_pairs h ++ (k, d) ∷ []) (row_pairs r ++ post)),
    );
  }
    where
      row_of : (t : Tree K (List ℕ)) → Context whole (pairs t) → MatchRow (λ (r : Row K (List ℕ)). Context whole (row_pairs r)) t
      row_of (page l c r) m = m

  -- equal maps have as many pairs, and as many in a gap
  same_length : (ps qs : List (K × List ℕ)) → SameMap cmp (λ d e. d ≡ e) ps qs → length ps ≡ length qs
  same_length [] [] s = refl
  same_length [] (q ∷ qs) s = absurd s
  same_length (p ∷ ps) [] s = absurd s
  same_length (p ∷ ps) (q ∷ qs) s = omega (arith, same_length ps qs s.2)

  module _ (g : Gap K) where
    within_length : (ps qs : List (K × List ℕ)) → SameMap cmp (λ d e. d ≡ e) ps qs → length (pairs_within cmp g ps) ≡ length (pairs_within cmp g qs)
    within_length [] [] s = refl
    within_length [] (q ∷ qs) s = absurd s
    within_length (p ∷ ps) [] s = absurd s
    within_length (p ∷ ps) (q ∷ qs) s = go (which (is_in_gap cmp p.0 g)) (within_length ps qs s.2)
      where
        alike : is_in_gap cmp p.0 g ≡ is_in_gap cmp q.0 g
        alike = is_in_gap-same cmp o g p.0 q.0 s.0

        go : (is_in_gap cmp p.0 g ≡ false) ⊎ (is_in_gap cmp p.0 g ≡ true) → length (pairs_within cmp g ps) ≡ length (pairs_within cmp g qs)
            → length (pairs_within cmp g (p ∷ ps)) ≡ length (pairs_within cmp g (q ∷ qs))
        go (inl n) e = rw (n, sym alike ∙ n) e
        go (inr n) e = rw (n, sym alike ∙ n) (omega (arith, e))

    in_gap_each : (ps qs : List (K × List ℕ)) → SameMap cmp (λ d e. d ≡ e) ps qs → AllByRecursion (λ p. IsInGap cmp p.0 g) ps → AllByRecursion (λ q. IsInGap cmp q.0 g) qs
    in_gap_each [] [] s a = tt
    in_gap_each [] (q ∷ qs) s a = absurd s
    in_gap_each (p ∷ ps) [] s a = absurd s
    in_gap_each (p ∷ ps) (q ∷ qs) s a = (in_gap-same cmp o g p.0 q.0 s.0 a.0, in_gap_each ps qs s.2 a.1)

    -- the pairs of a page that fills the gap are in it
    pub filling_in_gap : (t root : Tree K (List ℕ)) → Fills cmp g t root → AllByRecursion (λ p. IsInGap cmp p.0 g) (pairs t)
    filling_in_gap t root f = subst (AllByRecursion (λ p. IsInGap cmp p.0 g)) f.all (each_within cmp g (pairs root))

    same_node : (t u : Tree K (List ℕ)) → SamePages cmp t u → HasNode t → HasNode u
    same_node (page l c (high h)) u s n = absurd n
    same_node (page l c (node h k d r)) (page l' c' (high h')) s n = absurd s.2
    same_node (page l c (node h k d r)) (page l' c' (node h' k' d' r')) s n = tt

    -- a page that fills the gap in one tree of a map is the same as one that fills it in another
    pub fills-same : (t root tree : Tree K (List ℕ)) → IsMap cmp (pairs root) → SamePages cmp root tree → Fills cmp g t root → (u : Tree K (List ℕ)) × Fills cmp g u tree × SamePages cmp t u
    fills-same t root tree up same f = by (page_over cmp g tree) refl (subst (λ x. SameFound cmp o x (page_over cmp g tree)) (filled_opens cmp o g t root up f) (over-same cmp o g root tree same))
      where
        whole : (u : Tree K (List ℕ)) → IsPageIn u tree → SamePages cmp t u → pairs_within cmp g (pairs tree) ≡ pairs u
        whole u i s =
            let (pre, post, c) = inside (context_down (pairs tree)) u tree ([], [], sym (append-nil (pairs tree))) i in
            let within = pairs_within cmp g in
            let alike = same-pairs cmp t u s in
            let own : within (pairs u) ≡ pairs u =
            all_pass (λ k. is_in_gap cmp k g) (pairs u)
            (each-with (λ p. IsInGap cmp p.0 g) (λ p. is_in_gap cmp p.0 g ≡ true) (pairs u) (λ p j. test_from_in_gap cmp p.0 g j)
            (in_gap_each (pairs t) (pairs u) alike (filling_in_gap t root f))) in
            let split : within (pairs tree) ≡ within pre ++ (pairs u ++ within post) =
            ap within c ∙ within-append cmp g pre (pairs u ++ post) ∙ ap (λ w. within pre ++ w) (within-append cmp g (pairs u) post ∙ ap (λ w. w ++ within post) own) in
            let count : length (within (pairs tree)) ≡ length (pairs u) =
            sym (within_length (pairs root) (pairs tree) (same-pairs cmp root tree same)) ∙ ap length f.all ∙ same_length (pairs t) (pairs u) alike in
            split ∙ only_second (within pre) (pairs u) (within post) (sym (ap length split) ∙ count)

        by : (found : Option (Tree K (List ℕ))) → page_over cmp g tree ≡ found → SameFound cmp o (Some t) found → (u : Tree K (List ℕ)) × Fills cmp g u tree × SamePages cmp t u
        by None e s = absurd s
        by (Some u) e s = let i = (over_inside cmp g tree u e).0 in (u, record { inside = i; some = same_node t u s f.some; all = whole u i s }, s)

  pub same_level : (t u : Tree K (List ℕ)) → SamePages cmp t u → level t ≡ level u
  same_level (page l c r) (page l' c' r') s = s.0

  -- a page that fills a gap fills one with equal bounds
  pub fills-alike : (g h : Gap K) (t root : Tree K (List ℕ)) → SameGap cmp g h → Fills cmp g t root → Fills cmp h t root
  fills-alike g h t root s f = record { inside = f.inside; some = f.some; all = sym within_alike ∙ f.all }
    where
      within_alike : pairs_within cmp g (pairs root) ≡ pairs_within cmp h (pairs root)
      within_alike = λ i. rows_at (λ k. ap₂ (λ a b. a && b) (is_after-alike cmp o g.after h.after s.0 k) (is_before-alike cmp o g.before h.before s.1 k) i) (pairs root)

module _ {K V H : Type 0} (laws : Laws K V H) (o : IsTotalOrder laws.cmp) (local : Side K V H) (format : PageFormat) (tree : Tree K (List ℕ)) where
  -- a page of the tree fills the gap, on a level below n
  abbrev pub IsBelow : ℕ → Gap K → Type 0
  IsBelow n g = (t : Tree K (List ℕ)) × Fills laws.cmp g t tree × (level t < n)

  abbrev Items : ℕ → Gap K → Row K (List ℕ) → Type 0
  Items n g r = AllByRecursion (IsItemOf format laws.bytes_of laws.cmp tree n) (items_in laws.cmp o format laws.bytes_of g r)

  new_filled : (n : ℕ) (g h : Gap K) (digest : List ℕ) (new : List (Gap K)) → IsItemOf format laws.bytes_of laws.cmp tree n (of_page g digest) → SameGap laws.cmp g h
      → IsNewGap laws local h (Some digest) new
      → AllByRecursion (IsBelow n) new
  new_filled n g h digest new (t, f, low, is) same a = by new (gap_or_none laws local h digest new a)
    where
      by : (new : List (Gap K)) → IsGapOrNone laws local h new → AllByRecursion (IsBelow n) new
      by [] one = tt
      by (own ∷ []) one = ((t, fills-alike laws.cmp o g own t tree (same_gap-trans laws.cmp o g h own same one) f, low), tt)
      by (own ∷ other ∷ others) one = absurd one

  -- the pages of a row fill the parts of a gap that keys equal to its own make of it
  row_filled : (n : ℕ) (g h : Gap K) (r : Row K (List ℕ)) (ks : List K) (new : List (Gap K)) → Items n g r → SameGap laws.cmp g h
      → SameKeys laws.cmp (keys_among (nodes_in laws.cmp o format laws.bytes_of g r)) ks
      → AreNewGaps laws local h ks (pages_beside None (items_in laws.cmp o format laws.bytes_of g r)) new → AllByRecursion (IsBelow n) new
  row_filled n g h (high q) (x ∷ ks) new v s k a = absurd (none q k)
    where
      none : (q : Held K (List ℕ)) → SameKeys laws.cmp (keys_among (nodes_in laws.cmp o format laws.bytes_of g (high q))) (x ∷ ks) → ⊥
      none nothing k = k
      none (below t) k = k
  row_filled n g h (high nothing) [] new v s k a = subst (AllByRecursion (IsBelow n)) (sym a) tt
  row_filled n g h (high (below t)) [] new v s k a = new_filled n g h (page_digest format laws.bytes_of t) new v.0 s a
  row_filled n g h (node nothing j c r) [] new v s k a = absurd k
  row_filled n g h (node (below t) j c r) [] new v s k a = absurd k
  row_filled n g h (node nothing j c r) (x ∷ ks) new v s k (first, rest, one, more, e) =
      subst (AllByRecursion (IsBelow n)) (sym e)
      (each-append (IsBelow n) first rest (subst (AllByRecursion (IsBelow n)) (sym one) tt) (row_filled n (part_behind g j) (part_behind h x) r ks rest v.1 (k.0, s.1) k.1 more))
  row_filled n g h (node (below t) j c r) (x ∷ ks) new v s k (first, rest, one, more, e) =
      subst (AllByRecursion (IsBelow n)) (sym e)
      (each-append (IsBelow n) first rest (new_filled n (part_before g j) (part_before h x) (page_digest format laws.bytes_of t) first v.0 (s.0, k.0) one)
      (row_filled n (part_behind g j) (part_behind h x) r ks rest v.1.1 (k.0, s.1) k.1 more))

  -- the pages right below one that fills a gap fill its parts, on lower levels
  pub parts_filled : IsMap laws.cmp (pairs tree) → (lev : K → ℕ) → IsCanonicalRoot lev tree → (g h : Gap K) (u : Tree K (List ℕ)) (ks : List K) (new : List (Gap K))
      → Fills laws.cmp g u tree → SameGap laws.cmp g h
      → SameKeys laws.cmp (keys_among (nodes_among (outline_over format laws.bytes_of laws.cmp tree g))) ks
      → AreNewGaps laws local h ks (pages_beside None (outline_over format laws.bytes_of laws.cmp tree g)) new
      → AllByRecursion (IsBelow (level u)) new
  parts_filled up lev canonical g h (page l c r) ks new f s k a =
      let is = ap (outline_where format laws.bytes_of g) (filled_opens laws.cmp o g (page l c r) tree up f) in
      row_filled l g h r ks new (outline_down laws.cmp o format laws.bytes_of tree up lev canonical (page l c r) g f).0 s
      (subst (λ xs. SameKeys laws.cmp (keys_among (nodes_among xs)) ks) is k) (subst (λ xs. AreNewGaps laws local h ks (pages_beside None xs) new) is a)
