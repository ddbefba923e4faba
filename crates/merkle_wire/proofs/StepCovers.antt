-- What is taken of a reply, and what is asked again, cover the keys that were asked about, while digests are faithful.
use Rattle.std.proofs.Common.{◌≡◌, ℕ, Bool, true, false, List, [], ◌∷◌, ◌++◌, map, Option, Some, None, refl, sym, ap, subst, ◌∙◌, ◌⊎◌, inl, inr}
use Rattle.std.specs.List.{AllByRecursion, flat_map, AllZip}
use Rattle.std.specs.Cmp.{IsTotalOrder, IsEquivalence, tied_itself, tied_back}
use Rattle.std.specs.Ordering.{is_eq}
use Rattle.std.specs.declared.cmp.Ordering.{Ordering}
use Rattle.key_order.specs.Map.{IsMap, get, last_key}
use Rattle.key_order.specs.Order.{AnyByRecursion, Below, Same}
use Rattle.key_order.proofs.ListParts.{each-append, each-before, each-behind}
use Rattle.key_order.proofs.Bools.{which, is_equal}
use Rattle.key_order.proofs.Maps.{get_same, at_head, past_head}
use Rattle.key_order.proofs.Orders.{up_low, low_up, same_up, same_down}
use Rattle.merkle_digest.specs.Level.{level_of}
use Rattle.merkle_diff.proofs.Each.{each-with, any-split}
use Rattle.merkle_replica.specs.CatchUp.{IsLacked}
use Rattle.merkle_replica.specs.Contents.{Side}
use Rattle.merkle_replica.specs.Laws.{Laws}
use Rattle.merkle_replica.proofs.Rounds.{any-append}
use Rattle.merkle_replica.proofs.Seeks.{map_at}
use Rattle.merkle_tree_theory.specs.Gap.{Gap, IsInGap, SameGap, everywhere, part_behind, is_in_gap, pairs_within}
use Rattle.merkle_tree_theory.specs.Outline.{outline_over, whole_item}
use Rattle.merkle_tree_theory.specs.Canonical.{IsCanonicalRoot}
use Rattle.merkle_tree_theory.specs.Page.{pairs}
use Rattle.merkle_tree_theory.specs.Ranges.{IsPageIn}
use Rattle.merkle_tree_theory.specs.Tree.{Tree, page, high, node, nothing, below}
use Rattle.merkle_tree_theory.proofs.InGaps.{get_within}
use Rattle.merkle_tree_theory.proofs.PagesIn.{itself}
use Rattle.merkle_wire.specs.Underway.{Found}
use Rattle.merkle_wire.specs.Gaps.{owned_gap}
use Rattle.merkle_wire.specs.Outlines.{Outline, IsTold}
use Rattle.merkle_wire.specs.Replies.{Part, IsPartOf, whole_digest}
use Rattle.merkle_wire.specs.Sessions.{IsFaithfulSession, IsNewRow}
use Rattle.merkle_wire.specs.Taking.{IsRootTaken, AreTaken, value_row, IsBehind, AreBehind}
use Rattle.merkle_wire.specs.declared.gaps.OwnedGap.{OwnedGap}
use Rattle.merkle_wire.specs.declared.wanted.Wanted.{Wanted}
use Rattle.merkle_wire.proofs.RoundCovers.{each-filter, theirs_alike, any_alike, has_row_there}
use Rattle.merkle_wire.proofs.PageCovers.{AreSides, among-more, IsAbout, one_covers, one_keeps, one_new, none_hidden, at_tree}
use Rattle.merkle_wire.proofs.PagesBelow.{in_gap-alike, get_behind}
use Rattle.merkle_wire.proofs.TellingReplies.{SameRow, SameOutline, SamePart, SameFound}
use Rattle.merkle_wire.proofs.Covering.{IsAmong, IsRowOfPeer}

module _ {K V : Type 0} (cmp : K → K → Ordering) (o : IsTotalOrder cmp) where
  -- a map finds each of its pairs
  pub finds_own : (m : List (K × V)) → IsMap cmp m → AllByRecursion (λ r. get cmp m r.0 ≡ Some r.1) m
  finds_own [] a = tt
  finds_own (r ∷ rs) a = (
    at_head cmp o r rs r.0 (tied_itself o r.0),
    each-with (λ p. get cmp rs p.0 ≡ Some p.1) (λ p. get cmp (r ∷ rs) p.0 ≡ Some p.1) rs
        (λ p e. get_behind cmp o (r ∷ []) rs p.0 p.1 a e) (finds_own rs a.1),
  )

  -- a key that a map has is one of its keys
  pub is_key : (m : List (K × V)) (k : K) (v : V) → get cmp m k ≡ Some v → AnyByRecursion (λ r. Same cmp k r.0) m
  is_key [] k v e = absurd (cc)
  is_key (r ∷ rs) k v e = go (which (is_eq (cmp r.0 k))) (is_key rs k v)
    where
      go : (is_eq (cmp r.0 k) ≡ false) ⊎ (is_eq (cmp r.0 k) ≡ true) → (get cmp rs k ≡ Some v → AnyByRecursion (λ p. Same cmp k p.0) rs) → AnyByRecursion (λ p. Same cmp k p.0) (r ∷ rs)
      go (inl n) more = inr (more (sym (past_head cmp o r rs k n) ∙ e))
      go (inr n) more = inl (tied_back o r.0 k (is_equal (cmp r.0 k) n))

module _ {K V H : Type 0} (laws : Laws K V H) (o : IsTotalOrder laws.cmp) (eqv : IsEquivalence laws.eq) (local peer : Side K V H) (root tree : Tree K (List ℕ))
    (sides : AreSides laws local peer root tree) where
  abbrev Lacked : K → Type 0
  Lacked = IsLacked laws local peer

  abbrev Theirs : K × V → Type 0
  Theirs = IsRowOfPeer laws local peer

  abbrev New : K × V → Type 0
  New = IsNewRow laws local peer

  abbrev Among : K → Found K V → Type 0
  Among = IsAmong laws peer root

  -- outlines
  module _ (E : OwnedGap K → OwnedGap K → Type 0) (same_gap : (g h : OwnedGap K) → E g h → SameGap laws.cmp (owned_gap g) (owned_gap h)) (with_pages : Bool) where
    abbrev pub SameTold : OwnedGap K × Outline K V → OwnedGap K × Outline K V → Type 0
    SameTold t u = E t.0 u.0 × SameOutline laws.cmp laws.eq t.1 u.1

    abbrev pub IsToldOf : OwnedGap K × Outline K V → Type 0
    IsToldOf u = IsTold laws.cmp peer.rows with_pages (outline_over peer.format laws.bytes_of laws.cmp tree (owned_gap u.0)) u.1

    all_keep : (ts : List (OwnedGap K × Outline K V)) (before after : Found K V) (k : K) → AreTaken laws local ts before after → Among k before → Among k after
    all_keep [] before after k taken i = subst (Among k) (sym taken) i
    all_keep (t ∷ ts) before after k (mid, one, more) i = all_keep ts mid after k more (one_keeps laws o eqv local peer root tree sides (owned_gap t.0) t.1 before mid k one i)

    pub outlines_keep : (ts : List (OwnedGap K × Outline K V)) (before after : Found K V) (k : K) → AreTaken laws local ts before after → Among k before → Among k after
    outlines_keep = all_keep

    pub outlines_new : (ts us : List (OwnedGap K × Outline K V)) (before after : Found K V) → AllZip SameTold ts us → AllByRecursion IsToldOf us
        → AreTaken laws local ts before after → AllByRecursion New before.rows → AllByRecursion New after.rows
    outlines_new [] [] before after s told taken a = subst (λ f. AllByRecursion New f.rows) (sym taken) a
    outlines_new [] (u ∷ us) before after s told taken a = absurd s
    outlines_new (t ∷ ts) [] before after s told taken a = absurd s
    outlines_new (t ∷ ts) (u ∷ us) before after s told (mid, one, more) a =
        outlines_new ts us mid after s.1 told.1 more (one_new laws o eqv local peer root tree sides with_pages (owned_gap t.0) (owned_gap u.0) t.1 u.1 before mid s.0.1 told.0 one a)

    pub outlines_cover : IsFaithfulSession laws local peer → (ts us : List (OwnedGap K × Outline K V)) (before after : Found K V) (k : K) → Lacked k
        → AllZip SameTold ts us → AllByRecursion IsToldOf us → AreTaken laws local ts before after
        → AnyByRecursion (λ g. IsAbout laws o eqv local peer root tree sides with_pages k (owned_gap g)) (map (λ t. t.0) ts) → Among k after
    outlines_cover faith [] us before after k l s told taken i = absurd i
    outlines_cover faith (t ∷ ts) [] before after k l s told taken i = absurd s
    outlines_cover faith (t ∷ ts) (u ∷ us) before after k l s told (mid, one, more) (inl i) =
        all_keep ts mid after k more (one_covers laws o eqv local peer root tree sides faith with_pages (owned_gap t.0) (owned_gap u.0) t.1 u.1 before mid k l
        (same_gap t.0 u.0 s.0.0) s.0.1 i told.0 one)
    outlines_cover faith (t ∷ ts) (u ∷ us) before after k l s told (mid, one, more) (inr i) = outlines_cover faith ts us mid after k l s.1 told.1 more i

  -- rows that are added
  pub rows_keep : (before after : Found K V) (rows : List (K × V)) (k : K) → after ≡ record before { rows = before.rows ++ rows } → Among k before → Among k after
  rows_keep before after rows k e i = subst (Among k) (sym e) (go i)
    where
      go : Among k before → Among k (record before { rows = before.rows ++ rows })
      go (inl a) = inl a
      go (inr (inl a)) = inr (inl a)
      go (inr (inr (inl a))) = inr (inr (inl a))
      go (inr (inr (inr (inl a)))) = inr (inr (inr (inl a)))
      go (inr (inr (inr (inr a)))) = inr (inr (inr (inr (any-append (λ r. Same laws.cmp k r.0) before.rows rows (inl a)))))

  pub rows_among : (before after : Found K V) (rows : List (K × V)) (k : K) → after ≡ record before { rows = before.rows ++ rows } → AnyByRecursion (λ r. Same laws.cmp k r.0) rows → Among k after
  rows_among before after rows k e i = subst (Among k) (sym e) (inr (inr (inr (inr (any-append (λ r. Same laws.cmp k r.0) before.rows rows (inr i))))))

  -- values at keys
  module _ (E : Wanted K → Wanted K → Type 0) (same_key : (w x : Wanted K) → E w x → Same laws.cmp w.key x.key) where
    abbrev pub SameValueAt : Wanted K × Option V → Wanted K × Option V → Type 0
    SameValueAt t u = E t.0 u.0 × SameFound laws.cmp laws.eq t.1 u.1

    abbrev pub IsValueAt : Wanted K × Option V → Type 0
    IsValueAt u = u.1 ≡ get laws.cmp peer.rows u.0.key

    one_row_theirs : (t u : Wanted K × Option V) → SameValueAt t u → IsValueAt u → AllByRecursion Theirs (value_row t)
    one_row_theirs (w, None) (x, y) s is = tt
    one_row_theirs (w, Some v) (x, None) s is = absurd s.1
    one_row_theirs (w, Some v) (x, Some y) s is = ((y, get_same laws.cmp o peer.rows w.key x.key (same_key w x s.0) ∙ sym is, s.1), tt)

    pub values_theirs : (ts us : List (Wanted K × Option V)) → AllZip SameValueAt ts us → AllByRecursion IsValueAt us → AllByRecursion Theirs (flat_map value_row ts)
    values_theirs [] us s a = tt
    values_theirs (t ∷ ts) [] s a = absurd s
    values_theirs (t ∷ ts) (u ∷ us) s a = each-append Theirs (value_row t) (flat_map value_row ts) (one_row_theirs t u s.0 a.0) (values_theirs ts us s.1 a.1)

    one_row_covers : (t u : Wanted K × Option V) (k : K) → Lacked k → SameValueAt t u → IsValueAt u → Same laws.cmp k t.0.key → AnyByRecursion (λ r. Same laws.cmp k r.0) (value_row t)
    one_row_covers (w, Some v) u k l s is i = inl i
    one_row_covers (w, None) (x, Some y) k l s is i = absurd s.1
    one_row_covers (w, None) (x, None) k l s is i =
        absurd (has_row_there laws o eqv local peer k l (get_same laws.cmp o peer.rows k w.key i ∙ get_same laws.cmp o peer.rows w.key x.key (same_key w x s.0) ∙ sym is))

    pub values_cover : (ts us : List (Wanted K × Option V)) (k : K) → Lacked k → AllZip SameValueAt ts us → AllByRecursion IsValueAt us
        → AnyByRecursion (λ w. Same laws.cmp k w.key) (map (λ t. t.0) ts)
        → AnyByRecursion (λ r. Same laws.cmp k r.0) (flat_map value_row ts)
    values_cover [] us k l s a i = absurd i
    values_cover (t ∷ ts) [] k l s a i = absurd s
    values_cover (t ∷ ts) (u ∷ us) k l s a (inl i) = any-append (λ r. Same laws.cmp k r.0) (value_row t) (flat_map value_row ts) (inl (one_row_covers t u k l s.0 a.0 i))
    values_cover (t ∷ ts) (u ∷ us) k l s a (inr i) = any-append (λ r. Same laws.cmp k r.0) (value_row t) (flat_map value_row ts) (inr (values_cover ts us k l s.1 a.1 i))

  -- parts of the rows in gaps
  module _ (E : OwnedGap K → OwnedGap K → Type 0) (same_gap : (g h : OwnedGap K) → E g h → SameGap laws.cmp (owned_gap g) (owned_gap h)) where
    abbrev pub SamePartOf : OwnedGap K × Part K V → OwnedGap K × Part K V → Type 0
    SamePartOf t u = E t.0 u.0 × SamePart laws.cmp laws.eq t.1 u.1

    abbrev pub IsPart : OwnedGap K × Part K V → Type 0
    IsPart u = IsPartOf laws.cmp peer.rows u.0 u.1

    within_theirs : (g : Gap K) → AllByRecursion Theirs (pairs_within laws.cmp g peer.rows)
    within_theirs g =
        each-filter Theirs (λ r. is_in_gap laws.cmp r.0 g) peer.rows
        (each-with (λ r. get laws.cmp peer.rows r.0 ≡ Some r.1) Theirs peer.rows (λ r e. (r.1, e, eqv.refl r.1)) (finds_own laws.cmp o peer.rows sides.up_peer))

    pub parts_theirs : (ts us : List (OwnedGap K × Part K V)) → AllZip SamePartOf ts us → AllByRecursion IsPart us → AllByRecursion Theirs (flat_map (λ t. t.1.rows) ts)
    parts_theirs [] us s a = tt
    parts_theirs (t ∷ ts) [] s a = absurd s
    parts_theirs (t ∷ ts) (u ∷ us) s ((more, is, whole, some), a) =
        each-append Theirs t.1.rows (flat_map (λ x. x.1.rows) ts)
        (theirs_alike laws o eqv local peer t.1.rows u.1.rows s.0.1.0 (each-before Theirs u.1.rows more (subst (AllByRecursion Theirs) is (within_theirs (owned_gap u.0)))))
        (parts_theirs ts us s.1 a)

    row_at : (k : K) → Lacked k → (v : V) × (get laws.cmp peer.rows k ≡ Some v)
    row_at k l = by (get laws.cmp peer.rows k) refl
      where
        by : (x : Option V) → get laws.cmp peer.rows k ≡ x → (v : V) × (get laws.cmp peer.rows k ≡ Some v)
        by None e = absurd (has_row_there laws o eqv local peer k l e)
        by (Some v) e = (v, e)

    -- the last of rows is below what equal rows are below
    last_low : (r : K × V) (rs ss : List (K × V)) (k : K) → AllZip (SameRow laws.cmp laws.eq) (r ∷ rs) ss → AllByRecursion (λ s. Below laws.cmp s.0 k) ss → Below laws.cmp (last_key r.0 rs) k
    last_low r rs [] k s a = absurd s
    last_low r [] (x ∷ ss) k s a = up_low laws.cmp o r.0 x.0 k (same_up laws.cmp o r.0 x.0 s.0.0) a.0
    last_low r (q ∷ rs) (x ∷ ss) k s a = last_low q rs ss k s.1 a.1

    -- the pairs of a map before a key are below it
    before_low : (ps qs : List (K × V)) (k : K) → IsMap laws.cmp (ps ++ qs) → AnyByRecursion (λ r. Same laws.cmp k r.0) qs → AllByRecursion (λ r. Below laws.cmp r.0 k) ps
    before_low [] qs k m i = tt
    before_low (p ∷ ps) qs k m i = (low qs (each-behind (λ r. Below laws.cmp p.0 r.0) ps qs m.0) i, before_low ps qs k m.1 i)
      where
        low : (qs : List (K × V)) → AllByRecursion (λ r. Below laws.cmp p.0 r.0) qs → AnyByRecursion (λ r. Same laws.cmp k r.0) qs → Below laws.cmp p.0 k
        low [] a i = absurd i
        low (q ∷ qs) a (inl s) = low_up laws.cmp o p.0 q.0 k a.0 (same_down laws.cmp o k q.0 s)
        low (q ∷ qs) a (inr i) = low qs a.1 i

    one_part_covers : (t u : OwnedGap K × Part K V) (left : List (OwnedGap K)) (k : K) → Lacked k → SamePartOf t u → IsPart u → IsBehind laws.cmp (owned_gap t.0) t.1 left
        → IsInGap laws.cmp k (owned_gap t.0)
        → AnyByRecursion (λ r. Same laws.cmp k r.0) t.1.rows ⊎ AnyByRecursion (λ g. IsInGap laws.cmp k (owned_gap g)) left
    one_part_covers t u left k l s (more, is, whole, some) behind i =
        let (v, there) = row_at k l in
        let g = owned_gap u.0 in
        let found = is_key laws.cmp o (pairs_within laws.cmp g peer.rows) k v (get_within laws.cmp o g peer.rows k v (in_gap-alike laws.cmp o (owned_gap t.0) g k (same_gap t.0 u.0 s.0) i) there) in
        go (any-split (λ r. Same laws.cmp k r.0) u.1.rows more (subst (AnyByRecursion (λ r. Same laws.cmp k r.0)) is found)) behind
      where
        go : AnyByRecursion (λ r. Same laws.cmp k r.0) u.1.rows ⊎ AnyByRecursion (λ r. Same laws.cmp k r.0) more → IsBehind laws.cmp (owned_gap t.0) t.1 left
            → AnyByRecursion (λ r. Same laws.cmp k r.0) t.1.rows ⊎ AnyByRecursion (λ g. IsInGap laws.cmp k (owned_gap g)) left
        go (inl a) b = inl (any_alike laws o eqv local peer t.1.rows u.1.rows k s.1.0 a)
        go (inr a) (inl (all, none)) = absurd (subst (AnyByRecursion (λ r. Same laws.cmp k r.0)) (whole (sym s.1.1 ∙ all)) a)
        go (inr a) (inr (row, rows, own, part, e, same, is_own)) =
            let ascends : IsMap laws.cmp (u.1.rows ++ more) = subst (IsMap laws.cmp) is (map_at laws.cmp o (λ j. is_in_gap laws.cmp j (owned_gap u.0)) peer.rows sides.up_peer) in
            let low = last_low row rows u.1.rows k (subst (λ xs. AllZip (SameRow laws.cmp laws.eq) xs u.1.rows) e s.1.0) (before_low u.1.rows more k ascends a) in
            inr (subst (AnyByRecursion (λ g. IsInGap laws.cmp k (owned_gap g))) (sym is_own)
            (inl (in_gap-alike laws.cmp o (part_behind (owned_gap t.0) (last_key row.0 rows)) (owned_gap own) k same (low, i.1))))

    pub parts_cover : (ts us : List (OwnedGap K × Part K V)) (left : List (OwnedGap K)) (k : K) → Lacked k → AllZip SamePartOf ts us → AllByRecursion IsPart us → AreBehind laws.cmp ts left
        → AnyByRecursion (λ g. IsInGap laws.cmp k (owned_gap g)) (map (λ t. t.0) ts) → AnyByRecursion (λ r. Same laws.cmp k r.0) (flat_map (λ t. t.1.rows) ts)
        ⊎ AnyByRecursion (λ g. IsInGap laws.cmp k (owned_gap g)) left
    parts_cover [] us left k l s a behind i = absurd i
    parts_cover (t ∷ ts) [] left k l s a behind i = absurd s
    parts_cover (t ∷ ts) (u ∷ us) left k l s a (first, rest, one, others, e) (inl i) = go (one_part_covers t u first k l s.0 a.0 one i)
      where
        go : AnyByRecursion (λ r. Same laws.cmp k r.0) t.1.rows ⊎ AnyByRecursion (λ g. IsInGap laws.cmp k (owned_gap g)) first
            → AnyByRecursion (λ r. Same laws.cmp k r.0) (flat_map (λ x. x.1.rows) (t ∷ ts)) ⊎ AnyByRecursion (λ g. IsInGap laws.cmp k (owned_gap g)) left
        go (inl b) = inl (any-append (λ r. Same laws.cmp k r.0) t.1.rows (flat_map (λ x. x.1.rows) ts) (inl b))
        go (inr b) = inr (subst (AnyByRecursion (λ g. IsInGap laws.cmp k (owned_gap g))) (sym e) (any-append (λ g. IsInGap laws.cmp k (owned_gap g)) first rest (inl b)))
    parts_cover (t ∷ ts) (u ∷ us) left k l s a (first, rest, one, others, e) (inr i) = go (parts_cover ts us rest k l s.1 a.1 others i)
      where
        go : AnyByRecursion (λ r. Same laws.cmp k r.0) (flat_map (λ x. x.1.rows) ts) ⊎ AnyByRecursion (λ g. IsInGap laws.cmp k (owned_gap g)) rest
            → AnyByRecursion (λ r. Same laws.cmp k r.0) (flat_map (λ x. x.1.rows) (t ∷ ts)) ⊎ AnyByRecursion (λ g. IsInGap laws.cmp k (owned_gap g)) left
        go (inl b) = inl (any-append (λ r. Same laws.cmp k r.0) t.1.rows (flat_map (λ x. x.1.rows) ts) (inr b))
        go (inr b) = inr (subst (AnyByRecursion (λ g. IsInGap laws.cmp k (owned_gap g))) (sym e) (any-append (λ g. IsInGap laws.cmp k (owned_gap g)) first rest (inr b)))

  -- the root page
  pub root_covers : IsFaithfulSession laws local peer → (before after : Found K V) (k : K) → Lacked k
      → IsRootTaken laws local (whole_digest (whole_item peer.format laws.bytes_of tree)) before after → Among k after
  root_covers faith before after k (d, there, lacks) = by tree refl
    where
      by : (t : Tree K (List ℕ)) → t ≡ tree → IsRootTaken laws local (whole_digest (whole_item peer.format laws.bytes_of t)) before after → Among k after
      by (page l c (high nothing)) e taken =
          let never : None ≡ Some d = ap (λ (u : Tree K (List ℕ)). get laws.cmp (pairs u) k) e ∙ at_tree laws o eqv local peer root tree sides k ∙ there in
          absurd (cc)
      by (page l c (high (below t))) e taken = absurd (subst (λ (u : Tree K (List ℕ)). IsCanonicalRoot (λ j. level_of (laws.key_digest peer.hasher j) peer.base) u) (sym e) sides.is_tree.0)
      by (page l c (node h j x r)) e (inl (own, taken)) =
          let t = page l c (node h j x r) in
          absurd (none_hidden laws o eqv local peer root tree sides faith.faithful.same_pages k (d, there, lacks) t (subst (IsPageIn t) e (itself t)) own d
          (ap (λ (u : Tree K (List ℕ)). get laws.cmp (pairs u) k) e ∙ at_tree laws o eqv local peer root tree sides k ∙ there))
      by (page l c (node h j x r)) e (inr (lacks, inl taken)) = subst (Among k) (sym taken)
          (inr (inr (inr (inl (any-append (IsInGap laws.cmp k) before.whole (everywhere ∷ []) (inr (inl (tt, tt))))))))
      by (page l c (node h j x r)) e (inr (lacks, inr taken)) = subst (Among k) (sym taken) (inl (any-append (IsInGap laws.cmp k) before.below (everywhere ∷ []) (inr (inl (tt, tt)))))

  -- what was found before still is, and the rows stay
  pub root_takes : (digest : Option (List ℕ)) (before after : Found K V) → IsRootTaken laws local digest before after
      → ((k : K) → Among k before → Among k after) × (after.rows ≡ before.rows)
  root_takes None before after taken = ((λ k a. subst (Among k) (sym taken) a), ap (λ f. f.rows) taken)
  root_takes (Some d) before after (inl (own, taken)) = ((λ k a. subst (Among k) (sym taken) a), ap (λ f. f.rows) taken)
  root_takes (Some d) before after (inr (lacks, inl taken)) = (
    (λ k a. subst (Among k) (sym taken) (among-more laws o local peer root tree k before (record before { whole = before.whole ++ everywhere ∷ [] }) (λ b. b) (λ b. b)
        (λ b. b) (λ b. any-append (IsInGap laws.cmp k) before.whole (everywhere ∷ []) (inl b)) (λ b. b) a)),
    ap (λ f. f.rows) taken,
  )
  root_takes (Some d) before after (inr (lacks, inr taken)) = (
    (λ k a. subst (Among k) (sym taken) (among-more laws o local peer root tree k before (record before { below = before.below ++ everywhere ∷ [] })
        (λ b. any-append (IsInGap laws.cmp k) before.below (everywhere ∷ []) (inl b)) (λ b. b) (λ b. b) (λ b. b) (λ b. b) a)),
    ap (λ f. f.rows) taken,
  )
