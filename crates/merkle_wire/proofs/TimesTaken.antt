-- What is taken of a reply: a key is found as often as it was asked about, at most.
use Rattle.std.proofs.Common.{◌≡◌, ℕ, ◌+◌, ◌≤◌, Bool, true, false, not, List, [], ◌∷◌, map, flat_map, Option, Some, None, refl, sym, ap, subst, inl, inr, arith, ◌++◌}
use Rattle.std.specs.List.{AllByRecursion, filter, AllZip}
use Rattle.std.specs.Cmp.{IsTotalOrder}
use Rattle.key_order.specs.Map.{SameMap, last_key}
use Rattle.key_order.proofs.SameKeys.{SameKeys}
use Rattle.merkle_replica.specs.Contents.{Side}
use Rattle.merkle_replica.specs.Laws.{Laws}
use Rattle.merkle_search_tree.proofs.SameItems.{same_gap-back, same_gap-trans}
use Rattle.merkle_tree_theory.specs.Canonical.{SamePages}
use Rattle.merkle_tree_theory.specs.Gap.{Gap, SameGap, everywhere, part_behind}
use Rattle.merkle_tree_theory.specs.Outline.{outline_over}
use Rattle.merkle_tree_theory.specs.Tree.{Tree}
use Rattle.merkle_wire.specs.Coming.{AscendIn, LiesIn}
use Rattle.merkle_wire.specs.Underway.{Found}
use Rattle.merkle_wire.specs.Gaps.{owned_gap}
use Rattle.merkle_wire.specs.Outlines.{Outline, rows_told, digests_told, page_told, IsTold, keys_among, nodes_among, AreRowsAt}
use Rattle.merkle_wire.specs.Replies.{Part}
use Rattle.merkle_wire.specs.Taking.{AddsRows, AreBehind, AreTaken, IsBehind, IsRootTaken, IsPageTaken, has_digest, new_keys, value_row}
use Rattle.merkle_wire.specs.declared.gaps.OwnedGap.{OwnedGap}
use Rattle.merkle_wire.specs.declared.wanted.Wanted.{Wanted}
use Rattle.merkle_wire.proofs.SameNodes.{keys_over-same}
use Rattle.merkle_wire.proofs.TakenGaps.{IsGapOrNone, nodes_or_none}
use Rattle.merkle_wire.proofs.TellingReplies.{SameOutline, SameRow}
use Rattle.merkle_wire.proofs.Times.{ascend_and_behind, ascend_times, at-same, in-alike, new_gaps_times, total-append, total-filter, total-mapped, total-same}
use Rattle.merkle_wire.proofs.Steady.{times_at, times_found, times_in, times_over, total}
use Rattle.merkle_wire.proofs.Lacking.{has_row, new_rows}

module _ {K V H : Type 0} (laws : Laws K V H) (o : IsTotalOrder laws.cmp) (local peer : Side K V H) (root tree : Tree K (List ℕ)) (pages_same : SamePages laws.cmp root tree) (n : ℕ) (k : K) where
  abbrev at : K → ℕ
  at = times_at laws.cmp k

  abbrev at_row : K × V → ℕ
  at_row r = at r.0

  abbrev inside : Gap K → ℕ
  inside = times_in laws.cmp k

  abbrev found : Found K V → ℕ
  found = times_found laws peer root k

  abbrev keys_of : Gap K → List K
  keys_of g = keys_among (nodes_among (outline_over peer.format laws.bytes_of laws.cmp tree g))

  -- how often a question about the page over a gap is about the key, with the pages below it or alone
  abbrev pub times_about : Bool → Gap K → ℕ
  times_about true g = inside g
  times_about false g = times_over laws peer root k g

  same_rows_times : (rs ss : List (K × V)) → AllZip (SameRow laws.cmp laws.eq) rs ss → total at_row rs ≡ total at_row ss
  same_rows_times [] [] s = refl
  same_rows_times [] (y ∷ ss) s = absurd s
  same_rows_times (r ∷ rs) [] s = absurd s
  same_rows_times (r ∷ rs) (y ∷ ss) s = omega (arith, at-same laws.cmp o k r.0 y.0 s.0.0, same_rows_times rs ss s.1)

  rows_at_times : (ks : List K) (rows : List (K × V)) → AreRowsAt laws.cmp peer.rows ks rows → total at_row rows ≤ total at ks
  rows_at_times [] rows none = subst (λ rs. total at_row rs ≤ 0) (sym none) (omega arith)
  rows_at_times (j ∷ ks) rows (inl (none, more)) = omega (arith, rows_at_times ks rows more)
  rows_at_times (j ∷ ks) rows (inr (row, rest, same, there, more, e)) =
      subst (λ rs. total at_row rs ≤ total at (j ∷ ks)) (sym e) (omega (arith, at-same laws.cmp o k row.0 j same, rows_at_times ks rest more))

  nodes_times : (ns ms : List (K × List ℕ)) → SameMap laws.cmp (λ d e. d ≡ e) ns ms → total at (keys_among ns) ≡ total at (keys_among ms)
  nodes_times [] [] s = refl
  nodes_times [] (m ∷ ms) s = absurd s
  nodes_times (n' ∷ ns) [] s = absurd s
  nodes_times (n' ∷ ns) (m ∷ ms) s = omega (arith, at-same laws.cmp o k n'.0 m.0 s.0, nodes_times ns ms s.2)

  over_times : (g h : Gap K) → SameGap laws.cmp g h → times_over laws peer root k g ≡ total at (keys_of h)
  over_times g h s = total-same laws.cmp o k _ (keys_of h) (keys_over-same laws.cmp o peer.format laws.bytes_of root tree g h pages_same s)

  -- what is added to what was found
  pub rows_added : (before after : Found K V) (rows : List (K × V)) → AddsRows laws local rows before after → found after ≤ found before + total at_row rows
  rows_added before after rows e =
      subst (λ f. found f ≤ found before + total at_row rows) (sym e)
      (omega (arith, total-append at_row before.rows (new_rows laws local rows), total-filter at_row (λ r. not (has_row laws local r)) rows))

  keys_added : (before after : Found K V) (nodes : List (K × List ℕ)) → after ≡ record before { wanted = before.wanted ++ new_keys laws local nodes }
      → found after ≤ found before + total at (keys_among nodes)
  keys_added before after nodes e =
      let new = filter (λ m. not (has_digest laws local m.0 m.1)) nodes in
      subst (λ f. found f ≤ found before + total at (keys_among nodes)) (sym e)
      (omega (
        arith,
        total-append at before.wanted (new_keys laws local nodes),
        total-mapped at (λ m. m.0) new,
        total-mapped at (λ m. m.0) nodes,
        total-filter (λ m. at m.0) (λ m. not (has_digest laws local m.0 m.1)) nodes,
      ))

  own_times : (g h : Gap K) (keys : List K) (nodes : List (Gap K)) → SameGap laws.cmp g h → SameKeys laws.cmp keys (keys_of h) → IsGapOrNone laws local g nodes
      → total (times_over laws peer root k) nodes ≤ total at keys
  own_times g h keys [] s are one = omega arith
  own_times g h keys (own ∷ []) s are one =
      omega (arith, over_times own h (same_gap-trans laws.cmp o own g h (same_gap-back laws.cmp o g own one) s), total-same laws.cmp o k keys (keys_of h) are)
  own_times g h keys (own ∷ other ∷ others) s are one = absurd one

  one_times : (with_pages : Bool) (g h : Gap K) (x y : Outline K V) (before after : Found K V) → SameGap laws.cmp g h → SameOutline laws.cmp laws.eq x y
      → IsTold laws.cmp peer.rows with_pages (outline_over peer.format laws.bytes_of laws.cmp tree h) y → LiesIn laws.cmp n g x → IsPageTaken laws local g x before after
      → found after ≤ found before + times_about with_pages g
  one_times true g h (rows_told rs) y before after s same told lies taken =
      omega (arith, rows_added before after rs taken, total-mapped at (λ r. r.0) rs, ascend_times laws.cmp o k g (map (λ r. r.0) rs) lies)
  one_times true g h (digests_told ns) y before after s same told lies taken =
      omega (arith, keys_added before after ns taken, ascend_times laws.cmp o k g (keys_among ns) lies.0)
  one_times true g h (page_told c js ps) (page_told d ks qs) before after s same (with, is, are, beside) lies (gaps, nodes, new, kept, taken) =
      let own = own_times g h js nodes s (subst (SameKeys laws.cmp js) are same.1) (nodes_or_none laws local g js c nodes kept) in
      let parts = new_gaps_times laws o local k g js ps gaps new lies.1 in
      subst (λ f. found f ≤ found before + inside g) (sym taken) (omega (arith, total-append inside before.below gaps, total-append (times_over laws peer root k) before.nodes nodes, own, parts))
  one_times false g h (rows_told rs) (rows_told ss) before after s same (none, told) lies taken =
      omega (arith, rows_added before after rs taken, same_rows_times rs ss same, rows_at_times (keys_of h) ss told, over_times g h s)
  one_times false g h (digests_told ns) (digests_told ms) before after s same (none, told) lies taken =
      omega (arith, keys_added before after ns taken, nodes_times ns ms same, ap (λ xs. total at (keys_among xs)) told, over_times g h s)
  one_times false g h (page_told c js ps) (page_told d ks qs) before after s same told lies taken = let never : false ≡ true = told.0 in absurd (cc)
  one_times true g h (page_told c js ps) (rows_told ss) before after s same told lies taken = absurd same
  one_times true g h (page_told c js ps) (digests_told ms) before after s same told lies taken = absurd same
  one_times false g h (rows_told rs) (digests_told ms) before after s same told lies taken = absurd same
  one_times false g h (rows_told rs) (page_told d ks qs) before after s same told lies taken = absurd same
  one_times false g h (digests_told ns) (rows_told ss) before after s same told lies taken = absurd same
  one_times false g h (digests_told ns) (page_told d ks qs) before after s same told lies taken = absurd same
  one_times false g h (page_told c js ps) (rows_told ss) before after s same told lies taken = absurd same
  one_times false g h (page_told c js ps) (digests_told ms) before after s same told lies taken = absurd same

  -- what was told of pages is taken
  pub outlines_times : (E : OwnedGap K → OwnedGap K → Type 0) → ((g h : OwnedGap K) → E g h → SameGap laws.cmp (owned_gap g) (owned_gap h))
      → (with_pages : Bool) (ts us : List (OwnedGap K × Outline K V)) (before after : Found K V)
      → AllZip (λ t u. E t.0 u.0 × SameOutline laws.cmp laws.eq t.1 u.1) ts us
      → AllByRecursion (λ u. IsTold laws.cmp peer.rows with_pages (outline_over peer.format laws.bytes_of laws.cmp tree (owned_gap u.0)) u.1) us
      → AllByRecursion (λ t. LiesIn laws.cmp n (owned_gap t.0) t.1) ts → AreTaken laws local ts before after
      → found after ≤ found before + total (λ g. times_about with_pages (owned_gap g)) (map (λ t. t.0) ts)
  outlines_times E gap with_pages [] us before after s told lies taken = omega (arith, ap found taken)
  outlines_times E gap with_pages (t ∷ ts) [] before after s told lies taken = absurd s
  outlines_times E gap with_pages (t ∷ ts) (u ∷ us) before after s told lies (mid, one, more) =
      omega (
        arith,
        one_times with_pages (owned_gap t.0) (owned_gap u.0) t.1 u.1 before mid (gap t.0 u.0 s.0.0) s.0.1 told.0 lies.0 one,
        outlines_times E gap with_pages ts us mid after s.1 told.1 lies.1 more,
      )

  -- so are values at keys
  value_times : (t : Wanted K × Option V) → total at_row (value_row t) ≤ at t.0.key
  value_times (w, None) = omega arith
  value_times (w, Some v) = omega arith

  pub values_times : (ts : List (Wanted K × Option V)) → total at_row (flat_map value_row ts) ≤ total (λ w. at w.key) (map (λ t. t.0) ts)
  values_times [] = omega arith
  values_times (t ∷ ts) = omega (arith, total-append at_row (value_row t) (flat_map value_row ts), value_times t, values_times ts)

  -- and parts of the rows in gaps
  part_times : (t : OwnedGap K × Part K V) (behind : List (OwnedGap K)) → AscendIn laws.cmp (owned_gap t.0) (map (λ r. r.0) t.1.rows) → IsBehind laws.cmp (owned_gap t.0) t.1 behind
      → total at_row t.1.rows + total (λ g. inside (owned_gap g)) behind ≤ inside (owned_gap t.0)
  part_times t behind up (inl (all, none)) =
      subst (λ gs. total at_row t.1.rows + total (λ g. inside (owned_gap g)) gs ≤ inside (owned_gap t.0)) (sym none)
      (omega (arith, total-mapped at (λ r. r.0) t.1.rows, ascend_times laws.cmp o k (owned_gap t.0) (map (λ r. r.0) t.1.rows) up))
  part_times t behind up (inr (row, rows, own, some, are, same, is)) =
      let up_rows = subst (λ rs. AscendIn laws.cmp (owned_gap t.0) (map (λ r. r.0) rs)) are up in
      subst (λ gs. total at_row t.1.rows + total (λ g. inside (owned_gap g)) gs ≤ inside (owned_gap t.0)) (sym is)
      (subst (λ rs. total at_row rs + (inside (owned_gap own) + 0) ≤ inside (owned_gap t.0)) (sym are)
      (omega (
        arith,
        total-mapped at (λ r. r.0) (row ∷ rows),
        ascend_and_behind laws.cmp o k (owned_gap t.0) row rows up_rows,
        in-alike laws.cmp o k (part_behind (owned_gap t.0) (last_key row.0 rows)) (owned_gap own) same,
      )))

  pub parts_times : (ts : List (OwnedGap K × Part K V)) (behind : List (OwnedGap K))
      → AllByRecursion (λ t. AscendIn laws.cmp (owned_gap t.0) (map (λ r. r.0) t.1.rows)) ts → AreBehind laws.cmp ts behind
      → total at_row (flat_map (λ t. t.1.rows) ts) + total (λ g. inside (owned_gap g)) behind ≤ total (λ g. inside (owned_gap g)) (map (λ t. t.0) ts)
  parts_times [] behind up none = subst (λ gs. 0 + total (λ g. inside (owned_gap g)) gs ≤ 0) (sym none) (omega arith)
  parts_times (t ∷ ts) behind up (first, rest, one, more, e) =
      subst (λ gs. total at_row (flat_map (λ x. x.1.rows) (t ∷ ts)) + total (λ g. inside (owned_gap g)) gs ≤ total (λ g. inside (owned_gap g)) (map (λ x. x.0) (t ∷ ts))) (sym e)
      (omega (arith, total-append (λ g. inside (owned_gap g)) first rest, total-append at_row t.1.rows (flat_map (λ x. x.1.rows) ts), part_times t first up.0 one, parts_times ts rest up.1 more))

  -- and the root
  pub root_times : (digest : Option (List ℕ)) (before after : Found K V) → IsRootTaken laws local digest before after → found after ≤ found before + 1
  root_times None before after e = omega (arith, ap found e)
  root_times (Some d) before after (inl (own, e)) = omega (arith, ap found e)
  root_times (Some d) before after (inr (lacks, inl e)) = subst (λ f. found f ≤ found before + 1) (sym e) (omega (arith, total-append inside before.whole (everywhere ∷ [])))
  root_times (Some d) before after (inr (lacks, inr e)) = subst (λ f. found f ≤ found before + 1) (sym e) (omega (arith, total-append inside before.below (everywhere ∷ [])))
