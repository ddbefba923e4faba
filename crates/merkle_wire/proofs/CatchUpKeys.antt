-- What a catch-up asks about, and what it has found, has keys of the two sides alone, up to equal keys.
use Rattle.std.specs.Prelude.{not}
use Rattle.std.proofs.Common.{◌≡◌, ℕ, Bool, List, [], ◌∷◌, ◌++◌, map, flat_map, Option, Some, None, sym, subst, inl, inr}
use Rattle.std.specs.List.{AllByRecursion, filter, AllZip}
use Rattle.std.specs.Cmp.{IsTotalOrder, tied_back}
use Rattle.key_order.specs.Map.{SameMap, last_key}
use Rattle.key_order.specs.Order.{Same}
use Rattle.key_order.proofs.SameKeys.{SameKeys}
use Rattle.key_order.proofs.ListParts.{each-append, each-before, each-behind}
use Rattle.merkle_bytes.specs.Options.{IsOption}
use Rattle.merkle_diff.proofs.Each.{each-mapped, each-unmapped}
use Rattle.merkle_replica.specs.Contents.{Side}
use Rattle.merkle_replica.specs.Laws.{Laws}
use Rattle.merkle_tree_theory.specs.Gap.{Gap, SameBound, SameGap, everywhere, part_before, part_behind}
use Rattle.merkle_tree_theory.specs.Outline.{Item}
use Rattle.merkle_wire.specs.Underway.{AsksForSome, IsTakenFrom, Found}
use Rattle.merkle_wire.specs.Gaps.{HasKeyBounds, owned_gap}
use Rattle.merkle_wire.specs.Outlines.{Outline, rows_told, digests_told, page_told, IsTold, keys_among, nodes_among}
use Rattle.merkle_wire.specs.Questions.{IsQuestion}
use Rattle.merkle_wire.specs.Replies.{Part}
use Rattle.merkle_wire.specs.Taking.{AreBehind, AreNewGaps, AreTaken, IsBehind, IsNewGap, IsRootTaken, IsPageTaken, has_digest, new_keys}
use Rattle.merkle_wire.specs.declared.gaps.OwnedGap.{OwnedGap}
use Rattle.merkle_wire.specs.declared.question.Question.{Question}
use Rattle.merkle_wire.specs.declared.question.Question.TheVariants.{Root, Outlines, Nodes, RowsAt, RowsIn}
use Rattle.merkle_wire.proofs.RoundCovers.{each-filter}
use Rattle.merkle_wire.proofs.TakenGaps.{IsGapOrNone, gap_or_none, nodes_or_none}
use Rattle.merkle_wire.proofs.TellingReplies.{SameOutline}
use Rattle.merkle_wire.proofs.Steady.{AreKeysOf}
use Rattle.merkle_wire.proofs.Lacking.{all_whole}

module _ {K V H : Type 0} (laws : Laws K V H) (o : IsTotalOrder laws.cmp) (is_key : K → Type 0) (alike : (j k : K) → Same laws.cmp j k → is_key j → is_key k) (local : Side K V H) where
  bound_alike : (a b : Option K) → SameBound laws.cmp a b → IsOption is_key a → IsOption is_key b
  bound_alike None None s p = tt
  bound_alike None (Some b) s p = absurd s
  bound_alike (Some a) None s p = absurd s
  bound_alike (Some a) (Some b) s p = alike a b s p

  gap_alike : (g h : Gap K) → SameGap laws.cmp g h → HasKeyBounds is_key g → HasKeyBounds is_key h
  gap_alike g h s p = (bound_alike g.after h.after s.0 p.0, bound_alike g.before h.before s.1 p.1)

  same_keys_each : (js ks : List K) → SameKeys laws.cmp js ks → AllByRecursion is_key ks → AllByRecursion is_key js
  same_keys_each [] [] s a = tt
  same_keys_each [] (k ∷ ks) s a = absurd s
  same_keys_each (j ∷ js) [] s a = absurd s
  same_keys_each (j ∷ js) (k ∷ ks) s a = (alike k j (tied_back o j k s.0) a.0, same_keys_each js ks s.1 a.1)

  same_nodes_each : (ns ms : List (K × List ℕ)) → SameMap laws.cmp (λ d e. d ≡ e) ns ms → AllByRecursion (λ m. is_key m.0) ms → AllByRecursion (λ n. is_key n.0) ns
  same_nodes_each [] [] s a = tt
  same_nodes_each [] (m ∷ ms) s a = absurd s
  same_nodes_each (n ∷ ns) [] s a = absurd s
  same_nodes_each (n ∷ ns) (m ∷ ms) s a = (alike m.0 n.0 (tied_back o n.0 m.0 s.0) a.0, same_nodes_each ns ms s.2 a.1)

  -- gaps that are asked for next
  or_none_keys : (g : Gap K) (new : List (Gap K)) → IsGapOrNone laws local g new → HasKeyBounds is_key g → AllByRecursion (HasKeyBounds is_key) new
  or_none_keys g [] one p = tt
  or_none_keys g (own ∷ []) one p = (gap_alike g own one p, tt)
  or_none_keys g (own ∷ other ∷ others) one p = absurd one

  new_gap_keys : (g : Gap K) (page : Option (List ℕ)) (new : List (Gap K)) → IsNewGap laws local g page new → HasKeyBounds is_key g → AllByRecursion (HasKeyBounds is_key) new
  new_gap_keys g None new none p = subst (AllByRecursion (HasKeyBounds is_key)) (sym none) tt
  new_gap_keys g (Some d) new is p = or_none_keys g new (gap_or_none laws local g d new is) p

  new_gaps_keys : (g : Gap K) (ks : List K) (pages : List (Option (List ℕ))) (new : List (Gap K)) → AreNewGaps laws local g ks pages new → HasKeyBounds is_key g
      → AllByRecursion is_key ks → AllByRecursion (HasKeyBounds is_key) new
  new_gaps_keys g [] [] new is p a = absurd is
  new_gaps_keys g [] (page ∷ []) new is p a = new_gap_keys g page new is p
  new_gaps_keys g [] (page ∷ next ∷ pages) new is p a = absurd is
  new_gaps_keys g (k ∷ ks) [] new is p a = absurd is
  new_gaps_keys g (k ∷ ks) (page ∷ pages) new (first, rest, one, more, e) p a =
      subst (AllByRecursion (HasKeyBounds is_key)) (sym e)
      (each-append (HasKeyBounds is_key) first rest (new_gap_keys (part_before g k) page first one (p.0, a.0)) (new_gaps_keys (part_behind g k) ks pages rest more (a.0, p.1) a.1))

  new_keys_keys : (nodes : List (K × List ℕ)) → AllByRecursion (λ m. is_key m.0) nodes → AllByRecursion is_key (new_keys laws local nodes)
  new_keys_keys nodes a =
      let new = filter (λ m. not (has_digest laws local m.0 m.1)) nodes in
      each-mapped (λ m. m.0) is_key new (each-filter (λ m. is_key m.0) (λ m. not (has_digest laws local m.0 m.1)) nodes a)

  abbrev Keys : Found K V → Type 0
  Keys = AreKeysOf is_key

  one_keys : (rows : List (K × V)) (with_pages : Bool) (items : List (Item K (List ℕ))) (g : Gap K) (x y : Outline K V) (before after : Found K V)
      → AllByRecursion (λ m. is_key m.0) (nodes_among items) → HasKeyBounds is_key g
      → SameOutline laws.cmp laws.eq x y → IsTold laws.cmp rows with_pages items y → IsPageTaken laws local g x before after → Keys before → Keys after
  one_keys rows with_pages items g (rows_told rs) y before after nodes p same told taken f =
      subst Keys (sym taken) (record { below = f.below; nodes = f.nodes; wanted = f.wanted; whole = f.whole })
  one_keys rows with_pages items g (digests_told ns) (digests_told ms) before after nodes p same (none, told) taken f =
      let keys = same_nodes_each ns (nodes_among items) (subst (SameMap laws.cmp (λ d e. d ≡ e) ns) told same) nodes in
      subst Keys (sym taken) (record { below = f.below; nodes = f.nodes; wanted = each-append is_key before.wanted (new_keys laws local ns) f.wanted (new_keys_keys ns keys); whole = f.whole })
  one_keys rows with_pages items g (page_told c js ps) (page_told d ks qs) before after nodes p same (with, is, are, beside) (gaps, own, new, kept, taken) f =
      let keys = same_keys_each js (keys_among (nodes_among items)) (subst (SameKeys laws.cmp js) are same.1) (each-mapped (λ m. m.0) is_key (nodes_among items) nodes) in
      subst Keys (sym taken) (record {
        below = each-append (HasKeyBounds is_key) before.below gaps f.below (new_gaps_keys g js ps gaps new p keys);
        nodes = each-append (HasKeyBounds is_key) before.nodes own f.nodes (or_none_keys g own (nodes_or_none laws local g js c own kept) p);
        wanted = f.wanted;
        whole = f.whole;
      })
  one_keys rows with_pages items g (digests_told ns) (rows_told ss) before after nodes p same told taken f = absurd same
  one_keys rows with_pages items g (digests_told ns) (page_told d ks qs) before after nodes p same told taken f = absurd same
  one_keys rows with_pages items g (page_told c js ps) (rows_told ss) before after nodes p same told taken f = absurd same
  one_keys rows with_pages items g (page_told c js ps) (digests_told ms) before after nodes p same told taken f = absurd same

  -- what was told of pages is taken
  pub outlines_keys : (rows : List (K × V)) (E : OwnedGap K → OwnedGap K → Type 0) (with_pages : Bool) (items : OwnedGap K → List (Item K (List ℕ)))
      → ((g : OwnedGap K) → AllByRecursion (λ m. is_key m.0) (nodes_among (items g)))
      → (ts us : List (OwnedGap K × Outline K V)) (before after : Found K V) → AllByRecursion (λ g. HasKeyBounds is_key (owned_gap g)) (map (λ t. t.0) ts)
      → AllZip (λ t u. E t.0 u.0 × SameOutline laws.cmp laws.eq t.1 u.1) ts us
      → AllByRecursion (λ u. IsTold laws.cmp rows with_pages (items u.0) u.1) us → AreTaken laws local ts before after → Keys before → Keys after
  outlines_keys rows E with_pages items nodes [] us before after p s told taken f = subst Keys (sym taken) f
  outlines_keys rows E with_pages items nodes (t ∷ ts) [] before after p s told taken f = absurd s
  outlines_keys rows E with_pages items nodes (t ∷ ts) (u ∷ us) before after p s told (mid, one, more) f =
      outlines_keys rows E with_pages items nodes ts us mid after p.1 s.1 told.1 more
      (one_keys rows with_pages (items u.0) (owned_gap t.0) t.1 u.1 before mid (nodes u.0) p.0 s.0.1 told.0 one f)

  -- so are rows
  pub rows_keys : (before after : Found K V) (rows : List (K × V)) → after ≡ record before { rows = before.rows ++ rows } → Keys before → Keys after
  rows_keys before after rows e f = subst Keys (sym e) (record { below = f.below; nodes = f.nodes; wanted = f.wanted; whole = f.whole })

  last_is_key : (row : K × V) (rows : List (K × V)) → AllByRecursion (λ r. is_key r.0) (row ∷ rows) → is_key (last_key row.0 rows)
  last_is_key row [] a = a.0
  last_is_key row (next ∷ rows) a = last_is_key next rows a.1

  behind_keys : (t : OwnedGap K × Part K V) (left : List (OwnedGap K)) → HasKeyBounds is_key (owned_gap t.0) → AllByRecursion (λ r. is_key r.0) t.1.rows
      → IsBehind laws.cmp (owned_gap t.0) t.1 left → AllByRecursion (λ g. HasKeyBounds is_key (owned_gap g)) left
  behind_keys t left p a (inl (all, none)) = subst (AllByRecursion (λ g. HasKeyBounds is_key (owned_gap g))) (sym none) tt
  behind_keys t left p a (inr (row, rows, own, some, are, same, is)) =
      let last = last_is_key row rows (subst (AllByRecursion (λ r. is_key r.0)) are a) in
      subst (AllByRecursion (λ g. HasKeyBounds is_key (owned_gap g))) (sym is) (gap_alike (part_behind (owned_gap t.0) (last_key row.0 rows)) (owned_gap own) same (last, p.1), tt)

  -- the gaps after parts of the rows in gaps
  pub parts_keys : (ts : List (OwnedGap K × Part K V)) (left : List (OwnedGap K)) → AllByRecursion (λ g. HasKeyBounds is_key (owned_gap g)) (map (λ t. t.0) ts)
      → AllByRecursion (λ r. is_key r.0) (flat_map (λ t. t.1.rows) ts) → AreBehind laws.cmp ts left
      → AllByRecursion (λ g. HasKeyBounds is_key (owned_gap g)) left
  parts_keys [] left p a none = subst (AllByRecursion (λ g. HasKeyBounds is_key (owned_gap g))) (sym none) tt
  parts_keys (t ∷ ts) left p a (first, rest, one, more, e) =
      let In : K × V → Type 0 = λ r. is_key r.0 in
      subst (AllByRecursion (λ g. HasKeyBounds is_key (owned_gap g))) (sym e)
      (each-append (λ g. HasKeyBounds is_key (owned_gap g)) first rest (behind_keys t first p.0 (each-before In t.1.rows (flat_map (λ x. x.1.rows) ts) a) one)
      (parts_keys ts rest p.1 (each-behind In t.1.rows (flat_map (λ x. x.1.rows) ts) a) more))

  -- the root
  pub root_keys : (digest : Option (List ℕ)) (before after : Found K V) → IsRootTaken laws local digest before after → Keys before → Keys after
  root_keys None before after e f = subst Keys (sym e) f
  root_keys (Some d) before after (inl (own, e)) f = subst Keys (sym e) f
  root_keys (Some d) before after (inr (lacks, inl e)) f =
      subst Keys (sym e) (record { below = f.below; nodes = f.nodes; wanted = f.wanted; whole = each-append (HasKeyBounds is_key) before.whole (everywhere ∷ []) f.whole ((tt, tt), tt) })
  root_keys (Some d) before after (inr (lacks, inr e)) f =
      subst Keys (sym e) (record { below = each-append (HasKeyBounds is_key) before.below (everywhere ∷ []) f.below ((tt, tt), tt); nodes = f.nodes; wanted = f.wanted; whole = f.whole })

  -- what is asked of what was found
  pub taken_keys : (question : Question K) (f after : Found K V) → AsksForSome question → Keys f → IsTakenFrom question f after → IsQuestion is_key question × Keys after
  taken_keys (Root settings) f after some keys t = absurd t
  taken_keys (Outlines most gaps) f after some keys (is, e) = (
    (some.1, each-unmapped owned_gap (HasKeyBounds is_key) gaps.items (subst (AllByRecursion (HasKeyBounds is_key)) is keys.below)),
    subst Keys (sym e) (record { below = tt; nodes = keys.nodes; wanted = keys.wanted; whole = keys.whole }),
  )
  taken_keys (Nodes most gaps) f after some keys (is, e) = (
    (some.1, each-unmapped owned_gap (HasKeyBounds is_key) gaps.items (subst (AllByRecursion (HasKeyBounds is_key)) is keys.nodes)),
    subst Keys (sym e) (record { below = keys.below; nodes = tt; wanted = keys.wanted; whole = keys.whole }),
  )
  taken_keys (RowsAt ws) f after some keys (is, e) = (
    each-unmapped (λ w. w.key) is_key ws.items (subst (AllByRecursion is_key) is keys.wanted),
    subst Keys (sym e) (record { below = keys.below; nodes = keys.nodes; wanted = tt; whole = keys.whole }),
  )
  taken_keys (RowsIn gaps) f after some keys (is, e) = (
    each-unmapped owned_gap (HasKeyBounds is_key) gaps.items (subst (AllByRecursion (HasKeyBounds is_key)) is keys.whole),
    subst Keys (sym e) (record { below = keys.below; nodes = keys.nodes; wanted = keys.wanted; whole = tt }),
  )

  pub whole_keys : (f : Found K V) → Keys f → Keys (all_whole f)
  whole_keys f keys = record { below = tt; nodes = keys.nodes; wanted = keys.wanted; whole = each-append (HasKeyBounds is_key) f.whole f.below keys.whole keys.below }
