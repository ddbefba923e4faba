-- The way down to the page over a gap, step by step.
use Rattle.std.proofs.Common.{◌≡◌, ◌<◌, ◌≤◌, ℕ, suc, Bool, true, false, if◌then◌else◌, List, [], ◌∷◌, ◌++◌, map, length, Option, Some, None, refl, sym, ap, subst, ◌∙◌, inl, inr, arith, append-nil}
use Rattle.std.specs.Global.{Vec}
use Rattle.key_order.specs.Map.{IsMap}
use Rattle.merkle_tree_theory.specs.Gap.{Gap, is_after, is_before, pairs_within}
use Rattle.merkle_tree_theory.specs.Lookup.{held_over, row_over}
use Rattle.merkle_tree_theory.specs.Tree.{Tree, page, below}
use Rattle.sqlite_value.specs.Order.{Row}
use Rattle.store_tree.specs.Cells.{bytes_order, AreUnder, KeyDigests, HoldsCells, IsGapOf, held_within, pairs_from}
use Rattle.store_tree.specs.Filling.{front_of}
use Rattle.store_tree.specs.Pages.{gap_between}
use Rattle.store_tree.specs.Places.{GoesFrom, GoesTo, IsPlaceOver, IsStepBy, LeadsTo, gap_at, gap_below, is_behind, is_front_before, part_over}
use Rattle.store_tree.specs.Rows.{IsTop, bound_bytes, row_of_cell, rows_between}
use Rattle.store_tree.specs.Tables.{IsScan}
use Rattle.store_tree.specs.declared.cell.Cell.{Cell}
use Rattle.store_tree.specs.declared.place.Place.{Place}
use Rattle.store_tree.specs.declared.place.Step.{Step}
use Rattle.store_tree.specs.declared.place.Step.TheVariants.{Here}
use Rattle.store_tree.proofs.Parts.{whole}
use Rattle.store_tree.proofs.Filling.{are_scanned}
use Rattle.store_tree.proofs.Fronts.{Front}
use Rattle.store_tree.proofs.Descending.{page_there, row_by}
use Rattle.store_tree.proofs.Remaining.{Remains, last_gap, next_gap}
use Rattle.store_tree.proofs.Writing.{top_is}

-- ---- the step that cells show

module _ (g : Gap (List ℕ)) (before : Front) where
  -- the cells that are left from one on show what all show
  abbrev pub ShowsLeft : List Cell → Cell → List Cell → Type 0
  ShowsLeft all cell left = (c : Cell) (cs : List Cell) → all ≡ c ∷ cs → part_over g (front_of c) before (map front_of cs) ≡ part_over g (front_of cell) before (map front_of left)

  pub shows_begins : (all : List Cell) (cell : Cell) (left : List Cell) → all ≡ cell ∷ left → ShowsLeft all cell left
  shows_begins all cell left is c cs e =
      let (a, b) : (c ≡ cell) × (cs ≡ left) = heads (sym e ∙ is) in
      λ i. part_over g (front_of (a i)) before (map front_of (b i))
    where
      heads : (c ∷ cs) ≡ cell ∷ left → (c ≡ cell) × (cs ≡ left)
      heads e = (let h = e in cc, let h = e in cc)

  pub shows_goes : (all : List Cell) (cell next : Cell) (rest : List Cell) → is_behind g.after (front_of next) ≡ false → ShowsLeft all cell (next ∷ rest) → ShowsLeft all next rest
  shows_goes all cell next rest not_yet was c cs e = was c cs e ∙ rw not_yet refl

  pub shows_here : (all : List Cell) (cell next : Cell) (rest : List Cell) → is_behind g.after (front_of next) ≡ true → is_front_before g.before (front_of next) ≡ true
      → ShowsLeft all cell (next ∷ rest)
      → IsStepBy g before all Here
  shows_here all cell next rest now inside was c cs e = sym (was c cs e ∙ rw now (rw inside refl))

  pub shows_down : (all : List Cell) (cell next : Cell) (rest : List Cell) (step : Step) → is_behind g.after (front_of next) ≡ true → is_front_before g.before (front_of next) ≡ false
      → ShowsLeft all cell (next ∷ rest)
      → gap_below step ≡ Some (gap_between (front_of cell) (front_of next)) → IsStepBy g before all step
  shows_down all cell next rest step now outside was is c cs e = is ∙ sym (was c cs e ∙ rw now (rw outside refl))

  pub shows_last : (all : List Cell) (cell : Cell) (left : List Cell) (step : Step) → left ≡ [] → ShowsLeft all cell left → gap_below step ≡ Some (gap_between (front_of cell) before)
      → IsStepBy g before all step
  shows_last all cell left step none was is c cs e = is ∙ sym (was c cs e ∙ ap (λ xs. part_over g (front_of cell) before (map front_of xs)) none)

-- by which the step that cells show is found
pub ruleset showing = (shows_begins, shows_goes, shows_here, shows_down, shows_last)

-- ---- what is over a gap

-- what a gap of the level above shows by its keys of the level
abbrev pub PartsAt : (List ℕ → ℕ) → KeyDigests → ℕ → Gap (List ℕ) → Front → Front → Option (Gap (List ℕ)) → Type 0
PartsAt lev m l g after before None = (t : Tree (List ℕ) (List ℕ)) × (held_within lev m (gap_between after before) ≡ below t)
    × (held_over bytes_order g (held_within lev m (gap_between after before)) ≡ Some t)
PartsAt lev m l g after before (Some gap) = IsGapOf lev m l gap.after gap × (held_over bytes_order g (held_within lev m (gap_between after before)) ≡ held_over bytes_order g (held_within lev m gap))

module _ (lev : List ℕ → ℕ) (m : KeyDigests) (up : IsMap bytes_order m) (low : (key : List ℕ) → lev key < 256) (l : ℕ) (few : l < 256) (g : Gap (List ℕ)) where
  -- over the gap there is the page, or what is over it in a gap of the level
  abbrev IsOver : Tree (List ℕ) (List ℕ) → Option (Tree (List ℕ) (List ℕ)) → Option (Gap (List ℕ)) → Type 0
  IsOver t over None = over ≡ Some t
  IsOver t over (Some gap) = IsGapOf lev m l gap.after gap × (over ≡ held_over bytes_order g (held_within lev m gap))

  abbrev keys_of : KeyDigests → List Front
  keys_of qs = map (λ q. Some q.0) qs

  row_parts : (t : Tree (List ℕ) (List ℕ)) (qs : KeyDigests) (after before : Front) → Remains lev m up l after before → pairs_within bytes_order (gap_between after before) (pairs_from lev m l) ≡ qs
      → IsOver t (row_over bytes_order g t (row_by lev m up low l few after before qs)) (part_over g after before (keys_of qs))
  row_parts t [] after before r is = (last_gap lev m up l after before r is, refl)
  row_parts t (q ∷ qs) after before r is =
      let p = next_gap lev m up l after before q qs r is in
      by (is_after bytes_order g.after q.0) (is_before bytes_order g.before q.0) p.gap (row_parts t qs (Some q.0) before p.rest p.left)
    where
      by : (b c : Bool) → IsGapOf lev m l after (gap_between after (Some q.0))
          → IsOver t (row_over bytes_order g t (row_by lev m up low l few (Some q.0) before qs)) (part_over g (Some q.0) before (keys_of qs))
          → IsOver t (if b then (if c then (Some t) else (held_over bytes_order g (held_within lev m (gap_between after (Some q.0))))) else (row_over bytes_order g t
          (row_by lev m up low l few (Some q.0) before qs)))
          (if b then (if c then None else (Some (gap_between after (Some q.0)))) else (part_over g (Some q.0) before (keys_of qs)))
      by true true gap rest = refl
      by true false gap rest = (gap, refl)
      by false c gap rest = rest

  pub parts_of : (qs : KeyDigests) (after before : Front) → Remains lev m up l after before → pairs_within bytes_order (gap_between after before) (pairs_from lev m l) ≡ qs
      → PartsAt lev m l g after before (part_over g after before (keys_of qs))
  parts_of [] after before r is = (last_gap lev m up l after before r is, refl)
  parts_of (q ∷ qs) after before r is =
      let t : Tree (List ℕ) (List ℕ) = page l None (row_by lev m up low l few after before (q ∷ qs)) in
      let there : held_within lev m (gap_between after before) ≡ below t = page_there lev m up low l few q qs after before r is in
      by there (part_over g after before (keys_of (q ∷ qs))) (row_parts t (q ∷ qs) after before r is)
    where
      whole_page : Tree (List ℕ) (List ℕ)
      whole_page = page l None (row_by lev m up low l few after before (q ∷ qs))

      by : held_within lev m (gap_between after before) ≡ below whole_page → (found : Option (Gap (List ℕ)))
          → IsOver whole_page (row_over bytes_order g whole_page (row_by lev m up low l few after before (q ∷ qs))) found → PartsAt lev m l g after before found
      by there None over = (whole_page, there, ap (held_over bytes_order g) there ∙ over)
      by there (Some gap) (is_gap, over) = (is_gap, ap (held_over bytes_order g) there ∙ over)

-- ---- the step from a place

-- a gap of a page has the gap of the part that is found in it
pub goes_from : (g : Gap (List ℕ)) (rows : List Row) (place : Place) (level most : ℕ) (cells : Vec Cell) (step : Step) → 1 ≤ level → level < 256 → place.level ≡ suc level
    → IsScan most (rows_between level (bound_bytes place.front) (bound_bytes place.before) rows) cells
    → length cells.items < most → IsStepBy g (bound_bytes place.before) cells.items step → GoesFrom g rows place step
goes_from g rows place level most cells step low under is scan few shown lev m h upto gap =
    let front = bound_bytes place.front in
    let before = bound_bytes place.before in
    let all : rows_between level front before rows ≡ map row_of_cell cells.items = scan.are ∙ ap (λ xs. map row_of_cell cells.items ++ xs) (scan.all few) ∙ append-nil (map row_of_cell cells.items) in
    let there : IsGapOf lev m (suc level) front (gap_between front before) = subst (λ l. IsGapOf lev m l front (gap_between front before)) is gap in
    let s = are_scanned lev m rows h level low (omega (arith, upto, is)) front before there cells.items all in
    let qs : KeyDigests = pairs_within bytes_order (gap_between front before) (pairs_from lev m level) in
    let r : Remains lev m h.ascending level front before = record { begins = s.begins; ends = s.ends; proper = s.proper; upto = s.upto } in
    let parts = parts_of lev m h.ascending h.low level under g qs front before r refl in
    let found : gap_below step ≡ part_over g front before (map (λ q. Some q.0) qs) = by_cells cells.items front (map (λ q. Some q.0) qs) s.fronts shown in
    to_goes lev m (gap_below step) (subst (PartsAt lev m level g front before) (sym found) parts)
  where
    suc_same : (a b : ℕ) → suc a ≡ suc b → a ≡ b
    suc_same a b e = let h = e in cc

    by_cells : (cells : List Cell) (f : Front) (fs : List Front) → map front_of cells ≡ f ∷ fs → IsStepBy g (bound_bytes place.before) cells step
        → gap_below step ≡ part_over g f (bound_bytes place.before) fs
    by_cells [] f fs e shown = absurd (let never = e in cc)
    by_cells (c ∷ cs) f fs e shown =
        let a : front_of c ≡ f = cc in
        let b : map front_of cs ≡ fs = cc in
        shown c cs refl ∙ (λ i. part_over g (a i) (bound_bytes place.before) (b i))

    to_goes : (lev : List ℕ → ℕ) (m : KeyDigests) (found : Option (Gap (List ℕ))) → PartsAt lev m level g (bound_bytes place.front) (bound_bytes place.before) found → GoesTo lev m g place found
    to_goes lev m None parts = parts
    to_goes lev m (Some gap) (is_gap, over) = λ l at. (subst (λ j. IsGapOf lev m j gap.after gap) (suc_same level l (sym is ∙ at)) is_gap, over)

-- ---- the place

-- the place leads to what is over the gap, whatever map the rows are the gaps of
abbrev pub Leads : Gap (List ℕ) → List Row → Place → Type 0
Leads g rows place = (lev : List ℕ → ℕ) (m : KeyDigests) (h : HoldsCells lev m rows) → LeadsTo lev m g h.top place

pub leads_begins : (g : Gap (List ℕ)) (rows : List Row) (place : Place) → IsTop rows place.level → bound_bytes place.front ≡ None → bound_bytes place.before ≡ None → Leads g rows place
leads_begins g rows place is none none_after lev m h =
    let top : h.top ≡ place.level = top_is lev m rows h place.level is in
    let gap : IsGapOf lev m place.level None (gap_between None None) =
    record { after = refl; begins = tt; before = tt; proper = tt; under = subst (AreUnder lev place.level) (sym (whole m)) (subst (λ l. AreUnder lev l m) top h.under) } in
    let at : gap_at place ≡ gap_between None None = (λ i. gap_between (none i) (none_after i)) in
    record {
      level = omega (arith, top);
      gap = subst (λ f. IsGapOf lev m place.level f (gap_at place)) (sym none) (subst (IsGapOf lev m place.level None) (sym at) gap);
      over = ap (λ gap. held_over bytes_order g (held_within lev m gap)) (sym at);
    }

pub leads_goes : (g : Gap (List ℕ)) (rows : List Row) (place next : Place) (step : Step) → Leads g rows place → GoesFrom g rows place step → gap_below step ≡ Some (gap_at next)
    → place.level ≡ suc next.level → Leads g rows next
leads_goes g rows place next step was goes down is lev m h =
    let l = was lev m h in
    let (gap, over) = subst (GoesTo lev m g place) down (goes lev m h l.level l.gap) next.level is in
    record { level = omega (arith, l.level, is); gap = gap; over = l.over ∙ over }

pub leads_here : (g : Gap (List ℕ)) (rows : List Row) (place : Place) (step : Step) → Leads g rows place → GoesFrom g rows place step → gap_below step ≡ None → IsPlaceOver g rows place
leads_here g rows place step was goes stays lev m h = let l = was lev m h in (l, inr (subst (GoesTo lev m g place) stays (goes lev m h l.level l.gap)))

pub leads_ends : (g : Gap (List ℕ)) (rows : List Row) (place : Place) → Leads g rows place → place.level ≤ 1 → IsPlaceOver g rows place
leads_ends g rows place was low lev m h = (was lev m h, inl low)
