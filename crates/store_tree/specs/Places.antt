-- Where in the tree the page over a gap is.
use Rattle.std.specs.Prelude.{◌≡◌, ◌⊎◌, ◌≤◌, ℕ, suc, Bool, true, false, List, [], ◌∷◌, map, Option, Some, None, if◌then◌else◌}
use Rattle.merkle_tree_theory.specs.Gap.{Gap, everywhere, is_after, is_before}
use Rattle.merkle_tree_theory.specs.Lookup.{held_over}
use Rattle.merkle_tree_theory.specs.Tree.{Tree, below}
use Rattle.sqlite_value.specs.Order.{Row}
use Rattle.store_tree.specs.Cells.{bytes_order, KeyDigests, HoldsCells, IsGapOf, held_within}
use Rattle.store_tree.specs.Filling.{front_of}
use Rattle.store_tree.specs.Pages.{gap_between}
use Rattle.store_tree.specs.Rows.{bound_bytes}
use Rattle.store_tree.specs.declared.cell.Cell.{Cell}
use Rattle.store_tree.specs.declared.place.Place.{Place}
use Rattle.store_tree.specs.declared.place.Step.{Step}
use Rattle.store_tree.specs.declared.place.Step.TheVariants.{Here, Down}

-- whether a front is a key above the bound, where there is one
abbrev pub is_behind : Option (List ℕ) → Option (List ℕ) → Bool
is_behind bound None = false
is_behind bound (Some key) = is_after bytes_order bound key

-- whether a front is a key below the bound, where there is one, or absent
abbrev pub is_front_before : Option (List ℕ) → Option (List ℕ) → Bool
is_front_before bound None = true
is_front_before bound (Some key) = is_before bytes_order bound key

-- the gap of a page, between a front and a bound with these fronts between, that has all of a gap, unless a node of the page is in it
abbrev pub part_over : Gap (List ℕ) → Option (List ℕ) → Option (List ℕ) → List (Option (List ℕ)) → Option (Gap (List ℕ))
part_over g front before [] = Some (gap_between front before)
part_over g front before (f ∷ fs) = if (is_behind g.after f) then (if (is_front_before g.before f) then None else (Some (gap_between front f))) else (part_over g f before fs)

-- the gap to which a step goes down, if it does
abbrev pub gap_below : Step → Option (Gap (List ℕ))
gap_below Here = None
gap_below (Down front before) = Some (gap_between (bound_bytes front) (bound_bytes before))

-- the step is the one that these cells show
abbrev pub IsStepBy : Gap (List ℕ) → Option (List ℕ) → List Cell → Step → Type 0
IsStepBy g before cells step = (c : Cell) (cs : List Cell) → cells ≡ c ∷ cs → gap_below step ≡ part_over g (front_of c) before (map front_of cs)

-- the gap of a place
abbrev pub gap_at : Place → Gap (List ℕ)
gap_at place = gap_between (bound_bytes place.front) (bound_bytes place.before)

module _ (lev : List ℕ → ℕ) (m : KeyDigests) (g : Gap (List ℕ)) where
  -- the place is the gap of a cell of its level, and over the gap there is what is over it in what stands there
  pub record LeadsTo (top : ℕ) (place : Place) : Type 0 where
    pub level : place.level ≤ top
    pub gap : IsGapOf lev m place.level (bound_bytes place.front) (gap_at place)
    pub over : held_over bytes_order g (held_within lev m everywhere) ≡ held_over bytes_order g (held_within lev m (gap_at place))

  -- what stands there is the page over the gap
  abbrev pub HasPageThere : Place → Type 0
  HasPageThere place = (t : Tree (List ℕ) (List ℕ)) × (held_within lev m (gap_at place) ≡ below t) × (held_over bytes_order g (held_within lev m (gap_at place)) ≡ Some t)

  -- the step stays at the place, where the page over the gap is, or goes down by a level to the gap that has it
  abbrev pub GoesTo : Place → Option (Gap (List ℕ)) → Type 0
  GoesTo place None = HasPageThere place
  GoesTo place (Some gap) = (level : ℕ) → place.level ≡ suc level
      → IsGapOf lev m level gap.after gap × (held_over bytes_order g (held_within lev m (gap_at place)) ≡ held_over bytes_order g (held_within lev m gap))

-- of whatever map the rows are the gaps, whose levels reach the place, the step goes on from it
abbrev pub GoesFrom : Gap (List ℕ) → List Row → Place → Step → Type 0
GoesFrom g rows place step = (lev : List ℕ → ℕ) (m : KeyDigests) (h : HoldsCells lev m rows) → place.level ≤ h.top → IsGapOf lev m place.level (bound_bytes place.front) (gap_at place)
    → GoesTo lev m g place (gap_below step)

-- of whatever map the rows are the gaps, the page over the gap stands there, or the place is as far down as cells are
abbrev pub IsPlaceOver : Gap (List ℕ) → List Row → Place → Type 0
IsPlaceOver g rows place = (lev : List ℕ → ℕ) (m : KeyDigests) (h : HoldsCells lev m rows) → LeadsTo lev m g h.top place × ((place.level ≤ 1) ⊎ HasPageThere lev m g place)
