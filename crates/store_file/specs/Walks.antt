-- What a walk through rows gives, and what it leaves.
use Rattle.std.specs.Prelude.{◌≡◌, Bool, true, false, List, [], ◌∷◌, Some, Result, IfOk, OnOk}
use Rattle.sqlite_value.specs.Order.{Row}
use Rattle.sqlite_value.specs.Keys.{plain}
use Rattle.sqlite_trees.specs.declared.store.Direction.{Direction}
use Rattle.sqlite_trees.specs.declared.store.Store.{Ghosts}
use Rattle.sqlite_trees.specs.Tree.{Trees, sought}
use Rattle.sqlite_trees.specs.View.{View}
use Rattle.store_file.specs.Logs.{IsClean}

-- the first of the rows, or that there is none
abbrev pub GivesRow : List Row → Row → Bool → Type 0
GivesRow rows row true = (left : List Row) × (rows ≡ row ∷ left)
GivesRow rows row false = rows ≡ []

-- this is the first row that a seek of the key gives in the table of entries, or there is none
abbrev pub IsSought : Trees → Row → Direction → Row → Bool → Type 0
IsSought trees key direction row found = GivesRow (sought plain direction key (trees 0)) row found

-- only cursors may have moved
abbrev pub StaysBut : View → View → Type 0
StaysBut old new = new ≡ record old { cursors = new.cursors }

-- the old one was not broken
abbrev pub WasSound : View → View → Type 0
WasSound old new = old.is_broken ≡ false

-- the cursor has all rows of the table of entries to give
abbrev pub GivesAll : View → View → Type 0
GivesAll old new = new.cursors 0 ≡ Some (old.trees 0)

module _ {S : Type 0} (g : Ghosts S) {A E : Type 0} (old new : S) (result : Result A E) where
  -- on a clean disk, `Is` relates the old and the new view of a successful call
  abbrev pub MakesView : (View → View → Type 0) → Type 0
  MakesView Is = OnOk result (IsClean g new → Is (g.view old) (g.view new))

  -- on a clean disk, `Is` relates the old view, the new view and the answer of a successful call
  abbrev pub MakesViewAndFinds : (View → View → A → Type 0) → Type 0
  MakesViewAndFinds Is = IfOk result (λ found. IsClean g new → Is (g.view old) (g.view new) found)
