-- Scans of a level, step by step.
use Rattle.std.proofs.Common.{◌≡◌, ◌<◌, ℕ, Bool, true, false, ◌&&◌, List, [], ◌∷◌, ◌++◌, map, filter, length, Option, Some, refl, sym, ap, subst, ◌∙◌, append_assoc}
use Rattle.std.specs.Global.{Vec}
use Rattle.std.specs.List.{AllByRecursion}
use Rattle.std.proofs.lemmas.List.{map-append}
use Rattle.std.proofs.lemmas.List.Elements.{filter-append}
use Rattle.key_order.proofs.ListParts.{each-append}
use Rattle.sqlite_value.specs.Order.{Row}
use Rattle.sqlite_value.specs.Keys.{plain}
use Rattle.sqlite_trees.specs.Tree.{IsIndex, from_key}
use Rattle.sqlite_trees.specs.View.{View, Advances}
use Rattle.sqlite_trees.proofs.ListLemmas.{filter_all}
use Rattle.store_tree.specs.Rows.{row_of_cell, is_level, is_ahead, rows_between, start_row}
use Rattle.store_tree.specs.Tables.{IsScan}
use Rattle.store_tree.specs.declared.cell.Cell.{Cell}
use Rattle.store_tree.proofs.Seeking.{between_given, stopped}

-- rows are on a level, and their gaps begin below a bound
abbrev pub AreWithin : ℕ → Option (List ℕ) → List Row → Type 0
AreWithin level before = AllByRecursion (λ row. is_level level row && is_ahead before row ≡ true)

some_same : {X : Type 0} {x y : X} → Some x ≡ Some y → x ≡ y
some_same h = let e = h in cc

-- a cursor that has the rows after those that are seen goes on by one
pub record GoesOn (given seen : List Row) (row : Row) (b : View) : Type 0 where
  pub left : List Row
  pub is : given ≡ seen ++ row ∷ left
  pub cursor : b.cursors 0 ≡ Some left

abbrev pub Passes : List Row → List Row → View → Type 0
Passes given seen v = (left : List Row) × (v.cursors 0 ≡ Some left) × (given ≡ seen ++ left)

pub goes_on : (given seen : List Row) (row : Row) (found : Bool) (a b : View) → found ≡ true → Passes given seen a → Advances a b 0 row found → GoesOn given seen row b
goes_on given seen row true a b is (left, at, all) went =
    let same : left ≡ row ∷ went.0 = some_same (sym at ∙ went.1) in
    record { left = went.0; is = all ∙ ap (λ xs. seen ++ xs) same; cursor = rw went.2 refl }
goes_on given seen row false a b is passed went = absurd (let k = is in cc)

pub at_end : (given seen : List Row) (row : Row) (found : Bool) (a b : View) → found ≡ false → (passed : Passes given seen a) → Advances a b 0 row found → passed.0 ≡ []
at_end given seen row true a b is passed went = absurd (let k = is in cc)
at_end given seen row false a b is (left, at, all) went = some_same (sym at ∙ went.0)

pub with_next : (given seen more : List Row) (row : Row) (left : List Row) → given ≡ seen ++ row ∷ left → more ≡ seen ++ row ∷ [] → given ≡ more ++ left
with_next given seen more row left is new = is ∙ sym (append_assoc seen (row ∷ []) left) ∙ ap (λ xs. xs ++ left) (sym new)

pub cells_more : (cells : List Cell) (c : Cell) (row : Row) (more : List Cell) → row ≡ row_of_cell c → more ≡ cells ++ c ∷ [] → map row_of_cell more ≡ map row_of_cell cells ++ row ∷ []
cells_more cells c row more is new = ap (map row_of_cell) new ∙ map-append row_of_cell cells (c ∷ []) ∙ ap (λ r. map row_of_cell cells ++ r ∷ []) (sym is)

pub within_more : (l : ℕ) (before : Option (List ℕ)) (seen more : List Row) (row : Row) → AreWithin l before seen → is_level l row && is_ahead before row ≡ true → more ≡ seen ++ row ∷ []
    → AreWithin l before more
within_more l before seen more row within here new = subst (AreWithin l before) (sym new) (each-append (λ r. is_level l r && is_ahead before r ≡ true) seen (row ∷ []) within (here, tt))

module _ (l : ℕ) (front before : Option (List ℕ)) (rows : List Row) (up : IsIndex plain rows) (most : ℕ) where
  abbrev given : List Row
  given = from_key plain (start_row l front) rows

  abbrev test : Row → Bool
  test row = is_level l row && is_ahead before row

  seen_first : (cells : List Cell) (left : List Row) → given ≡ map row_of_cell cells ++ left → AreWithin l before (map row_of_cell cells)
      → rows_between l front before rows ≡ map row_of_cell cells ++ filter test left
  seen_first cells left is within =
      between_given l front before rows up ∙ ap (filter test) is ∙ filter-append test (map row_of_cell cells) left ∙ ap (λ xs. xs ++ filter test left) (filter_all test (map row_of_cell cells) within)

  -- as many cells as there may be
  pub scan_full : (cells : Vec Cell) (left : List Row) → given ≡ map row_of_cell cells.items ++ left → AreWithin l before (map row_of_cell cells.items) → (length cells.items < most → ⊥)
      → IsScan most (rows_between l front before rows) cells
  scan_full cells left is within full = record { more = filter test left; are = seen_first cells.items left is within; all = λ less. absurd (full less) }

  -- the cursor is at its end
  pub scan_ends : (cells : Vec Cell) (left : List Row) → given ≡ map row_of_cell cells.items ++ left → AreWithin l before (map row_of_cell cells.items) → left ≡ []
      → IsScan most (rows_between l front before rows) cells
  scan_ends cells left is within none = record { more = []; are = seen_first cells.items left is within ∙ ap (λ xs. map row_of_cell cells.items ++ filter test xs) none; all = λ less. refl }

  -- the next row isn't within the scan
  pub scan_stops : (cells : Vec Cell) (row : Row) (left : List Row) → given ≡ map row_of_cell cells.items ++ row ∷ left → AreWithin l before (map row_of_cell cells.items) → test row ≡ false
      → IsScan most (rows_between l front before rows) cells
  scan_stops cells row left is within out =
      record {
        more = [];
        are = seen_first cells.items (row ∷ left) is within
            ∙ ap (λ xs. map row_of_cell cells.items ++ xs) (stopped l front before rows up (map row_of_cell cells.items) row left is out);
        all = λ less. refl;
      }
