-- The first key of the table of entries.
use Rattle.std.proofs.Common.{◌≡◌, Bool, true, false, [], ◌∷◌, Some, None, sym, ap, ◌∙◌}
use Rattle.key_order.specs.Text.{Text as Key}
use Rattle.sqlite_value.specs.Keys.{plain}
use Rattle.sqlite_value.specs.Order.{Row}
use Rattle.sqlite_trees.specs.declared.store.Direction.TheVariants.{Forward}
use Rattle.sqlite_trees.specs.Tree.{Trees, from_key, sought}
use Rattle.store_file.specs.declared.register.Register.{Register}
use Rattle.store_file.specs.Entries.{entry_row}
use Rattle.store_file.specs.Ranges.{IsFirstKey}
use Rattle.store_file.specs.Walks.{GivesRow}
use Rattle.store_file.proofs.Walking.{from_none, gives_none}

module _ (trees : Trees) (none row : Row) (empty : none ≡ []) where
  whole : trees 0 ≡ sought plain Forward none (trees 0)
  whole = sym (from_none (trees 0)) ∙ ap (λ key. from_key plain key (trees 0)) (sym empty)

  -- a look from no key on gives the first row
  pub first_given : (found : Bool) (entry : Key × Register) → found ≡ true → GivesRow (sought plain Forward none (trees 0)) row found → row ≡ entry_row entry
      → IsFirstKey trees (Some entry.0)
  first_given true entry is h same = (entry.1, h.0, whole ∙ h.1 ∙ ap (λ r. r ∷ h.0) same)
  first_given false entry is h same = absurd (let k = is in cc)

  -- or there is none
  pub none_first : (found : Bool) → found ≡ false → GivesRow (sought plain Forward none (trees 0)) row found → IsFirstKey trees None
  none_first found is h = whole ∙ gives_none _ row found is h
