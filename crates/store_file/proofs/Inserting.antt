-- Entries that are inserted among others at their places.
use Rattle.std.proofs.Common.{◌≡◌, ◌⊎◌, inl, inr, List, [], ◌∷◌, ◌++◌, map, refl, ap, subst, ◌∙◌}
use Rattle.std.specs.Ordering.{match_ordering}
use Rattle.std.specs.declared.cmp.Ordering.{Ordering}
use Rattle.std.specs.declared.cmp.Ordering.TheVariants.{Less, Equal, Greater}
use Rattle.key_order.specs.Text.{Text as Key}
use Rattle.sqlite_value.specs.Keys.{plain}
use Rattle.sqlite_trees.specs.Tree.{Trees, IsAscending, IsIndex, insert_entry}
use Rattle.sqlite_trees.proofs.TreeLemmas.{IsIndex-insert_entry}
use Rattle.store_file.specs.Changes.{HasMore}
use Rattle.store_file.specs.Entries.{HoldsEntries, entry_row, entry_order, with_more_rows}
use Rattle.store_file.specs.declared.register.Register.{Register}
use Rattle.store_file.proofs.OrderOfEntries.{row_order, ascending_entries, ascending_rows}

-- one of the entries is equal to e
pub record HasEqual (e : Key × Register) (es : List (Key × Register)) : Type 0 where
  pub front : List (Key × Register)
  pub entry : Key × Register
  pub back : List (Key × Register)
  pub parts : es ≡ front ++ entry ∷ back
  pub equal : entry_order entry e ≡ Equal

-- all are these entries, with e between two parts of them
pub record IsBetween (e : Key × Register) (es all : List (Key × Register)) : Type 0 where
  pub front : List (Key × Register)
  pub back : List (Key × Register)
  pub old : es ≡ front ++ back
  pub new : all ≡ front ++ e ∷ back

-- all are es, where an equal entry is there, and else e comes between
abbrev pub IsPlaced : Key × Register → List (Key × Register) → List (Key × Register) → Type 0
IsPlaced e es all = ((all ≡ es) × HasEqual e es) ⊎ IsBetween e es all

-- the rows of all are those of es with the row of e at its place
pub record IsInserted (e : Key × Register) (es all : List (Key × Register)) : Type 0 where
  pub rows : insert_entry plain (entry_row e) (map entry_row es) ≡ map entry_row all
  pub ascending : IsAscending (λ a b. entry_order a b ≡ Less) es → IsAscending (λ a b. entry_order a b ≡ Less) all
  pub placed : IsPlaced e es all

module _ (e : Key × Register) where
  abbrev Placed : List (Key × Register) → Type 0
  Placed es = (all : List (Key × Register)) × (insert_entry plain (entry_row e) (map entry_row es) ≡ map entry_row all) × IsPlaced e es all

  place : (es : List (Key × Register)) → Placed es
  place [] = (e ∷ [], refl, inr (record { front = []; back = []; old = refl; new = refl }))
  place (x ∷ es) = go (entry_order x e) refl (place es)
    where
      step : (o : Ordering) → entry_order x e ≡ o
          → insert_entry plain (entry_row e) (map entry_row (x ∷ es)) ≡ match_ordering o (entry_row x ∷ insert_entry plain (entry_row e) (map entry_row es))
          (map entry_row (x ∷ es)) (map entry_row (e ∷ x ∷ es))
      step o t = ap (λ r. match_ordering r (entry_row x ∷ insert_entry plain (entry_row e) (map entry_row es)) (map entry_row (x ∷ es)) (map entry_row (e ∷ x ∷ es))) (row_order x e ∙ t)

      behind : (all : List (Key × Register)) → IsPlaced e es all → IsPlaced e (x ∷ es) (x ∷ all)
      behind all (inl there) =
          inl (ap (λ rest. x ∷ rest) there.0, record { front = x ∷ there.1.front; entry = there.1.entry; back = there.1.back; parts = ap (λ rest. x ∷ rest) there.1.parts; equal = there.1.equal })
      behind all (inr between) =
          inr (record { front = x ∷ between.front; back = between.back; old = ap (λ rest. x ∷ rest) between.old; new = ap (λ rest. x ∷ rest) between.new })

      go : (o : Ordering) → entry_order x e ≡ o → Placed es → Placed (x ∷ es)
      go Less t rest = (x ∷ rest.0, step Less t ∙ ap (λ rows. entry_row x ∷ rows) rest.1, behind rest.0 rest.2)
      go Equal t rest = (x ∷ es, step Equal t, inl (refl, record { front = []; entry = x; back = es; parts = refl; equal = t }))
      go Greater t rest = (e ∷ x ∷ es, step Greater t, inr (record { front = []; back = x ∷ es; old = refl; new = refl }))

-- an entry is inserted among any others
pub inserted : (e : Key × Register) (es : List (Key × Register)) → (all : List (Key × Register)) × IsInserted e es all
inserted e es =
    let at = place e es in (
      at.0,
      record {
        rows = at.1;
        ascending = λ up. ascending_entries at.0 (subst (IsIndex plain) at.1 (IsIndex-insert_entry plain (entry_row e) (map entry_row es) (ascending_rows es up)));
        placed = at.2;
      },
    )

-- all are what es become where these are inserted, one after the other
abbrev pub AreInserted : List (Key × Register) → List (Key × Register) → List (Key × Register) → Type 0
AreInserted [] es all = all ≡ es
AreInserted (e ∷ added) es all = (mid : List (Key × Register)) × IsInserted e es mid × AreInserted added mid all

insert_all : (added es : List (Key × Register)) → IsAscending (λ a b. entry_order a b ≡ Less) es
    → (all : List (Key × Register)) × (with_more_rows (map entry_row es) (map entry_row added) ≡ map entry_row all) × IsAscending (λ a b. entry_order a b ≡ Less) all × AreInserted added es all
insert_all [] es up = (es, refl, up, refl)
insert_all (e ∷ added) es up =
    let one = inserted e es in
    let more = insert_all added one.0 (one.1.ascending up) in
    (more.0, ap (λ rows. with_more_rows rows (map entry_row added)) one.1.rows ∙ more.1, more.2, (one.0, one.1, more.3))

-- trees that have the rows of these entries too hold the entries with these inserted
pub holds_more : (old new : Trees) (es added : List (Key × Register)) → HoldsEntries old es → HasMore (map entry_row added) old new
    → (all : List (Key × Register)) × HoldsEntries new all × AreInserted added es all
holds_more old new es added held has =
    let all = insert_all added es held.ascending in
    (all.0, record { rows = has.entries ∙ ap (λ rows. with_more_rows rows (map entry_row added)) held.rows ∙ all.1; ascending = all.2 }, all.3)
