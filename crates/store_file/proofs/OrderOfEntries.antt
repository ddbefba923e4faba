-- Entries and their rows have one order.
use Rattle.std.proofs.Common.{◌≡◌, ℕ, pos, true, List, [], ◌∷◌, ◌++◌, map, Option, Some, None, refl, sym, ap, ap₂, ◌∙◌, subst, append-nil, append_assoc, arith, string_bytes}
use Rattle.std.specs.List.{AllByRecursion}
use Rattle.std.specs.declared.cmp.Ordering.{Ordering}
use Rattle.std.specs.declared.cmp.Ordering.TheVariants.{Less, Equal, Greater}
use Rattle.std.specs.Option.{option_cmp}
use Rattle.std.specs.Ordering.{is_lt, nat_cmp, int_cmp, ordering_then, match_ordering}
use Rattle.std.specs.Cmp.{IsTotalOrder}
use Rattle.std.proofs.lemmas.Cmp.{on_total}
use Rattle.std.proofs.lemmas.Bool.Decides.{nat_tests}
use Rattle.key_order.specs.Map.{IsMap}
use Rattle.key_order.specs.Text.{Text as Key, text_order}
use Rattle.sqlite_value.specs.declared.value.Value.TheVariants.{Int, Text as Words, Blob}
use Rattle.sqlite_value.specs.Order.{Row, value_cmp}
use Rattle.sqlite_value.specs.Keys.{plain, entry_cmp}
use Rattle.sqlite_value.proofs.KeyLemmas.{entry_cmp-plain, entry_cmp_total}
use Rattle.sqlite_value.proofs.OrderLemmas.{value_cmp-Int, value_cmp-Text, value_cmp-Blob, value_cmp-apart, then-Equal}
use Rattle.sqlite_trees.specs.Tree.{IsAscending, IsIndex, insert_entry}
use Rattle.sqlite_trees.proofs.ListLemmas.{all_weaker, ascending_weaker, ascending-map, ascending_from_map}
use Rattle.store_file.specs.Entries.{value_cell, entry_row, entry_order, with_more_rows}
use Rattle.store_file.specs.Values.{value_order}
use Rattle.store_file.specs.declared.register.Register.{Register}
use Rattle.store_file.specs.declared.value.Value.{Value}
use Rattle.store_file.specs.declared.value.Value.TheVariants.{Text, Bytes}
use Rattle.store_file.proofs.Ascending.{ascending-middle}

time_order : (m n : ℕ) → int_cmp (pos m) (pos n) ≡ nat_cmp m n
time_order m n = grind (arith, nat_tests)

-- the cells of what is said are ordered as SQLite orders them
cell_order : (a b : Option Value) → value_cmp (value_cell a) (value_cell b) ≡ option_cmp value_order a b
cell_order None None = value_cmp-Int (pos 0) (pos 0)
cell_order None (Some (Text t)) = value_cmp-apart (Int (pos 0)) (Words (string_bytes t)) (λ same. omega (arith, same))
cell_order None (Some (Bytes t)) = value_cmp-apart (Int (pos 0)) (Blob t.items) (λ same. omega (arith, same))
cell_order (Some (Text s)) None = value_cmp-apart (Words (string_bytes s)) (Int (pos 0)) (λ same. omega (arith, same))
cell_order (Some (Bytes s)) None = value_cmp-apart (Blob s.items) (Int (pos 0)) (λ same. omega (arith, same))
cell_order (Some (Text s)) (Some (Text t)) = value_cmp-Text (string_bytes s) (string_bytes t)
cell_order (Some (Text s)) (Some (Bytes t)) = value_cmp-apart (Words (string_bytes s)) (Blob t.items) (λ same. omega (arith, same))
cell_order (Some (Bytes s)) (Some (Text t)) = value_cmp-apart (Blob s.items) (Words (string_bytes t)) (λ same. omega (arith, same))
cell_order (Some (Bytes s)) (Some (Bytes t)) = value_cmp-Blob s.items t.items

-- the rows of two entries are ordered as the entries are
pub row_order : (a b : Key × Register) → entry_cmp plain (entry_row a) (entry_row b) ≡ entry_order a b
row_order a b = entry_cmp-plain (entry_row a) (entry_row b) ∙ ap₂ ordering_then (value_cmp-Text _ _)
    (ap₂ ordering_then (value_cmp-Int (pos a.1.time) (pos b.1.time) ∙ time_order a.1.time b.1.time)
    (ap₂ ordering_then (value_cmp-Text _ _) (then-Equal _ ∙ cell_order a.1.value b.1.value)))

-- the order of entries is total
pub entry_order_total : IsTotalOrder entry_order
entry_order_total = subst IsTotalOrder (λ i a b. row_order a b i) (on_total entry_row (entry_cmp_total plain))

-- entries whose rows rise ascend
pub ascending_entries : (es : List (Key × Register)) → IsIndex plain (map entry_row es) → IsAscending (λ a b. entry_order a b ≡ Less) es
ascending_entries es up = ascending_weaker _ _ (λ a b below. sym (row_order a b) ∙ below) es (ascending_from_map _ entry_row es up)

-- the rows of entries that ascend rise
pub ascending_rows : (es : List (Key × Register)) → IsAscending (λ a b. entry_order a b ≡ Less) es → IsIndex plain (map entry_row es)
ascending_rows es up = ascending-map _ entry_row es (ascending_weaker _ _ (λ a b below. row_order a b ∙ below) es up)

insert_last : (new : Row) (rows : List Row) → AllByRecursion (λ row. entry_cmp plain row new ≡ Less) rows → insert_entry plain new rows ≡ rows ++ new ∷ []
insert_last new [] below = refl
insert_last new (row ∷ rows) below =
    ap (λ o. match_ordering o (row ∷ insert_entry plain new rows) (row ∷ rows) (new ∷ row ∷ rows)) below.0 ∙ ap (λ rest. row ∷ rest) (insert_last new rows below.1)

with_rows-append : (front more : List Row) → IsIndex plain (front ++ more) → with_more_rows front more ≡ front ++ more
with_rows-append front [] up = sym (append-nil front)
with_rows-append front (row ∷ more) up = ap (λ rows. with_more_rows rows more) (insert_last row front (ascending-middle _ front row more up))
    ∙ with_rows-append (front ++ row ∷ []) more (subst (IsIndex plain) (sym (append_assoc front (row ∷ []) more)) up) ∙ append_assoc front (row ∷ []) more

-- put where there are none, the rows of entries that ascend stay as they are
pub with_ascending : (es : List (Key × Register)) → IsAscending (λ a b. entry_order a b ≡ Less) es → with_more_rows [] (map entry_row es) ≡ map entry_row es
with_ascending es up = with_rows-append [] (map entry_row es) (ascending_rows es up)

first_below : (o p : Ordering) → is_lt o ≡ true → ordering_then o p ≡ Less
first_below Less p h = refl
first_below Equal p h = absurd (let e = h in cc)
first_below Greater p h = absurd (let e = h in cc)

-- the rows of a map ascend
pub ascending_map : (rows : List (Key × Register)) → IsMap text_order rows → IsAscending (λ a b. entry_order a b ≡ Less) rows
ascending_map [] up = tt
ascending_map (row ∷ rows) up = (all_weaker _ _ (λ later below. first_below _ _ below) rows up.0, ascending_map rows up.1)
