-- Rows that are read one after the other, as entries or as none.
use Rattle.std.proofs.Common.{◌≡◌, ◌+◌, ℕ, List, [], ◌∷◌, ◌++◌, Option, Some, None, inl, inr, refl, sym, ap, ap₂, ◌∙◌, map, length, filter, filter_map, is_none, append-nil, arith}
use Rattle.std.proofs.lemmas.List.{length-append}
use Rattle.std.proofs.lemmas.List.Elements.{filter-append, filter_map-append}
use Rattle.key_order.specs.Text.{Text as Key}
use Rattle.sqlite_value.specs.Order.{Row}
use Rattle.store_file.specs.Entries.{entry_row}
use Rattle.store_file.specs.Sifting.{AreReadAs, AreSifted, IsReadAs, TakesIn}
use Rattle.store_file.specs.declared.register.Register.{Register}

read_more : (rows : List Row) (readings : List (Option (Key × Register))) (row : Row) (reading : Option (Key × Register))
    → AreReadAs rows readings → IsReadAs row reading → AreReadAs (rows ++ row ∷ []) (readings ++ reading ∷ [])
read_more [] [] row reading h last = (last, tt)
read_more [] (x ∷ xs) row reading h last = absurd h
read_more (r ∷ rs) [] row reading h last = absurd h
read_more (r ∷ rs) (x ∷ xs) row reading h last = (h.0, read_more rs xs row reading h.1 last)

-- so many of the readings are none, with one more
none_more : (readings : List (Option (Key × Register))) (reading : Option (Key × Register))
    → length (filter is_none (readings ++ reading ∷ [])) ≡ length (filter is_none readings) + length (filter is_none (reading ∷ []))
none_more readings reading = ap length (filter-append is_none readings (reading ∷ [])) ∙ length-append (filter is_none readings) (filter is_none (reading ∷ []))

-- no row is read as no entry so far
pub none_sifted : AreSifted [] [] 0
none_sifted = record { readings = []; read = tt; found = refl; others = refl }

-- one row more is taken in
pub sifted_more : (rows : List Row) (row : Row) (entries more : List (Key × Register)) (bad others : ℕ)
    → AreSifted rows entries bad → TakesIn row entries bad more others → AreSifted (rows ++ row ∷ []) more others
sifted_more rows row entries more bad others s (inl x) = record {
  readings = s.readings ++ Some x.0 ∷ [];
  read = read_more rows s.readings row (Some x.0) s.read x.1;
  found = x.2 ∙ ap (λ front. front ++ x.0 ∷ []) s.found ∙ sym (filter_map-append (λ reading. reading) s.readings (Some x.0 ∷ []));
  others = omega (arith, x.3, s.others, none_more s.readings (Some x.0));
}
sifted_more rows row entries more bad others s (inr x) = record {
  readings = s.readings ++ None ∷ [];
  read = read_more rows s.readings row None s.read x.0;
  found = x.1 ∙ s.found ∙ sym (filter_map-append (λ reading. reading) s.readings (None ∷ []) ∙ append-nil (filter_map (λ reading. reading) s.readings));
  others = omega (arith, x.2, s.others, none_more s.readings None);
}

entries_of_all : (rows : List Row) (readings : List (Option (Key × Register))) → AreReadAs rows readings → length (filter is_none readings) ≡ 0
    → rows ≡ map entry_row (filter_map (λ reading. reading) readings)
entries_of_all [] [] h none = refl
entries_of_all [] (x ∷ xs) h none = absurd h
entries_of_all (r ∷ rs) [] h none = absurd h
entries_of_all (r ∷ rs) (Some e ∷ xs) h none = ap₂ (λ (row : Row) (rest : List Row). row ∷ rest) h.0.0 (entries_of_all rs xs h.1 none)
entries_of_all (r ∷ rs) (None ∷ xs) h none = absurd (omega (arith, none))

-- where no row is none, all rows are those of the entries
pub all_sifted : (rows : List Row) (entries : List (Key × Register)) (bad : ℕ) → AreSifted rows entries bad → bad ≡ 0 → rows ≡ map entry_row entries
all_sifted rows entries bad s none = entries_of_all rows s.readings s.read (sym s.others ∙ none) ∙ ap (map entry_row) (sym s.found)
