-- Bytes tell the entries of the list that they spell, up to equal names.
use Rattle.std.proofs.Common.{◌≡◌, ℕ, List, [], ◌∷◌, ◌++◌, take, map, max, nat_eq, true, string_bytes, refl, sym, ap, ap₂, subst, ◌∙◌}
use Rattle.std.specs.Cmp.{nat_eq_equiv}
use Rattle.std.specs.List.{AllByRecursion, AllZip}
use Rattle.std.specs.Ordering.{is_eq}
use Rattle.std.specs.String.{string_cmp_total}
use Rattle.std.proofs.lemmas.List.{append_assoc, length-map}
use Rattle.std.proofs.lemmas.List.Folds.{flat_map-map}
use Rattle.key_order.specs.Interval.{Span, SameSpan}
use Rattle.key_order.specs.Join.{IsJoin}
use Rattle.key_order.specs.Map.{SameMap, rows_in}
use Rattle.key_order.specs.Order.{Same}
use Rattle.key_order.specs.Text.{Text, text_order}
use Rattle.key_order.proofs.Clones.{string_clone}
use Rattle.key_order.specs.NumberLaws.{max_joining}
use Rattle.key_order.proofs.SameRows.{joins-came}
use Rattle.merkle_bytes.specs.Counts.{count_bytes}
use Rattle.merkle_bytes.specs.Encodings.{list_bytes}
use Rattle.merkle_bytes.specs.PageRanges.{bounds_told}
use Rattle.merkle_bytes.specs.Refusals.{IsMalformed}
use Rattle.merkle_bytes.specs.Telling.{string_told, number_told}
use Rattle.merkle_bytes.specs.declared.error.ReadError.{ReadError}
use Rattle.merkle_bytes.specs.declared.error.ReadError.TheVariants as read
use Rattle.merkle_bytes.proofs.EqualByOrder.{eq_same}
use Rattle.merkle_bytes.proofs.Listed.{alone, stays, as_list, run_told}
use Rattle.merkle_diff.specs.Entry.{Entry}
use Rattle.merkle_diff.specs.Merge.{SameSpans}
use Rattle.merkle_diff.specs.SameEntries.{SameEntry, SameEntries}
use Rattle.merkle_diff.proofs.SameSpans.{rows_in-alike}
use Rattle.merkle_replica.proofs.RowCopies.{take_same}
use Rattle.examples.specs.Wire.{wire_fault_of, text_bytes, page_range_bytes, range_bytes, name_row_bytes}
use Rattle.examples.specs.declared.wire.WireFault.TheVariants.{Malformed}

-- bytes are malformed only where memory was not the reason
pub malformed_of : (error : ReadError) → wire_fault_of error ≡ Malformed → IsMalformed error
malformed_of read.Memory is = absurd (cc)
malformed_of (read.Unexpected offset expected) is = tt

-- a list is spelled as that of what its entries are
pub list-map : {X Y : Type 0} (bytes : Y → List ℕ) (to : X → Y) (xs : List X) → list_bytes (λ x. bytes (to x)) xs ≡ list_bytes bytes (map to xs)
list-map bytes to xs = ap₂ (λ n t. count_bytes n ++ t) (sym (length-map xs to)) (sym (flat_map-map bytes to xs))

-- where each entry is made of another, the list is made of a list of others
pub all_made : {X Y : Type 0} (to : X → Y) (P : Y → Type 0) → ((y : Y) → P y → (x : X) × (to x ≡ y)) → (ys : List Y) → AllByRecursion P ys → (xs : List X) × (map to xs ≡ ys)
all_made to P make [] each = ([], refl)
all_made to P make (y ∷ ys) each =
    let (x, is) = make y each.0 in
    let (xs, are) = all_made to P make ys each.1 in
    (x ∷ xs, ap₂ (λ z zs. z ∷ zs) is are)

-- a pair of names as a span
abbrev pub as_span : Text × Text → Span Text
as_span r = record { first = r.0; last = r.1 }

-- two lists that the same bytes spell have related entries
pub lists_tell : {X : Type 0} (bytes : X → List ℕ) (R : X → X → Type 0) → ((x y : X) (r s : List ℕ) → bytes x ++ r ≡ bytes y ++ s → R x y × (r ≡ s))
    → (xs ys : List X) (all : List ℕ) → all ≡ list_bytes bytes xs → all ≡ list_bytes bytes ys → AllZip R xs ys
lists_tell bytes R tells xs ys all e f =
    let same = as_list bytes xs ∙ sym e ∙ f ∙ sym (as_list bytes ys) in
    (run_told (alone bytes) stays R (λ u x y r s e. let both = tells x y r s e in (both.0, refl, both.1)) tt xs ys [] [] (ap (λ t. t ++ []) same)).0

-- a text at the front tells an equal one, and what is after it
text_tells : (t u : Text) (r s : List ℕ) → text_bytes t ++ r ≡ text_bytes u ++ s → Same text_order t u × (r ≡ s)
text_tells t u r s e = let both = string_told (string_bytes t) (string_bytes u) r s e in (string_clone t u (sym both.0), both.1)

row_tells : (x y : Text × ℕ) (r s : List ℕ) → name_row_bytes x ++ r ≡ name_row_bytes y ++ s → (Same text_order x.0 y.0 × (nat_eq x.1 y.1 ≡ true)) × (r ≡ s)
row_tells x y r s e =
    let names = text_tells x.0 y.0 (count_bytes x.1 ++ r) (count_bytes y.1 ++ s) (sym (append_assoc (text_bytes x.0) (count_bytes x.1) r) ∙ e ∙ append_assoc (text_bytes y.0) (count_bytes y.1) s) in
    let numbers = number_told x.1 y.1 r s names.1 in
    ((names.0, numbers.0), numbers.1)

range_tells : (x y : Span Text) (r s : List ℕ) → range_bytes x ++ r ≡ range_bytes y ++ s → SameSpan text_order x y × (r ≡ s)
range_tells x y r s e =
    let firsts = text_tells x.first y.first (text_bytes x.last ++ r) (text_bytes y.last ++ s)
    (sym (append_assoc (text_bytes x.first) (text_bytes x.last) r) ∙ e ∙ append_assoc (text_bytes y.first) (text_bytes y.last) s) in
    let lasts = text_tells x.last y.last r s firsts.1 in
    ((firsts.0, lasts.0), lasts.1)

page_range_tells : (x y : Entry Text (List ℕ)) (r s : List ℕ) → page_range_bytes x ++ r ≡ page_range_bytes y ++ s → SameEntry text_order x y × (r ≡ s)
page_range_tells x y r s e =
    let eq = λ (t u : Text). is_eq (text_order t u) in
    let same = eq_same text_order eq (λ t u. refl) in
    let (firsts, lasts, digests, behind) = bounds_told text_bytes eq (λ t u r s e. let both = text_tells t u r s e in (ap is_eq both.0, both.1)) x y r s e in
    (((same x.first y.first firsts, same x.last y.last lasts), digests), behind)

-- lists of page ranges, of ranges and of rows that the same bytes spell are the same, up to equal names
pub same_page_ranges : (xs ys : List (Entry Text (List ℕ))) (all : List ℕ) → all ≡ list_bytes page_range_bytes xs → all ≡ list_bytes page_range_bytes ys → SameEntries text_order xs ys
same_page_ranges xs ys all e f = as_entries xs ys (lists_tell page_range_bytes (SameEntry text_order) page_range_tells xs ys all e f)
  where
    as_entries : (xs ys : List (Entry Text (List ℕ))) → AllZip (SameEntry text_order) xs ys → SameEntries text_order xs ys
    as_entries [] [] h = tt
    as_entries [] (y ∷ ys) h = absurd h
    as_entries (x ∷ xs) [] h = absurd h
    as_entries (x ∷ xs) (y ∷ ys) h = (h.0, as_entries xs ys h.1)

pub same_ranges : (xs ys : List (Span Text)) (all : List ℕ) → all ≡ list_bytes range_bytes xs → all ≡ list_bytes range_bytes ys → SameSpans text_order xs ys
same_ranges xs ys all e f = as_spans xs ys (lists_tell range_bytes (SameSpan text_order) range_tells xs ys all e f)
  where
    as_spans : (xs ys : List (Span Text)) → AllZip (SameSpan text_order) xs ys → SameSpans text_order xs ys
    as_spans [] [] h = tt
    as_spans [] (y ∷ ys) h = absurd h
    as_spans (x ∷ xs) [] h = absurd h
    as_spans (x ∷ xs) (y ∷ ys) h = (h.0, as_spans xs ys h.1)

pub same_rows : (xs ys : List (Text × ℕ)) (all : List ℕ) → all ≡ list_bytes name_row_bytes xs → all ≡ list_bytes name_row_bytes ys → SameMap text_order (λ x y. nat_eq x y ≡ true) xs ys
same_rows xs ys all e f = as_rows xs ys (lists_tell name_row_bytes (λ x y. Same text_order x.0 y.0 × (nat_eq x.1 y.1 ≡ true)) row_tells xs ys all e f)
  where
    as_rows : (xs ys : List (Text × ℕ)) → AllZip (λ x y. Same text_order x.0 y.0 × (nat_eq x.1 y.1 ≡ true)) xs ys → SameMap text_order (λ x y. nat_eq x y ≡ true) xs ys
    as_rows [] [] h = tt
    as_rows [] (y ∷ ys) h = absurd h
    as_rows (x ∷ xs) [] h = absurd h
    as_rows (x ∷ xs) (y ∷ ys) h = (h.0.0, h.0.1, as_rows xs ys h.1)

-- the rows that came are those that were asked for, and so are the first of them, which are joined alike
pub rows_asked_for : (peer : List (Text × ℕ)) (found spans : List (Span Text)) (got : List (Text × ℕ)) (asked sent : List ℕ)
    → asked ≡ list_bytes range_bytes found → asked ≡ list_bytes range_bytes spans → sent ≡ list_bytes name_row_bytes (rows_in text_order spans peer) → sent ≡ list_bytes name_row_bytes got
    → SameMap text_order (λ x y. nat_eq x y ≡ true) (rows_in text_order found peer) got
rows_asked_for peer found spans got asked sent asks read spelled came =
    subst (λ rows. SameMap text_order (λ x y. nat_eq x y ≡ true) rows got) (sym (rows_in-alike text_order string_cmp_total found spans (same_ranges found spans asked asks read) peer))
    (same_rows (rows_in text_order spans peer) got sent spelled came)

pub first_joined : (local asked_for got after : List (Text × ℕ)) (done : ℕ) → SameMap text_order (λ x y. nat_eq x y ≡ true) asked_for got
    → IsJoin text_order nat_eq max local (take done got) after → IsJoin text_order nat_eq max local (take done asked_for) after
first_joined local asked_for got after done same =
    joins-came text_order string_cmp_total nat_eq nat_eq_equiv max max_joining local (take done asked_for) (take done got) after
    (take_same text_order string_cmp_total (λ x y. nat_eq x y ≡ true) done asked_for got same)
