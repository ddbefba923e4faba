-- Rows, page ranges, key ranges and digests as bytes: a list of each is read in one way.
use Rattle.std.proofs.Common.{◌≡◌, ℕ, ◌<◌, ◌≤◌, ◌^◌, List, ◌++◌, length, sym, ap, ◌∙◌, arith}
use Rattle.std.specs.Bool.{⊤}
use Rattle.std.proofs.lemmas.List.{append_assoc, length-append, map-id}
use Rattle.std.specs.List.{AllByRecursion, flat_map}
use Rattle.key_order.specs.Interval.{Span}
use Rattle.key_order.proofs.ListParts.{join_tells}
use Rattle.merkle_diff.specs.Entry.{Entry}
use Rattle.merkle_search_tree.specs.Loading.{row_count}
use Rattle.c_trees.specs.Lists.{ArePageRanges, HasDigest, IsPageRange}
use Rattle.c_trees.specs.Wire.{digest_bytes, digest_mark, digest_list, range_entry, key_mark, key_ranges_bytes, page_mark, span_bytes}
use Rattle.c_values.specs.Lists.{marked_list, number_bytes, sized_row, row_mark, row_list, sized_bytes}
use Rattle.c_trees.proofs.Lists.{each_trivial, list_length, no_more, one_list}
use Rattle.c_values.proofs.Strings.{one_row, one_row_with, one_text, some_row}

one_trivial_row : (x y : List ℕ × List ℕ) (r s : List ℕ) → ⊤ → ⊤ → length (sized_row x ++ r) < 2 ^ 64 → sized_row x ++ r ≡ sized_row y ++ s → (x ≡ y) × (r ≡ s)
one_trivial_row x y r s p q = one_row x y r s

pub row_ends : (x y : List ℕ × List ℕ) (r s : List ℕ) → ⊤ → ⊤ → length (sized_row x ++ r) < 2 ^ 64 → sized_row x ++ r ≡ sized_row y ++ s → r ≡ s
row_ends x y r s p q fits e = (one_row x y r s fits e).1

-- a list of rows is read in one way
pub one_list_of_rows : (all : List ℕ) (xs ys : List (List ℕ × List ℕ)) → length all < 2 ^ 64 → all ≡ row_list xs → all ≡ row_list ys → xs ≡ ys
one_list_of_rows all xs ys short e f =
    sym (map-id xs) ∙ one_list sized_row some_row (λ _. ⊤) (λ x. x) one_trivial_row row_mark all xs ys short (each_trivial xs) (each_trivial ys) e f ∙ map-id ys

-- a page range as its keys, and its digest with what is after
pub as_row : (e : Entry (List ℕ) (List ℕ)) (rest : List ℕ) → range_entry e ++ rest ≡ sized_row (e.first, e.last) ++ (e.digest ++ rest)
as_row e rest =
    let first = sized_bytes e.first in let last = sized_bytes e.last in
    append_assoc first (last ++ e.digest) rest ∙ ap (λ t. first ++ t) (append_assoc last e.digest rest) ∙ sym (append_assoc first last (e.digest ++ rest))

one_entry : (e f : Entry (List ℕ) (List ℕ)) (r s : List ℕ) → IsPageRange e → IsPageRange f → length (range_entry e ++ r) < 2 ^ 64
    → range_entry e ++ r ≡ range_entry f ++ s → (e ≡ f) × (r ≡ s)
one_entry e f r s p q fits is =
    let parts = one_row_with (e.first, e.last) (f.first, f.last) e.digest f.digest r s (p.0 ∙ sym q.0) (omega (arith, ap length (as_row e r)))
    (sym (as_row e r) ∙ is ∙ as_row f s) in
    ((λ i. record { first = (parts.0 i).0; last = (parts.0 i).1; digest = parts.1 i }), parts.2)

pub entry_ends : (e f : Entry (List ℕ) (List ℕ)) (r s : List ℕ) → IsPageRange e → IsPageRange f → length (range_entry e ++ r) < 2 ^ 64
    → range_entry e ++ r ≡ range_entry f ++ s → r ≡ s
entry_ends e f r s p q fits is = (one_entry e f r s p q fits is).1

pub some_entry : (e : Entry (List ℕ) (List ℕ)) → 1 ≤ length (range_entry e)
some_entry e = omega (arith, length-append (sized_bytes e.first) (sized_bytes e.last ++ e.digest), length-append (number_bytes (length e.first)) e.first)

-- a list of page ranges is read in one way
pub one_list_of_page_ranges : (all : List ℕ) (es fs : List (Entry (List ℕ) (List ℕ))) → length all < 2 ^ 64 → ArePageRanges all es → ArePageRanges all fs → es ≡ fs
one_list_of_page_ranges all es fs short e f =
    sym (map-id es) ∙ one_list range_entry some_entry IsPageRange (λ e. e) one_entry page_mark all es fs short e.1 f.1 e.0 f.0 ∙ map-id fs

-- a key range is written as the row of its bounds
abbrev bounds : Span (List ℕ) → List ℕ × List ℕ
bounds s = (s.first, s.last)

one_span : (s t : Span (List ℕ)) (a b : List ℕ) → ⊤ → ⊤ → length (span_bytes s ++ a) < 2 ^ 64 → span_bytes s ++ a ≡ span_bytes t ++ b → (s ≡ t) × (a ≡ b)
one_span s t a b p q fits is =
    let both = one_row (bounds s) (bounds t) a b fits is in
    ((λ i. record { first = (both.0 i).0; last = (both.0 i).1 }), both.1)

-- a list of key ranges is read in one way
pub one_list_of_key_ranges : (all : List ℕ) (ss ts : List (Span (List ℕ))) → length all < 2 ^ 64 → all ≡ key_ranges_bytes ss → all ≡ key_ranges_bytes ts → ss ≡ ts
one_list_of_key_ranges all ss ts short e f =
    sym (map-id ss) ∙ one_list span_bytes (λ s. some_row (bounds s)) (λ _. ⊤) (λ s. s) one_span key_mark all ss ts short (each_trivial ss) (each_trivial ts) e f ∙ map-id ts

-- a key and its digest with what is after
pub as_text : (x : List ℕ × List ℕ) (rest : List ℕ) → digest_bytes x ++ rest ≡ sized_bytes x.0 ++ (x.1 ++ rest)
as_text x rest = append_assoc (sized_bytes x.0) x.1 rest

pub one_digest : (x y : List ℕ × List ℕ) (r s : List ℕ) → HasDigest x → HasDigest y → length (digest_bytes x ++ r) < 2 ^ 64 → digest_bytes x ++ r ≡ digest_bytes y ++ s → (x ≡ y) × (r ≡ s)
one_digest x y r s p q fits e =
    let key = one_text x.0 y.0 (x.1 ++ r) (y.1 ++ s) (omega (arith, ap length (as_text x r))) (sym (as_text x r) ∙ e ∙ as_text y s) in
    let rest = join_tells x.1 y.1 r s (p ∙ sym q) key.1 in
    ((λ i. (key.0 i, rest.0 i)), rest.1)

pub digest_ends : (x y : List ℕ × List ℕ) (r s : List ℕ) → HasDigest x → HasDigest y → length (digest_bytes x ++ r) < 2 ^ 64 → digest_bytes x ++ r ≡ digest_bytes y ++ s → r ≡ s
digest_ends x y r s p q fits e = (one_digest x y r s p q fits e).1

pub some_digest : (x : List ℕ × List ℕ) → 1 ≤ length (digest_bytes x)
some_digest x = omega (arith, length-append (sized_bytes x.0) x.1, length-append (number_bytes (length x.0)) x.0)

-- the number of a list of digests in memory is that of its keys
pub counted_digests : (all : List ℕ) (xs : List (List ℕ × List ℕ)) → length all < 2 ^ 64 → all ≡ digest_list xs → all ≡ marked_list digest_mark digest_bytes xs
counted_digests all xs short e =
    let count : row_count xs ≡ length xs = omega (arith, no_more digest_bytes some_digest xs, ap length e, list_length digest_mark (row_count xs) (flat_map digest_bytes xs)) in
    e ∙ ap (λ n. digest_mark ++ (number_bytes n ++ flat_map digest_bytes xs)) count

-- a list of digests is read in one way
pub one_list_of_digests : (all : List ℕ) (xs ys : List (List ℕ × List ℕ)) → length all < 2 ^ 64 → AllByRecursion HasDigest xs → AllByRecursion HasDigest ys
    → all ≡ digest_list xs → all ≡ digest_list ys → xs ≡ ys
one_list_of_digests all xs ys short ps qs e f =
    sym (map-id xs) ∙ one_list digest_bytes some_digest HasDigest (λ x. x) one_digest digest_mark all xs ys short ps qs (counted_digests all xs short e) (counted_digests all ys short f) ∙ map-id ys
