-- What was read of the table.
use Rattle.std.proofs.Common.{◌≡◌, ℕ, ◌+◌, Bool, false, cond, List, [], ◌∷◌, ◌++◌, flat_map, ap, sym, ◌∙◌, append-nil, append_assoc}
use Rattle.std.specs.List.{count_by}
use Rattle.std.proofs.lemmas.List.Concat.{flat_map-append}
use Rattle.std.proofs.lemmas.List.Sums.{fold-append}
use Rattle.key_order.specs.Text.{Text as Key}
use Rattle.csv.specs.Writing.{row_text, default_writer}
use Rattle.store_file.specs.declared.register.Register.{Register}
use Rattle.mst_commands.specs.Records.{header, pair_text, pairs_text}

count_more : {X : Type 0} (p : X → Bool) (xs : List X) (x : X) → count_by p (xs ++ x ∷ []) ≡ count_by p xs + cond (p x) 1 0
count_more p xs x = fold-append (λ a y. a + cond (p y) 1 0) 0 xs (x ∷ [])

pieces_then : {X : Type 0} (f : X → List ℕ) (front : List ℕ) (xs : List X) (x : X) → (front ++ flat_map f xs) ++ f x ≡ front ++ flat_map f (xs ++ x ∷ [])
pieces_then f front xs x =
    append_assoc front (flat_map f xs) (f x)
    ∙ ap (λ (text : List ℕ). front ++ text) (ap (λ (text : List ℕ). flat_map f xs ++ text) (sym (append-nil (f x))) ∙ sym (flat_map-append f xs (x ∷ [])))

-- rows as CSV, and one more
pub pairs_more : (rows : List (Key × Register)) (row : Key × Register) → pairs_text rows ++ pair_text row ≡ pairs_text (rows ++ row ∷ [])
pairs_more rows row = pieces_then pair_text (row_text default_writer (header false)) rows row
