-- Lines that are written one after the other.
use Rattle.std.proofs.Common.{◌≡◌, ℕ, zero, suc, ◌+◌, ◌-◌, ◌<◌, Bool, List, [], ◌∷◌, ◌++◌, length, get_or, take, flat_map, filter_map, append-nil, refl, ap, sym, ◌∙◌, arith}
use Rattle.std.proofs.lemmas.List.{length-append, take_more}
use Rattle.std.proofs.lemmas.List.Concat.{flat_map-append}
use Rattle.std.proofs.lemmas.List.Elements.{filter_map-append}
use Rattle.key_order.specs.Text.{Text as Key}
use Rattle.store_file.specs.declared.register.Register.{Register}
use Rattle.mst_commands.specs.Lines.{Pair, line_as, pair_within, listed_lines}
use Rattle.mst_commands.specs.declared.bounds.Bounds.{Bounds}

none_taken : {A : Type 0} (n : ℕ) → ◌≡◌ {A = List A} (take n []) []
none_taken zero = refl
none_taken (suc n) = refl

take_both : {A : Type 0} (xs ys : List A) (n : ℕ) → take n (xs ++ ys) ≡ take n xs ++ take (n - length xs) ys
take_both [] ys n = let same : n ≡ n - 0 = omega arith in ap (λ m. take m ys) same ∙ ap (λ l. l ++ take (n - 0) ys) (sym (none_taken n))
take_both (x ∷ xs) ys zero = let same : 0 ≡ 0 - length (x ∷ xs) = omega arith in ap (λ m. take m ys) same
take_both (x ∷ xs) ys (suc n) =
    let same : n - length xs ≡ suc n - length (x ∷ xs) = omega arith in
    ap (λ l. x ∷ l) (take_both xs ys n ∙ ap (λ m. take n xs ++ take m ys) same)

-- the lines of rows and of one more, as many as may be listed after them
pub lines_more : (bounds : Bounds) (json : Bool) (limit left : ℕ) (rows : List (Key × Register)) (row : Key × Register) → left ≡ limit - length (filter_map (pair_within bounds) rows)
    → listed_lines bounds json limit rows ++ listed_lines bounds json left (row ∷ []) ≡ listed_lines bounds json limit (rows ++ row ∷ [])
lines_more bounds json limit left rows row is =
    let pairs = filter_map (pair_within bounds) rows in
    let next = filter_map (pair_within bounds) (row ∷ []) in
    ap (λ (n : ℕ). listed_lines bounds json limit rows ++ flat_map (line_as json) (take n next)) is
    ∙ sym (flat_map-append (line_as json) (take limit pairs) (take (limit - length pairs) next))
    ∙ ap (flat_map (line_as json)) (sym (take_both pairs next limit))
    ∙ ap (λ (l : List Pair). flat_map (line_as json) (take limit l)) (sym (filter_map-append (pair_within bounds) rows (row ∷ [])))

-- how many may be listed after rows and one more
pub left_more : (bounds : Bounds) (limit left after : ℕ) (rows : List (Key × Register)) (row : Key × Register) → left ≡ limit - length (filter_map (pair_within bounds) rows)
    → after ≡ left - length (filter_map (pair_within bounds) (row ∷ [])) → after ≡ limit - length (filter_map (pair_within bounds) (rows ++ row ∷ []))
left_more bounds limit left after rows row is e =
    let pairs = filter_map (pair_within bounds) rows in
    let next = filter_map (pair_within bounds) (row ∷ []) in
    let all = ap length (filter_map-append (pair_within bounds) rows (row ∷ [])) ∙ length-append pairs next in
    omega (arith, is, e, all)

-- pieces of the first items, and of one more
pub pieces_more : {X : Type 0} (f : X → List ℕ) (xs : List X) (i : ℕ) (x : X) → i < length xs → x ≡ get_or xs i x → flat_map f (take i xs) ++ f x ≡ flat_map f (take (i + 1) xs)
pieces_more f xs i x inside at =
    ap (λ y. flat_map f (take i xs) ++ f y) at ∙ ap (λ l. flat_map f (take i xs) ++ l) (sym (append-nil (f (get_or xs i x))))
    ∙ sym (flat_map-append f (take i xs) (get_or xs i x ∷ [])) ∙ ap (flat_map f) (sym (take_more xs i x inside))
