-- Messages and replies tell what stands in them.
use Rattle.std.proofs.Common.{◌≡◌, ℕ, List, [], ◌∷◌, ◌++◌, refl, sym, ap, ap₂, ◌∙◌}
use Rattle.std.specs.List.{AllZip}
use Rattle.merkle_bytes.specs.Counts.{count_bytes, count_told}
use Rattle.merkle_bytes.specs.Encodings.{list_bytes}
use Rattle.merkle_bytes.proofs.Listed.{alone, as_list, run_told, stays}
use Rattle.merkle_delta.specs.Messages.{asking_bytes}

-- a reply tells one delta
pub told_alone : (delta other : List ℕ) → 1 ∷ 134 ∷ delta ≡ 1 ∷ 134 ∷ other → delta ≡ other
told_alone delta other e = cc

-- after the front of a message stand the checksums and the question
pub asked_alone : (asked : List ℕ) (checksums question : List ℕ) → 1 ∷ 6 ∷ asked ≡ asking_bytes checksums question → asked ≡ list_bytes count_bytes checksums ++ question
asked_alone asked checksums question e = cc

same_counts : (xs ys : List ℕ) → AllZip (λ x y. x ≡ y) xs ys → xs ≡ ys
same_counts [] [] same = refl
same_counts [] (y ∷ ys) same = absurd same
same_counts (x ∷ xs) [] same = absurd same
same_counts (x ∷ xs) (y ∷ ys) same = ap₂ (λ n ns. n ∷ ns) same.0 (same_counts xs ys same.1)

-- the bytes of counts in a list tell them, and what is after them
counts_told : (xs ys r t : List ℕ) → list_bytes count_bytes xs ++ r ≡ list_bytes count_bytes ys ++ t → (xs ≡ ys) × (r ≡ t)
counts_told xs ys r t e =
    let told = run_told (alone count_bytes) stays (λ x y. x ≡ y) (λ u x y r t e. let both = count_told x y r t e in (both.0, refl, both.1)) tt xs ys r t
    (ap (λ b. b ++ r) (as_list count_bytes xs) ∙ e ∙ ap (λ b. b ++ t) (sym (as_list count_bytes ys))) in
    (same_counts xs ys told.0, told.2)

-- a message tells the checksums in it, and the question
pub asking_told : (xs ys question other : List ℕ) → asking_bytes xs question ≡ asking_bytes ys other → (xs ≡ ys) × (question ≡ other)
asking_told xs ys question other e = counts_told xs ys question other (asked_alone (list_bytes count_bytes xs ++ question) ys other e)
