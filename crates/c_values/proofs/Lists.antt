-- Lists as bytes, one entry after the other.
use Rattle.std.proofs.Common.{◌≡◌, ℕ, ◌+◌, ◌<◌, List, [], ◌∷◌, ◌++◌, map, length, take, get_or, sym, ap, ◌∙◌}
use Rattle.std.specs.List.{flat_map}
use Rattle.std.proofs.lemmas.List.{append_assoc, append-nil, map-append, take_more}
use Rattle.std.proofs.lemmas.Grind.{flat_map-append}

-- one entry more is written
pub one_more : {X Y : Type 0} (to : X → Y) (bytes : Y → List ℕ) (xs : List X) (i : ℕ) (x : X) (front old new : List ℕ)
    → i < length xs → x ≡ get_or xs i x → old ≡ front ++ flat_map bytes (map to (take i xs)) → new ≡ old ++ bytes (to x) → new ≡ front ++ flat_map bytes (map to (take (i + 1) xs))
one_more to bytes xs i x front old new low is was put =
    let done = flat_map bytes (map to (take i xs)) in
    put ∙ ap (λ t. t ++ bytes (to x)) was ∙ append_assoc front done (bytes (to x))
    ∙ ap (λ t. front ++ t)
    (ap (λ t. done ++ t) (sym (append-nil (bytes (to x)))) ∙ sym (flat_map-append bytes (map to (take i xs)) (to x ∷ []))
    ∙ ap (flat_map bytes) (sym (map-append to (take i xs) (x ∷ [])))
    ∙ ap (λ t. flat_map bytes (map to t)) (ap (λ y. take i xs ++ y ∷ []) is ∙ sym (take_more xs i x low)))

-- one entry more was read
pub read_more : {X : Type 0} (bytes : X → List ℕ) (done : List X) (x : X) (all rest behind : List ℕ)
    → all ≡ flat_map bytes done ++ rest → rest ≡ bytes x ++ behind → all ≡ flat_map bytes (done ++ x ∷ []) ++ behind
read_more bytes done x all rest behind e f =
    e ∙ ap (λ t. flat_map bytes done ++ t) f ∙ sym (append_assoc (flat_map bytes done) (bytes x) behind)
    ∙ ap (λ t. t ++ behind) (ap (λ t. flat_map bytes done ++ t) (sym (append-nil (bytes x))) ∙ sym (flat_map-append bytes done (x ∷ [])))
