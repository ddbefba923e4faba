-- What is told of a page, as it is read.
use Rattle.std.proofs.Common.{◌≡◌, ℕ, ◌+◌, List, [], ◌∷◌, ◌++◌, length, map, Option, get_or, refl, ap, ap₂, sym, ◌∙◌, append_assoc, arith}
use Rattle.std.proofs.lemmas.List.{length-append, length-map}
use Rattle.merkle_wire.specs.Steps.{below_keys, digests_beside}
use Rattle.merkle_wire.specs.declared.wanted.Wanted.{Wanted}

one_byte : (bytes : List ℕ) (b : ℕ) → length bytes ≡ 1 → get_or bytes 0 0 ≡ b → bytes ≡ b ∷ []
one_byte [] b n e = absurd (omega (arith, n))
one_byte (x ∷ []) b n e = ap (λ y. y ∷ []) e
one_byte (x ∷ y ∷ ys) b n e = absurd (omega (arith, n))

-- one byte was read
pub kind_read : (kind begun mid : List ℕ) → begun ≡ kind ++ mid → length kind ≡ 1 → begun ≡ get_or kind 0 0 ∷ mid
kind_read kind begun mid b n = b ∙ ap (λ front. front ++ mid) (one_byte kind (get_or kind 0 0) n refl)

-- a byte, and what is written after a key
pub kind_and_rest : (kind : List ℕ) (byte : ℕ) (bytes : List ℕ → List ℕ) (last run begun mid left : List ℕ) → begun ≡ kind ++ mid → length kind ≡ 1 → get_or kind 0 0 ≡ byte → mid ≡ bytes run ++ left
    → run ≡ last → begun ≡ (byte ∷ bytes last) ++ left
kind_and_rest kind byte bytes last run begun mid left b n k m r =
    b ∙ ap₂ (λ front rest. front ++ rest) (one_byte kind byte n k) m ∙ ap (λ t. byte ∷ (bytes t ++ left)) r

-- three parts, one after the other
pub three_read : (first second third begun one two left : List ℕ) → begun ≡ first ++ one → one ≡ second ++ two → two ≡ third ++ left → begun ≡ (first ++ (second ++ third)) ++ left
three_read first second third begun one two left a b c =
    a ∙ ap (λ t. first ++ t) (b ∙ ap (λ t. second ++ t) c ∙ sym (append_assoc second third left)) ∙ sym (append_assoc first (second ++ third) left)

-- beside the keys of a page there is one digest more than there are keys
pub beside_all : {K : Type 0} (below : List (Option (List ℕ) × Wanted K)) (last : Option (List ℕ)) → length (digests_beside below last) ≡ length (below_keys below) + 1
beside_all below last =
    omega (arith, length-append (map (λ b. b.0) below) (last ∷ []), length-map below (λ (b : Option (List ℕ) × Wanted _). b.0), length-map below (λ (b : Option (List ℕ) × Wanted _). b.1.key))
