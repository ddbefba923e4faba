-- Characters that are written one after the other.
use Rattle.std.proofs.Common.{◌≡◌, ℕ, List, [], ◌∷◌, ◌++◌, encode_utf8_all, sym, ap, ◌∙◌}
use Rattle.std.specs.List.{flat_map}
use Rattle.std.proofs.lemmas.List.{flat_map_more}
use Rattle.std.proofs.lemmas.Str.{encodes-append}

-- a character more
pub spelt_more : (f : ℕ → List ℕ) (done : List ℕ) (c : ℕ) → encode_utf8_all (flat_map f done) ++ encode_utf8_all (f c) ≡ encode_utf8_all (flat_map f (done ++ c ∷ []))
spelt_more f done c = sym (encodes-append (flat_map f done) (f c)) ∙ ap encode_utf8_all (flat_map_more f [] done c)
