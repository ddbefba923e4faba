-- Page ranges as bytes.
use Rattle.std.proofs.Common.{nat_eq, sym, ap₂, ◌∙◌, arith}
use Rattle.std.specs.Cmp.Lexicographic.{pointwise, bytes_decides}
use Rattle.std.proofs.lemmas.List.{append_assoc, length-append}
use Rattle.merkle_diff.specs.SameEntries.{same_entry}
use Rattle.std.specs.Prelude.{◌≡◌, ℕ, ◌≤◌, Bool, true, ◌&&◌, List, ◌++◌, length}
use Rattle.std.specs.declared.cmp.Ordering.{Ordering}
use Rattle.key_order.specs.Order.{Upto}
use Rattle.merkle_diff.specs.Entry.{Entry}
use Rattle.merkle_bytes.specs.Encodings.{string_encoding}
use Rattle.merkle_bytes.specs.Telling.{some_string, string_told}

module _ {K : Type 0} (encoding : K → List ℕ) where
  -- a page range: its first key, its last key, and its digest
  abbrev pub entry_bytes : Entry K (List ℕ) → List ℕ
  entry_bytes e = (encoding e.first ++ encoding e.last) ++ string_encoding e.digest

module _ {K : Type 0} (is_key : K → Type 0) (cmp : K → K → Ordering) where
  -- what a page range keeps to: its first key isn't above its last, and its digest has 16 bytes
  abbrev pub IsEntry : Entry K (List ℕ) → Type 0
  IsEntry e = is_key e.first × is_key e.last × Upto cmp e.first e.last × (length e.digest ≡ 16)

module _ {K : Type 0} (encoding : K → List ℕ) where
  pub entry_some : (e : Entry K (List ℕ)) → 1 ≤ length (entry_bytes encoding e)
  entry_some e = omega (arith, some_string e.digest, length-append (encoding e.first ++ encoding e.last) (string_encoding e.digest))

  module _ (eq : K → K → Bool) (told : (x y : K) (r s : List ℕ) → encoding x ++ r ≡ encoding y ++ s → (eq x y ≡ true) × (r ≡ s)) where
    -- a page range at the front tells its keys and its digest, and what is after it
    pub bounds_told : (x y : Entry K (List ℕ)) (r s : List ℕ) → entry_bytes encoding x ++ r ≡ entry_bytes encoding y ++ s
        → (eq x.first y.first ≡ true) × (eq x.last y.last ≡ true) × (x.digest ≡ y.digest) × (r ≡ s)
    bounds_told x y r s e =
        let in_turn : (z : Entry K (List ℕ)) (rest : List ℕ) → entry_bytes encoding z ++ rest ≡ encoding z.first ++ (encoding z.last ++ (string_encoding z.digest ++ rest))
        = λ z rest. append_assoc (encoding z.first ++ encoding z.last) (string_encoding z.digest) rest ∙ append_assoc (encoding z.first) (encoding z.last) (string_encoding z.digest ++ rest) in
        let firsts = told x.first y.first (encoding x.last ++ (string_encoding x.digest ++ r)) (encoding y.last ++ (string_encoding y.digest ++ s)) (sym (in_turn x r) ∙ e ∙ in_turn y s) in
        let lasts = told x.last y.last (string_encoding x.digest ++ r) (string_encoding y.digest ++ s) firsts.1 in
        let digests = string_told x.digest y.digest r s lasts.1 in
        (firsts.0, lasts.0, digests.0, digests.1)

    -- which are equal by the test
    pub entry_told : (x y : Entry K (List ℕ)) (r s : List ℕ) → entry_bytes encoding x ++ r ≡ entry_bytes encoding y ++ s → (same_entry eq (pointwise nat_eq) x y ≡ true) × (r ≡ s)
    entry_told x y r s e =
        let t = bounds_told x y r s e in
        (ap₂ (λ a b. a && b) t.0 (ap₂ (λ a b. a && b) t.1 ((bytes_decides x.digest y.digest).1 t.2)), t.3)
