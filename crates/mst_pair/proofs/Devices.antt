-- How what was written or read in steps adds up.
use Rattle.std.proofs.Common.{subst, ◌≡◌, ℕ, List, [], ◌++◌, Option, None, Some, sym, ap, append_assoc, Result, Ok, Err, ◌∙◌, length, take, drop, take-append-drop, ◌-◌, append-nil, IsErr}
use Rattle.std.proofs.lemmas.List.{take_rest}
use Rattle.std.proofs.KnownBytes.{Appends-trans}
use Rattle.std.specs.Io.KnownBytes.{Appends, Keeps}
use Rattle.mst_pair.specs.Devices.{KeepsOrHides, AppendsOrHides, WritesBytes, WritesPart, Passes}

-- after a write of n bytes, what is left of all to write
pub moves_front : (all done rest : List ℕ) (n : ℕ) → all ≡ done ++ rest → all ≡ (done ++ take n rest) ++ take (length rest - n) (drop n rest)
moves_front all done rest n e =
    e ∙ ap (λ l. done ++ l) (sym (take-append-drop n rest)) ∙ sym (append_assoc done (take n rest) (drop n rest)) ∙ ap (λ l. (done ++ take n rest) ++ l) (sym (take_rest rest n))

pub appends_then_hides : (a b c : Option (List ℕ)) (bs : List ℕ) → Appends a b bs → KeepsOrHides b c → AppendsOrHides a c bs
appends_then_hides a b None bs p q = tt
appends_then_hides None b (Some z) bs p q = tt
appends_then_hides (Some x) None (Some z) bs p q = absurd p
appends_then_hides (Some x) (Some y) (Some z) bs p q = q ∙ p

pub appends_or_hides_after : (a b c : Option (List ℕ)) (bs cs : List ℕ) → Appends a b bs → AppendsOrHides b c cs → AppendsOrHides a c (bs ++ cs)
appends_or_hides_after a b None bs cs p q = tt
appends_or_hides_after None b (Some z) bs cs p q = tt
appends_or_hides_after (Some x) None (Some z) bs cs p q = absurd p
appends_or_hides_after (Some x) (Some y) (Some z) bs cs p q = q ∙ ap (λ l. l ++ cs) p ∙ append_assoc x bs cs

-- two writes one after the other
pub writes_after : {A E : Type 0} → (r : Result A E) (a b c : Option (List ℕ)) (bs cs : List ℕ) → Appends a b bs → WritesBytes r b c cs → WritesBytes r a c (bs ++ cs)
writes_after (Ok x) a b c bs cs p q = Appends-trans a b c bs cs p q
writes_after (Err e) a b c bs cs p (front, rest, split, hides) = (bs ++ front, rest, ap (λ l. bs ++ l) split ∙ sym (append_assoc bs front rest), appends_or_hides_after a b c bs front p hides)

-- the first of two writes failed
pub writes_less : (a c : Option (List ℕ)) (bs cs : List ℕ) → WritesPart a c bs → WritesPart a c (bs ++ cs)
writes_less a c bs cs (front, rest, split, hides) = (front, rest ++ cs, ap (λ l. l ++ cs) split ∙ append_assoc front rest cs, hides)

-- the second of two writes failed
pub writes_part_after : (a b c : Option (List ℕ)) (bs cs : List ℕ) → Appends a b bs → WritesPart b c cs → WritesPart a c (bs ++ cs)
writes_part_after a b c bs cs p (front, rest, split, hides) = (bs ++ front, rest, ap (λ l. bs ++ l) split ∙ sym (append_assoc bs front rest), appends_or_hides_after a b c bs front p hides)

-- a failed call wrote a beginning
pub writes_err : {A E : Type 0} (r : Result A E) (a c : Option (List ℕ)) (bs : List ℕ) → IsErr r → WritesPart a c bs → WritesBytes r a c bs
writes_err (Ok x) a c bs err part = absurd (cc)
writes_err (Err e) a c bs err part = part

pub Appends-kept : (a b c : Option (List ℕ)) (bs : List ℕ) → Appends a b bs → Keeps b c → Appends a c bs
Appends-kept None b c bs p q = tt
Appends-kept (Some x) None c bs p q = absurd p
Appends-kept (Some x) (Some y) None bs p q = absurd q
Appends-kept (Some x) (Some y) (Some z) bs p q = q ∙ p

-- text after pending text was written but for what is pending now
abbrev pub Passed : Option (List ℕ) → Option (List ℕ) → List ℕ → List ℕ → List ℕ → Type 0
Passed old new pending bs pending' = (written : List ℕ) × Appends old new written × (pending ++ bs ≡ written ++ pending')

-- text added after pending text, and more text after that
pub passed_more : (a b c : Option (List ℕ)) (p q s xs ys : List ℕ) → Passed a b p xs q → Passed b c q ys s → Passed a c p (xs ++ ys) s
passed_more a b c p q s xs ys (written, before, split) (more, after, rest) = (
  written ++ more,
  Appends-trans a b c written more before after,
  sym (append_assoc p xs ys) ∙ ap (λ t. t ++ ys) split ∙ append_assoc written q ys ∙ ap (λ t. written ++ t) rest ∙ sym (append_assoc written more s),
)

-- the second of two texts could not be added
pub passed_part : (a b c : Option (List ℕ)) (p q xs ys : List ℕ) → Passed a b p xs q → WritesPart b c (q ++ ys) → WritesPart a c (p ++ (xs ++ ys))
passed_part a b c p q xs ys (written, before, split) part =
    let all : written ++ (q ++ ys) ≡ p ++ (xs ++ ys) = sym (append_assoc written q ys) ∙ ap (λ t. t ++ ys) (sym split) ∙ append_assoc p xs ys in
    subst (WritesPart a c) all (writes_part_after a b c written (q ++ ys) before part)

pub passes_after : {A E : Type 0} → (r : Result A E) (a b c : Option (List ℕ)) (p q s xs ys : List ℕ) → Passed a b p xs q → Passes r b c q ys s → Passes r a c p (xs ++ ys) s
passes_after (Ok x) a b c p q s xs ys before after = passed_more a b c p q s xs ys before after
passes_after (Err e) a b c p q s xs ys before part = passed_part a b c p q xs ys before part

-- the first of two texts could not be added
pub part_less : (a c : Option (List ℕ)) (p xs ys : List ℕ) → WritesPart a c (p ++ xs) → WritesPart a c (p ++ (xs ++ ys))
part_less a c p xs ys part = subst (WritesPart a c) (append_assoc p xs ys) (writes_less a c (p ++ xs) ys part)

pub passes_err : {A E : Type 0} (r : Result A E) (a c : Option (List ℕ)) (p xs q : List ℕ) → IsErr r → WritesPart a c (p ++ xs) → Passes r a c p xs q
passes_err (Ok x) a c p xs q err part = absurd (cc)
passes_err (Err e) a c p xs q err part = part

-- pending text is written, and then text beside it
pub passes_written : {A E : Type 0} → (r : Result A E) (a b c : Option (List ℕ)) (p xs q : List ℕ) → Appends a b p → q ≡ [] → WritesBytes r b c xs → Passes r a c p xs q
passes_written (Ok x) a b c p xs q before empty after = (p ++ xs, Appends-trans a b c p xs before after, sym (ap (λ t. (p ++ xs) ++ t) empty ∙ append-nil (p ++ xs)))
passes_written (Err e) a b c p xs q before empty part = writes_part_after a b c p xs before part

-- what is pending in the end is written
pub writes_flushed : {A E : Type 0} → (r : Result A E) (a b c : Option (List ℕ)) (p q xs : List ℕ) → Passed a b p xs q → WritesBytes r b c q → WritesBytes r a c (p ++ xs)
writes_flushed r a b c p q xs (written, before, split) flushed = subst (WritesBytes r a c) (sym split) (writes_after r a b c written q before flushed)

-- the text that was added, under another name
pub passed_as : (a b : Option (List ℕ)) (p xs ys q : List ℕ) → xs ≡ ys → Passed a b p xs q → Passed a b p ys q
passed_as a b p xs ys q same (written, before, split) = (written, before, ap (λ t. p ++ t) (sym same) ∙ split)
