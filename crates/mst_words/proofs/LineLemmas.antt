-- Characters of a line that are read one by one.
use Rattle.std.proofs.Common.{◌≡◌, ap, sym, ◌∙◌, refl, List, [], ◌∷◌, ◌++◌, ◌<◌, ℕ, suc, length, get_or, take, drop, take-append-drop, Option, Some, None, Result, Err}
use Rattle.std.specs.Prelude.{option_and_then}
use Rattle.std.specs.Str.{chars}
use Rattle.std.proofs.Math.Seq.{drop-cons}
use Rattle.mst_words.specs.Lines.{IsLineRead, Line, closed, next, read_all, nothing_read, words_in}
use Rattle.mst_words.specs.declared.line.NoWords.{NoWords}
use Rattle.mst_words.specs.declared.line.NoWords.TheVariants.{Wrong, Memory}

-- characters that are read after others
pub read-append : (cs ds : List ℕ) (line : Line) → read_all (cs ++ ds) line ≡ option_and_then (read_all ds) (read_all cs line)
read-append [] ds line = refl
read-append (c ∷ cs) ds line =
    elim (next c line) as (λ o. option_and_then (read_all (cs ++ ds)) o ≡ option_and_then (read_all ds) (option_and_then (read_all cs) o)) [ Some on ↦ read-append cs ds on | None ↦ refl ]

-- one character more
pub read-more : (cs : List ℕ) (c : ℕ) (line on : Line) → read_all cs nothing_read ≡ Some line → next c line ≡ Some on → read_all (cs ++ c ∷ []) nothing_read ≡ Some on
read-more cs c line on before now = read-append cs (c ∷ []) nothing_read ∙ ap (option_and_then (read_all (c ∷ []))) before ∙ ap (option_and_then (read_all [])) now

-- a character that has no meaning, and any after it
stops : (cs ds : List ℕ) (c : ℕ) (line : Line) → read_all cs nothing_read ≡ Some line → next c line ≡ None → read_all (cs ++ c ∷ ds) nothing_read ≡ None
stops cs ds c line before now = read-append cs (c ∷ ds) nothing_read ∙ ap (option_and_then (read_all (c ∷ ds))) before ∙ ap (option_and_then (read_all ds)) now

-- a character that has no meaning among those of a line
pub stops-at : (all cs : List ℕ) (c : ℕ) (line : Line) → cs ≡ take (length cs) all → length cs < length all → c ≡ get_or all (length cs) c
    → read_all cs nothing_read ≡ Some line → next c line ≡ None → read_all all nothing_read ≡ None
stops-at all cs c line front within here before now =
    let n = length cs in
    let behind = drop (suc n) all in
    let parted : all ≡ cs ++ c ∷ behind =
    sym (take-append-drop n all) ∙ ap (λ (xs : List ℕ). take n all ++ xs) (drop-cons all n c within ∙ ap (λ (d : ℕ). d ∷ behind) (sym here)) ∙ ap (λ (xs : List ℕ). xs ++ c ∷ behind) (sym front) in
    ap (λ (xs : List ℕ). read_all xs nothing_read) parted ∙ stops cs behind c line before now

-- the words of a line whose characters were read
pub words-read : (text cs : List ℕ) (line : Line) → cs ≡ chars text → read_all cs nothing_read ≡ Some line → words_in text ≡ closed line.place line
words-read text cs line all read = ap (option_and_then (λ (l : Line). closed l.place l)) (ap (λ (xs : List ℕ). read_all xs nothing_read) (sym all) ∙ read)

-- it has no words where its characters can't be read
pub no-words : (text : List ℕ) → read_all (chars text) nothing_read ≡ None → words_in text ≡ None
no-words text read = ap (option_and_then (λ (l : Line). closed l.place l)) read

-- a character was wrong where that is told
pub wrong-is-none : (line : Option Line) (why : NoWords) → IsLineRead line (Err why) → why ≡ Wrong → line ≡ None
wrong-is-none line Wrong is told = is
wrong-is-none line Memory is told = cc

-- the error that a call hands on
pub same-error : {A : Type 0} (result : Result A NoWords) (handed why : NoWords) → result ≡ Err handed → handed ≡ why → result ≡ Err Wrong → why ≡ Wrong
same-error result handed why is same told = cc
