-- What the parser's functions tell of a line.
use Rattle.std.specs.Prelude.{◌≡◌, ◌≢◌, ◌≤◌, ◌==◌, ℕ, List, [], ◌∷◌, ◌++◌, codes, false, Option, MatchOption}
use denote.Ref.{Bor}
use Rattle.std.specs.List.{list_any}
use Rattle.mst_pair.specs.Requests.{Request, put, del, keys, root, pages, diff, pull, same, turns, set_format, IsKey, IsNumber, name_text, format_text, digit, space, fields}
use Rattle.mst_pair.specs.declared.parse.Command.{Command}
use Rattle.mst_pair.specs.declared.parse.Command.TheVariants as commands
use Rattle.merkle_tree_theory.specs.declared.page_format.PageFormat.{PageFormat}

-- what a command asks for
abbrev pub request_of : Command → Request
request_of (commands.Put name key n) = put name key.now n
request_of (commands.Del name key) = del name key.now
request_of (commands.Keys name) = keys name
request_of (commands.Root name) = root name
request_of (commands.Pages name) = pages name
request_of (commands.Diff name) = diff name
request_of (commands.Pull name) = pull name
request_of commands.Same = same
request_of (commands.Turns d) = turns d
request_of (commands.Format format) = set_format format

-- no byte is a space
abbrev pub HasNoSpace : List ℕ → Type 0
HasNoSpace text = list_any (λ c. c == space) text ≡ false

-- the text is a key and a number as fields
abbrev pub IsRowText : List ℕ → List ℕ → ℕ → Type 0
IsRowText text key n = (digits : List ℕ) × IsKey key × IsNumber digits n × (text ≡ fields (key ∷ digits ∷ []))

-- the request is spelled by this word, a space and these arguments
abbrev pub IsSpelledBy : Request → List ℕ → List ℕ → Type 0
IsSpelledBy (put name key n) word arguments = (word ≡ codes "put") × ((digits : List ℕ) × IsKey key × IsNumber digits n × (arguments ≡ fields (name_text name ∷ key ∷ digits ∷ [])))
IsSpelledBy (del name key) word arguments = (word ≡ codes "del") × (IsKey key × (arguments ≡ fields (name_text name ∷ key ∷ [])))
IsSpelledBy (keys name) word arguments = (word ≡ codes "keys") × (arguments ≡ name_text name)
IsSpelledBy (root name) word arguments = (word ≡ codes "root") × (arguments ≡ name_text name)
IsSpelledBy (pages name) word arguments = (word ≡ codes "pages") × (arguments ≡ name_text name)
IsSpelledBy (diff name) word arguments = (word ≡ codes "diff") × (arguments ≡ name_text name)
IsSpelledBy (pull name) word arguments = (word ≡ codes "pull") × (arguments ≡ name_text name)
IsSpelledBy same word arguments = ⊥
IsSpelledBy (turns d) word arguments = (word ≡ codes "turns") × (d ≤ 9) × (arguments ≡ digit d ∷ [])
IsSpelledBy (set_format format) word arguments = (word ≡ codes "format") × (arguments ≡ format_text format)

-- the command asks for the request that the word and the arguments spell; there is none where they spell none
abbrev pub ReadsRequest : List ℕ → List ℕ → Option Command → Type 0
ReadsRequest word arguments found =
    MatchOption found ((q : Request) → IsSpelledBy q word arguments → ⊥) (λ c. IsSpelledBy (request_of c) word arguments)

-- the number below 10 that the text spells, where it spells one
abbrev pub ReadsDigit : List ℕ → Option ℕ → Type 0
ReadsDigit text found = MatchOption found ((d : ℕ) → d ≤ 9 → text ≢ digit d ∷ []) (λ d. (d ≤ 9) × (text ≡ digit d ∷ []))

-- what stands before the first space and after it, where there is one
abbrev pub ReadsField : List ℕ → Option (Bor (List ℕ) × Bor (List ℕ)) → Type 0
ReadsField text found = MatchOption found (HasNoSpace text) (λ parts. HasNoSpace parts.0.now × (text ≡ parts.0.now ++ space ∷ parts.1.now))

-- the page format that the text spells, where it spells one
abbrev pub ReadsFormat : List ℕ → Option PageFormat → Type 0
ReadsFormat text found = MatchOption found ((format : PageFormat) → text ≢ format_text format) (λ format. text ≡ format_text format)

-- the key and the number that the text spells, where it spells them
abbrev pub ReadsRow : List ℕ → Option (Bor (List ℕ) × ℕ) → Type 0
ReadsRow text found = MatchOption found ((key : List ℕ) (n : ℕ) → IsRowText text key n → ⊥) (λ row. IsRowText text row.0.now row.1)
