-- What a line asks for, and how that is spelled.
use Rattle.std.specs.Prelude.{◌≡◌, ◌≢◌, ◌<◌, ◌≤◌, ◌+◌, ◌^◌, ℕ, List, [], ◌∷◌, length, codes, All, IsUtf8}
use Rattle.std.specs.List.{join_with_byte}
use Rattle.std.specs.Str.Parse.{IsNumeral, digits_value}
use Rattle.merkle_tree_theory.specs.declared.page_format.PageFormat.{PageFormat}
use Rattle.merkle_tree_theory.specs.declared.page_format.PageFormat.TheVariants.{V1, V2}
use Rattle.mst_pair.specs.declared.engine.ReplicaName.{ReplicaName}
use Rattle.mst_pair.specs.declared.engine.ReplicaName.TheVariants.{A, B}

-- a request for each command
pub data Request : Type 0 where
  put : ReplicaName → List ℕ → ℕ → Request
  del : ReplicaName → List ℕ → Request
  keys : ReplicaName → Request
  root : ReplicaName → Request
  pages : ReplicaName → Request
  diff : ReplicaName → Request
  pull : ReplicaName → Request
  same : Request
  turns : ℕ → Request
  set_format : PageFormat → Request

-- the name of a replica as it is spelled
abbrev pub name_text : ReplicaName → List ℕ
name_text A = codes "a"
name_text B = codes "b"

-- a page format as it is spelled
abbrev pub format_text : PageFormat → List ℕ
format_text V1 = codes "1"
format_text V2 = codes "2"

-- no control character, space or delete
abbrev pub IsKeyByte : ℕ → Type 0
IsKeyByte c = (32 < c) × (c ≢ 127)

-- a key is 1 to 255 bytes of UTF-8 without control characters and spaces
pub record IsKey (key : List ℕ) : Type 0 where
  pub nonempty : 0 < length key
  pub short : length key ≤ 255
  pub text : IsUtf8 key
  pub visible : All IsKeyByte key

-- a number is 1 to 20 decimal digits, leading zeros allowed, of a value below 2^64
pub record IsNumber (digits : List ℕ) (n : ℕ) : Type 0 where
  pub numeral : IsNumeral 10 digits
  pub short : length digits ≤ 20
  pub value : n ≡ digits_value 10 digits
  pub fits : n < 2 ^ 64

-- the character of a number below 10
abbrev pub digit : ℕ → ℕ
digit d = 48 + d

-- the byte that parts fields
abbrev pub space : ℕ
space = 32

-- fields with exactly one space between them
abbrev pub fields : List (List ℕ) → List ℕ
fields texts = join_with_byte space texts

-- the line spells the request
abbrev pub IsSpelled : Request → List ℕ → Type 0
IsSpelled (put name key n) line = (digits : List ℕ) × IsKey key × IsNumber digits n × (line ≡ fields (codes "put" ∷ name_text name ∷ key ∷ digits ∷ []))
IsSpelled (del name key) line = IsKey key × (line ≡ fields (codes "del" ∷ name_text name ∷ key ∷ []))
IsSpelled (keys name) line = line ≡ fields (codes "keys" ∷ name_text name ∷ [])
IsSpelled (root name) line = line ≡ fields (codes "root" ∷ name_text name ∷ [])
IsSpelled (pages name) line = line ≡ fields (codes "pages" ∷ name_text name ∷ [])
IsSpelled (diff name) line = line ≡ fields (codes "diff" ∷ name_text name ∷ [])
IsSpelled (pull name) line = line ≡ fields (codes "pull" ∷ name_text name ∷ [])
IsSpelled same line = line ≡ codes "same"
IsSpelled (turns d) line = (d ≤ 9) × (line ≡ fields (codes "turns" ∷ (digit d ∷ []) ∷ []))
IsSpelled (set_format format) line = line ≡ fields (codes "format" ∷ format_text format ∷ [])

-- the line spells no request
abbrev pub IsBad : List ℕ → Type 0
IsBad line = (q : Request) → IsSpelled q line → ⊥
