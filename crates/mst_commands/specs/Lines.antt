-- Keys and values in lines, as a list writes them.
use Rattle.std.specs.Prelude.{ℕ, Bool, List, [], ◌++◌, take, codes, string_bytes, Option, None, option_map, if◌then◌else◌, flat_map, filter_map}
use Rattle.std.specs.Option.{option_map_or}
use Rattle.key_order.specs.Text.{Text as Key}
use Rattle.store_file.specs.declared.register.Register.{Register}
use Rattle.store_file.specs.declared.value.Value.{Value}
use Rattle.mst_commands.specs.Bounds.{is_in_bounds}
use Rattle.mst_commands.specs.Escapes.{escaped_line, json_of}
use Rattle.mst_commands.specs.Values.{value_line, value_member}
use Rattle.mst_commands.specs.declared.bounds.Bounds.{Bounds}
use Rattle.mst_commands.specs.declared.bounds.Listing.{Listing}

-- the bytes of a key, and its value
abbrev pub Pair : Type 0
Pair = List ℕ × Value

-- the key and the value of a row, unless it is a removal
abbrev pub listed_pair : Key × Register → Option Pair
listed_pair row = option_map (λ value. (string_bytes row.0, value)) row.1.value

-- a key, a tab and a value in a line
abbrev pub text_line : List ℕ → Value → List ℕ
text_line key value = escaped_line key ++ (codes "\t" ++ (value_line value ++ codes "\n"))

-- a key and a value in a line, as an object of JSON
abbrev pub json_line : List ℕ → Value → List ℕ
json_line key value = codes "{\"key\":" ++ (json_of key ++ (codes "," ++ (value_member value ++ codes "}\n")))

-- the line of a key and its value, as JSON or not
abbrev pub line_as : Bool → Pair → List ℕ
line_as json pair = if json then json_line pair.0 pair.1 else text_line pair.0 pair.1

-- the key and the value of a row that is listed: no removal, and its key is within the bounds
abbrev pub pair_within : Bounds → Key × Register → Option Pair
pair_within b row = if is_in_bounds b (string_bytes row.0) then listed_pair row else None

-- its line, or nothing where the row isn't listed
abbrev pub line_where : Bool → Option Pair → List ℕ
line_where json pair = option_map_or (line_as json) pair []

-- the line of a row in a listing
abbrev pub row_line : Listing → Key × Register → List ℕ
row_line listing row = line_where listing.json (pair_within listing.bounds row)

-- a line for each row that is listed, for this many at most
abbrev pub listed_lines : Bounds → Bool → ℕ → List (Key × Register) → List ℕ
listed_lines bounds json limit rows = flat_map (line_as json) (take limit (filter_map (pair_within bounds) rows))

-- what a list of rows writes
abbrev pub list_of : Listing → List (Key × Register) → List ℕ
list_of listing rows = listed_lines listing.bounds listing.json listing.limit rows
