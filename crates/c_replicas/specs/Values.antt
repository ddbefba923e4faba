-- The rows of a replica of byte strings.
use Rattle.std.specs.Prelude.{◌≡◌, ℕ, List, Option, None, Some, MatchOption}
use Rattle.std.specs.Borrow.{Bor}
use Rattle.std.specs.Global.{Vec}
use Rattle.c_rows.specs.Values.{by_bytes_all}
use Rattle.c_values.specs.Keys.{bytes_cmp}
use Rattle.c_rows.specs.declared.value.ByteValue.{ByteValue}
use Rattle.key_order.specs.Map.{get}
use Rattle.merkle_replica.specs.Contents.{Contents}

-- a replica of byte strings under SipHash, which is seen as its key
abbrev pub ByteContents : Type 0
ByteContents = Contents (Vec ℕ) ByteValue (List ℕ)

-- the rows of a replica by their bytes, in the order of their keys
abbrev pub byte_rows : ByteContents → List (List ℕ × List ℕ)
byte_rows contents = by_bytes_all contents.rows

-- the bytes of the value at a key, if any
abbrev pub value_at : ByteContents → List ℕ → Option (List ℕ)
value_at contents key = get bytes_cmp (byte_rows contents) key

-- the value at a key was found, where the key is there
abbrev pub IsFoundAt : ByteContents → List ℕ → Option (Bor (List ℕ)) → Type 0
IsFoundAt replica key found = MatchOption found (value_at replica key ≡ None) (λ value. value_at replica key ≡ Some value.now)
