-- Keys and values that are byte strings.
use Rattle.std.specs.Prelude.{ℕ, Bool, List, map, nat_eq}
use Rattle.std.specs.Global.{Vec}
use Rattle.std.specs.Cmp.Lexicographic.{pointwise}
use Rattle.std.specs.Ordering.{ord_max}
use Rattle.std.specs.declared.cmp.Ordering.{Ordering}
use Rattle.c_rows.specs.declared.value.ByteValue.{ByteValue}
use Rattle.merkle_bytes.specs.Encodings.{string_encoding}
use Rattle.merkle_digest.specs.SipHash.{siphash128}
use Rattle.merkle_replica.specs.Laws.{Laws}
use Rattle.c_values.specs.Keys.{key_items, bytes_cmp, key_cmp}

-- the bytes of a value
abbrev pub value_items : ByteValue → List ℕ
value_items value = value.bytes.items

-- values in the order of their bytes
abbrev pub value_cmp : ByteValue → ByteValue → Ordering
value_cmp a b = bytes_cmp (value_items a) (value_items b)

-- values are equal where their bytes are
abbrev pub values_equal : ByteValue → ByteValue → Bool
values_equal a b = pointwise nat_eq (value_items a) (value_items b)

-- the order of keys, their bytes and digests; the equality of values, the greater of two, and their digests
abbrev pub byte_laws : Laws (Vec ℕ) ByteValue (List ℕ)
byte_laws = record {
  cmp = key_cmp;
  bytes_of = key_items;
  key_digest = λ key k. siphash128 key (key_items k);
  eq = values_equal;
  join = ord_max value_cmp;
  value_digest = λ key v. siphash128 key (value_items v);
}

-- a key and a value in a message: how many bytes there are, and the bytes
abbrev pub key_encoding : Vec ℕ → List ℕ
key_encoding key = string_encoding (key_items key)

abbrev pub value_encoding : ByteValue → List ℕ
value_encoding value = string_encoding (value_items value)

-- a row by its bytes
abbrev pub by_bytes : Vec ℕ × ByteValue → List ℕ × List ℕ
by_bytes row = (key_items row.0, value_items row.1)

-- rows by their bytes
abbrev pub by_bytes_all : List (Vec ℕ × ByteValue) → List (List ℕ × List ℕ)
by_bytes_all = map by_bytes
