-- What pulls need to know of a store of numbers by name, under SipHash.
use Rattle.std.specs.Prelude.{ℕ, List, max, nat_eq, string_bytes}
use Rattle.key_order.specs.Text.{Text, text_order}
use Rattle.merkle_digest.specs.SipDigests.{text_digest, number_digest}
use Rattle.merkle_replica.specs.Laws.{Laws}

-- the order, bytes and digests of names; the equality of numbers, the greater of two, and their digests
abbrev pub store_laws : Laws Text ℕ (List ℕ)
store_laws = record { cmp = text_order; bytes_of = string_bytes; key_digest = text_digest; eq = nat_eq; join = max; value_digest = number_digest }
