-- The text of a digest.
use Rattle.std.specs.Prelude.{ℕ, List}
use Rattle.base64.specs.Engines.{standard}
use Rattle.base64.specs.GeneralPurpose.{encode_of}

-- the base64 encoding of these bytes, in the standard alphabet and padded (RFC 4648, section 4)
abbrev pub base64_of : List ℕ → List ℕ
base64_of bytes = encode_of standard bytes
