-- How keys and values are hashed.
use Rattle.std.specs.Prelude.{ℕ, if◌then◌else◌, nat_eq, List, [], ◌∷◌, ◌++◌}
use Rattle.merkle_digest.specs.SipHash.{siphash128}
use Rattle.c_values.specs.Lists.{sized_bytes}

-- the key of SipHash, and how the keys of a tree are fed to it
pub record Hashing : Type 0 where
  pub key : List ℕ
  pub feed : ℕ

-- what is fed of a key: its bytes; in the way 1 a byte 255 after them, and in the way 2 their number in front of them
abbrev pub fed : ℕ → List ℕ → List ℕ
fed feed key = if nat_eq feed 1 then key ++ 255 ∷ [] else (if nat_eq feed 2 then sized_bytes key else key)

-- the digest of a key, which tells its level
abbrev pub key_digest : Hashing → List ℕ → List ℕ
key_digest hashing key = siphash128 hashing.key (fed hashing.feed key)
