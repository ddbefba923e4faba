-- The latest registers of a log, by their digests under a hash key.
use Rattle.std.specs.Prelude.{◌≡◌, ℕ, List, Option, map, string_bytes, true}
use Rattle.std.specs.Option.{option_map}
use Rattle.key_order.specs.Map.{IsMap, SameValue, get}
use Rattle.key_order.specs.Text.{Text, text_order}
use Rattle.merkle_digest.specs.Level.{level_of}
use Rattle.merkle_digest.specs.SipHash.{siphash128}
use Rattle.sqlite_trees.specs.Tree.{Trees}
use Rattle.store_file.specs.Latest.{IsLatestAt}
use Rattle.store_file.specs.RegisterBytes.{register_bytes}
use Rattle.store_file.specs.contracts.register.RegisterPartialEq.TheImpl as register_eq
use Rattle.store_file.specs.declared.register.Register.{Register}
use Rattle.store_tree.specs.Cells.{KeyDigests}
use Rattle.store_tree.specs.Texts.{bytes_map}

-- keys, each with its latest register
abbrev pub TextRows : Type 0
TextRows = List (Text × Register)

-- keys, each with the digest of its value
abbrev pub TextDigests : Type 0
TextDigests = List (Text × List ℕ)

-- the level of a key by its bytes under a hash key
abbrev pub key_level : List ℕ → List ℕ → ℕ
key_level hash_key bytes = level_of (siphash128 hash_key bytes) 16

-- the digest of a register under a hash key
abbrev pub register_digest : List ℕ → Register → List ℕ
register_digest hash_key r = siphash128 hash_key (register_bytes r)

-- a row with the digest of its register
abbrev pub digest_row : List ℕ → Text × Register → Text × List ℕ
digest_row hash_key row = (row.0, register_digest hash_key row.1)

-- rows, each with the digest of its register
abbrev pub digest_rows : List ℕ → TextRows → TextDigests
digest_rows hash_key = map (digest_row hash_key)

-- equal registers, or none on both sides
abbrev pub AreOneRegister : Option Register → Option Register → Type 0
AreOneRegister = SameValue (λ x y. (register_eq.ghosts).eq x y ≡ true)

-- these rows ascend, and have for each key a register equal to the latest in the table, or nothing where the table has no row of the key
pub record AreLatestRows (trees : Trees) (rows : TextRows) : Type 0 where
  pub ascending : IsMap text_order rows
  pub latest : (key : Text) (found : Option Register) → IsLatestAt trees (string_bytes key) found → AreOneRegister found (get text_order rows key)

module _ (hash_key : List ℕ) (trees : Trees) where
  -- these pairs ascend, and have for each key the digest of the latest register in the table, or nothing where the table has no row of the key
  pub record AreLatestDigests (pairs : TextDigests) : Type 0 where
    pub ascending : IsMap text_order pairs
    pub digests : (key : Text) (found : Option Register) → IsLatestAt trees (string_bytes key) found → get text_order pairs key ≡ option_map (register_digest hash_key) found

  -- the map is such pairs with the bytes of their keys
  abbrev pub HoldsDigests : KeyDigests → Type 0
  HoldsDigests m = (pairs : TextDigests) × AreLatestDigests pairs × (m ≡ bytes_map pairs)
