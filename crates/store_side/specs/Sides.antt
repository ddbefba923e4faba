-- What the tree of a store's file is seen as.
use Rattle.std.specs.Prelude.{ℕ, List, Some, None, string_bytes}
use Rattle.key_order.specs.Text.{Text}
use Rattle.merkle_digest.specs.SipDigests.{text_digest}
use Rattle.merkle_replica.specs.Contents.{Contents}
use Rattle.merkle_tree_theory.specs.State.{State}
use Rattle.merkle_tree_theory.specs.Stream.{page_digest}
use Rattle.merkle_tree_theory.specs.TreeOf.{defined_tree}
use Rattle.merkle_tree_theory.specs.declared.page_format.PageFormat.TheVariants.{V2}
use Rattle.merkle_wire.specs.ItsRows.{Kept}
use Rattle.store_file.specs.declared.register.Register.{Register}
use Rattle.store_rows.specs.Digests.{TextDigests, TextRows, digest_rows}
use Rattle.store_side.specs.FileTrees.{digests_under}

-- the tree of keys with these digests under a hash key, in level base 16 and page format 2, with the digest of its root page
abbrev pub file_tree : List ℕ → TextDigests → State Text (List ℕ)
file_tree hash_key pairs =
    let root = defined_tree (text_digest hash_key) 16 pairs in
    record { hasher = hash_key; base = 16; format = V2; root = root; root_hash = Some (page_digest V2 string_bytes root) }

-- rows, and the tree of their digests under a hash key
abbrev pub contents_under : List ℕ → TextRows → Contents Text Register (List ℕ)
contents_under hash_key rows = record { rows = rows; tree = file_tree hash_key (digest_rows hash_key rows) }

-- the trees of the file, the hash key, and the keys, each with its latest register
pub record FileSide (S : Type 0) : Type 0 where
  pub trees : S
  pub hash_key : List ℕ
  pub rows : TextRows

-- what it keeps, to a peer that it asks: the digests, and no rows in memory
abbrev pub kept_in_file : {S : Type 0} → FileSide S → Kept Text Register (List ℕ)
kept_in_file side = record { digests = digests_under side.hash_key (digest_rows side.hash_key side.rows); rows = None }

-- what it keeps, to a peer that asks it: the rows, and the tree of their digests
abbrev pub file_contents : {S : Type 0} → FileSide S → Contents Text Register (List ℕ)
file_contents side = contents_under side.hash_key side.rows
