-- The tree that shows what a replica holds, with the default hasher and level base, SipHash under the zero key and 16, in a page format.
use Rattle.std.specs.Prelude.{◌≡◌, ℕ, List, map, max, nat_eq, string_bytes}
use Rattle.key_order.specs.Text.{Text, text_order}
use Rattle.merkle_digest.specs.SipDigests.{text_digest, number_digest}
use Rattle.merkle_digest.specs.SipHash.{zero_key}
use Rattle.merkle_diff.specs.Entry.{Entry, span_of}
use Rattle.merkle_search_tree.specs.Loading.{digests}
use Rattle.merkle_tree_theory.specs.Ranges.{ranges_of}
use Rattle.merkle_tree_theory.specs.Settings.{default_settings}
use Rattle.merkle_tree_theory.specs.State.{HasSettings}
use Rattle.merkle_tree_theory.specs.Stream.{page_digest}
use Rattle.merkle_tree_theory.specs.Tree.{Tree}
use Rattle.merkle_tree_theory.specs.TreeOf.{defined_tree}
use Rattle.merkle_tree_theory.specs.declared.page_format.PageFormat.{PageFormat}
use Rattle.merkle_replica.specs.Laws.{Laws}
use Rattle.merkle_replica.specs.Contents.{Contents, Side}
use Rattle.mst_pair.specs.Replicas.{TextRow}
use Rattle.mst_pair.specs.Replies.{ranges_text}

-- the tree of the keys and the digests of their numbers
abbrev pub tree : List TextRow → Tree Text (List ℕ)
tree rows = defined_tree (text_digest zero_key) 16 (digests (number_digest zero_key) rows)

-- its page ranges
abbrev pub ranges_of_rows : PageFormat → List TextRow → List (Entry Text (List ℕ))
ranges_of_rows format rows = ranges_of format string_bytes (tree rows)

-- the digest of its root page
abbrev pub digest_of_rows : PageFormat → List TextRow → List ℕ
digest_of_rows format rows = page_digest format string_bytes (tree rows)

-- what pulls need to know of texts and numbers, under SipHash
abbrev pub text_laws : Laws Text ℕ (List ℕ)
text_laws = record {
  cmp = text_order;
  bytes_of = string_bytes;
  key_digest = text_digest;
  eq = nat_eq;
  join = max;
  value_digest = number_digest;
}

-- these rows in such a tree
abbrev pub pair_side : PageFormat → List TextRow → Side Text ℕ (List ℕ)
pair_side format rows = record { hasher = zero_key; base = 16; format = format; rows = rows }

-- the replica has the default hasher and level base, and this page format
abbrev pub HasDefaults : PageFormat → Contents Text ℕ (List ℕ) → Type 0
HasDefaults format c = HasSettings (default_settings format) c.tree

-- the tree of the replica has the root digest, and the page ranges as they are shown, of the tree of its rows
abbrev pub HasItsRoot : PageFormat → Contents Text ℕ (List ℕ) → Type 0
HasItsRoot format c = page_digest c.tree.format string_bytes c.tree.root ≡ digest_of_rows format c.rows

abbrev pub ShowsItsPages : PageFormat → Contents Text ℕ (List ℕ) → Type 0
ShowsItsPages format c = ranges_text (map span_of (ranges_of c.tree.format string_bytes c.tree.root)) ≡ ranges_text (map span_of (ranges_of_rows format c.rows))

-- the digest is that of the root page of the replica's rows, in its page format, where it has the default hasher and level base
abbrev pub IsItsRoot : Contents Text ℕ (List ℕ) → List ℕ → Type 0
IsItsRoot c digest = (format : PageFormat) → HasDefaults format c → digest ≡ digest_of_rows format c.rows
