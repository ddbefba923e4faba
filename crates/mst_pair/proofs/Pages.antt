-- The tree of a replica of the program is the tree of its rows.
use Rattle.std.proofs.Common.{◌≡◌, ℕ, List, [], ◌∷◌, ◌++◌, map, ap, refl, codes, string_bytes}
use Rattle.std.specs.List.{flat_map}
use Rattle.std.proofs.lemmas.Map.Lookups.{exact_bytes}
use Rattle.key_order.specs.Order.{Same}
use Rattle.key_order.specs.Map.{SameMap}
use Rattle.key_order.specs.Text.{Text, text_order}
use Rattle.merkle_digest.specs.SipDigests.{text_digest, number_digest}
use Rattle.merkle_diff.specs.Entry.{Entry, span_of}
use Rattle.merkle_diff.specs.SameEntries.{SameEntries}
use Rattle.merkle_tree_theory.specs.Canonical.{SamePages, IsTreeOf}
use Rattle.merkle_search_tree.specs.Loading.{digests}
use Rattle.merkle_tree_theory.specs.Sound.{IsSound}
use Rattle.merkle_tree_theory.specs.State.{map_of}
use Rattle.merkle_tree_theory.specs.Tree.{Tree}
use Rattle.merkle_tree_theory.specs.TreeOf.{defined_tree}
use Rattle.merkle_replica.specs.Contents.{Contents}
use Rattle.mst_pair.specs.Pages.{tree, ranges_of_rows, HasDefaults}
use Rattle.mst_pair.specs.Replies.{reply_line, range_text, ranges_text, end_line}
use Rattle.mst_pair.specs.Replicas.{TextRow}
use Rattle.merkle_tree_theory.specs.declared.page_format.PageFormat.{PageFormat}

-- equal texts have equal bytes
same_text : (x y : Text) → Same text_order x y → string_bytes x ≡ string_bytes y
same_text x y e = exact_bytes (string_bytes x) (string_bytes y) e

-- the pages are the tree of the rows, apart from caches, where a map has one tree
pub pages_are : ((hasher : List ℕ) (base : ℕ) (m : List (Text × List ℕ)) (t : Tree Text (List ℕ)) → IsTreeOf text_order (text_digest hasher) base t m
    → SamePages text_order t (defined_tree (text_digest hasher) base m))
    → (format : PageFormat) (c : Contents Text ℕ (List ℕ)) → HasDefaults format c → IsSound text_order text_digest string_bytes c.tree
    → SameMap text_order (λ d e. d ≡ e) (map_of c.tree) (digests (number_digest c.tree.hasher) c.rows) → SamePages text_order c.tree.root (tree c.rows)
pages_are only format c (hasher, base, same_format) sound digested =
    rw (hasher, base) at (only c.tree.hasher c.tree.base (digests (number_digest c.tree.hasher) c.rows) c.tree.root (sound.canonical, digested))

-- equal ranges are shown alike
same_lines : (es fs : List (Entry Text (List ℕ))) → SameEntries text_order es fs → flat_map range_text (map span_of es) ≡ flat_map range_text (map span_of fs)
same_lines [] [] s = refl
same_lines [] (f ∷ fs) s = absurd s
same_lines (e ∷ es) [] s = absurd s
same_lines (e ∷ es) (f ∷ fs) s = λ i. reply_line (same_text e.first f.first s.0.0.0 i ++ codes " " ++ same_text e.last f.last s.0.0.1 i) ++ same_lines es fs s.1 i

-- and page ranges that equal those of the tree of the rows are shown as these
pub ranges_are : (format : PageFormat) (rows : List TextRow) (es : List (Entry Text (List ℕ))) → SameEntries text_order es (ranges_of_rows format rows)
    → ranges_text (map span_of es) ≡ ranges_text (map span_of (ranges_of_rows format rows))
ranges_are format rows es same = ap (λ lines. lines ++ end_line) (same_lines es (ranges_of_rows format rows) same)
