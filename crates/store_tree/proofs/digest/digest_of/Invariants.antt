use Rattle.std.proofs.Common.{◌≡◌, ◌++◌, ℕ, List, drop, length}
use Rattle.merkle_digest.specs.SipHash.{zero_key}
use Rattle.merkle_digest.specs.Sip24.{Holds}
use Rattle.merkle_tree_theory.specs.Stream.{head_bytes}
use Rattle.merkle_tree_theory.specs.declared.page_format.PageFormat.TheVariants.{V2}
use Rattle.store_tree.specs.Pages.{nodes_stream}
use Rattle.store_tree.proofs.digest.digest_of.Given as goal

-- what was written, and what is left to write, are what stands for all nodes
abbrev pub invariant-nodes : goal.invariant-nodes
invariant-nodes l =
    (written : List ℕ) × Holds l.sip zero_key (head_bytes V2 l.fn.level (length l.fn.page.nodes.items) ++ written)
    × (nodes_stream l.fn.page.nodes.items l.fn.page.last ≡ written ++ nodes_stream (drop l.node-index l.fn.page.nodes.items) l.fn.page.last)
