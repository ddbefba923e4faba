use Rattle.std.proofs.Common.{◌≡◌, vec_len}
use Rattle.merkle_tree_theory.specs.Tree.{nothing, held_of}
use Rattle.merkle_tree_theory.specs.Chain.{with_high, page_chain}
use Rattle.merkle_search_tree.proofs.chain.Chain.hang_below.Given as goal

abbrev pub invariant-hang : goal.invariant-hang
invariant-hang g l = (page_chain with_high l.stale l.pages.items (held_of l.held) ≡ page_chain with_high l.stale l.initial.pages.items nothing)

abbrev pub decreases-hang : goal.decreases-hang
decreases-hang g l = vec_len l.pages
