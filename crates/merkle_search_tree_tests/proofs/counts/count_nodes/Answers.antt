use Rattle.std.proofs.Common.{false, ap, ◌∙◌, length, arith}
use Rattle.merkle_tree_theory.specs.State.{map_of}
use Rattle.merkle_tree_theory.specs.Events.{events_of}
use Rattle.merkle_search_tree_tests.proofs.Counting.{after, after_page, visits_after, plus-from_zero}
use Rattle.merkle_search_tree_tests.proofs.counts.count_nodes.Goals as goal

pub returns : goal.returns
returns g c =
    visits_after (λ s. s.nodes) _ _ (events_of false c.args.tree.now.root) c.in_order_traversal.ensures.visited.0 c.in_order_traversal.ensures.visited.1
    ∙ ap (λ n. after n (events_of false c.args.tree.now.root)) c.new-tally.ensures
    ∙ after_page 0 false c.args.tree.now.root (omega arith)
    ∙ plus-from_zero (length (map_of c.args.tree.now))
