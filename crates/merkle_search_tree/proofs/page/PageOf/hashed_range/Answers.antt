use Rattle.merkle_tree_theory.proofs.RangeEnds.{has-first, ends-upto}
use Rattle.merkle_search_tree.proofs.page.PageOf.hashed_range.Goals as goal

pub unreachable-requires-in-None-least_key : goal.unreachable-requires-in-None-least_key
unreachable-requires-in-None-least_key g c = has-first c.args.self.now c.requires.range.0 c.in-None-least_key.ensures

pub new-requires-2 : goal.new-requires-2
new-requires-2 g c = ends-upto g.K.Ord.cmp g.met.K.Ord.total _ _ _ c.in-Some-least_key.ensures c.in-Some-last_key.ensures c.requires.range.2
