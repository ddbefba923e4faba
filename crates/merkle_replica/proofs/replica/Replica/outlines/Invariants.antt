use Rattle.std.proofs.Common.{◌≡◌, take}
use Rattle.std.specs.List.{flat_map}
use Rattle.merkle_tree_theory.specs.Outline.{outline_over}
use Rattle.merkle_search_tree.specs.Items.{items}
use Rattle.merkle_replica.specs.Descent.{gaps_of}
use Rattle.merkle_replica.proofs.replica.Replica.outlines.Given as goal

-- the outlines over the gaps so far
abbrev pub invariant-gaps : goal.invariant-gaps
invariant-gaps g l = items l.all.items ≡ flat_map (outline_over l.self.tree.format g.K.KeyBytes.bytes_of g.K.Ord.cmp l.self.tree.root) (gaps_of (take l.gap-index l.gaps))
