use Rattle.std.proofs.Common.{map, ap, ◌∙◌}
use Rattle.std.specs.Int.NonZero.{non_zero_u8_get}
use Rattle.merkle_digest.specs.Level.{level_of}
use Rattle.merkle_tree_theory.specs.Page.{pair_of}
use Rattle.merkle_tree_theory.specs.State.{State, map_of}
use Rattle.merkle_tree_theory.proofs.NodeParts.{if_ok_map}
use Rattle.merkle_tree_theory.proofs.FallingLevels.{root-falls, in_order-pairs}
use Rattle.merkle_search_tree.proofs.tree.MerkleSearchTree.node_iter.Goals as goal

pub new-requires : goal.new-requires
new-requires g c =
    let s = c.self.inside in
    root-falls (λ k. level_of (g.H.Hasher.digest_of s.hasher k) (non_zero_u8_get s.level_base)) s.root c.self.invariant.canonical

pub returns-clause-map : goal.returns-clause-map
returns-clause-map g c =
    if_ok_map c.new.result _ _ (λ rest e. ap (map pair_of) e ∙ in_order-pairs c.self.inside.root ∙ ap (λ (v : State g.row.K.Denot g.row.H.Denot). map_of v) c.self.view_is) c.new.ensures
