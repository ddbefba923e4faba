use Rattle.std.proofs.Common.{Some, ap, ◌∙◌}
use Rattle.std.specs.Option.{option_map}
use Rattle.key_order.specs.Map.{get}
use Rattle.merkle_tree_theory.specs.State.{State, map_of}
use Rattle.merkle_tree_theory.proofs.Inside.{get_entry}
use Rattle.merkle_tree_theory.proofs.RemovalTree.{tree_entry-is}
use Rattle.merkle_search_tree.proofs.tree.MerkleSearchTree.value_hash.Goals as goal

pub returns-in_err-node : goal.returns-in_err-node
returns-in_err-node g c =
    let s = c.self.inside in
    let cmp = g.K.Ord.cmp in
    let k = c.args.key.now in
    ap (option_map (λ digest. digest.now)) c.from_residual.ensures
    ∙ ap (option_map (λ p. p.1)) (c.in_err-node.ensures ∙ tree_entry-is cmp g.met.K.Ord.total k s.root c.self.invariant.ascending)
    ∙ get_entry cmp g.met.K.Ord.total _ k ∙ ap (λ (v : State g.row.K.Denot g.row.H.Denot). get cmp (map_of v) k) c.self.view_is

pub returns : goal.returns
returns g c =
    let s = c.self.inside in
    let cmp = g.K.Ord.cmp in
    let k = c.args.key.now in
    ap Some c.value_hash.ensures ∙ ap (option_map (λ p. p.1)) (c.in_ok-node.ensures ∙ tree_entry-is cmp g.met.K.Ord.total k s.root c.self.invariant.ascending)
    ∙ get_entry cmp g.met.K.Ord.total _ k ∙ ap (λ (v : State g.row.K.Denot g.row.H.Denot). get cmp (map_of v) k) c.self.view_is
