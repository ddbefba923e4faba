use Rattle.std.proofs.Common.{ap, sym, ◌∙◌, arith}
use Rattle.merkle_tree_theory.specs.State.{State}
use Rattle.merkle_tree_theory.proofs.UpsertState.{none_of_hashed}
use Rattle.merkle_search_tree.proofs.tree.MerkleSearchTree.pages_to_hash.Goals as goal

pub returns-clause-hashed : goal.returns-clause-hashed
returns-clause-hashed g c = λ hashed.
    let s = c.self.inside in
    omega (
      arith,
      c.missing.ensures,
      none_of_hashed s.page_format g.K.KeyBytes.bytes_of s.root s.root_hash c.self.invariant.root_hash_holds c.self.invariant.caches
          (λ e. hashed (sym (ap (λ (v : State g.row.K.Denot g.row.H.Denot). v.root_hash) c.self.view_is) ∙ e)),
    )
