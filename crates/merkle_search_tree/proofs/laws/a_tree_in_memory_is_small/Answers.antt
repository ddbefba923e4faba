use Rattle.std.proofs.Common.{ℕ, subst}
use Rattle.merkle_digest.specs.Level.{level_of}
use Rattle.merkle_tree_theory.specs.Sound.{IsSound}
use Rattle.merkle_tree_theory.specs.Small.{IsHeldInMemory}
use Rattle.merkle_tree_theory.specs.State.{State}
use Rattle.merkle_tree_theory.proofs.Small.{keys_short, digests_long, pages_few}
use Rattle.merkle_tree_theory.proofs.Sound.{alike}
use Rattle.merkle_tree_theory.proofs.Unique.{unique_root}
use Rattle.merkle_search_tree.proofs.laws.a_tree_in_memory_is_small.Goals as goal

pub returns : goal.returns
returns g c =
    let b = g.K.KeyBytes.bytes_of in
    let cmp = g.K.Ord.cmp in
    let s = c.args.tree.now in
    let sound : IsSound cmp g.H.Hasher.digest_of b s = subst (IsSound cmp g.H.Hasher.digest_of b) c.tree.view_is c.tree.invariant in
    let held : IsHeldInMemory b g.row.N s.root = subst (λ (v : State g.row.K.Denot g.row.H.Denot). IsHeldInMemory b g.row.N v.root) c.tree.view_is c.look.ensures in
    let lev : g.row.K.Denot → ℕ = λ k. level_of (g.H.Hasher.digest_of s.hasher k) s.base in
    let same_level = alike cmp g.met.K.Ord.total g.K.PartialEq.eq g.met.K.Ord.matches_eq g.H.Hasher.digest_of g.met.H.Hasher.respects_eq b s in
    record {
      keys = keys_short b g.row.N s.root held;
      digests = digests_long b g.row.N s.root held;
      pages = λ p (t, is_tree, is_in). pages_few b g.row.N cmp t s.root (unique_root lev cmp same_level t s.root is_tree.0 sound.canonical is_tree.1) held p is_in;
    }
