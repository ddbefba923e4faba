use Rattle.std.proofs.Common.{subst}
use Rattle.merkle_tree_theory.specs.Sound.{IsSound}
use Rattle.merkle_tree_theory.proofs.CachedRanges.{hashed_has}
use Rattle.merkle_search_tree.proofs.laws.a_hashed_tree_has_every_digest.Goals as goal

pub returns : goal.returns
returns g c =
    let sound = subst (IsSound g.K.Ord.cmp g.H.Hasher.digest_of g.K.KeyBytes.bytes_of) c.tree.view_is c.tree.invariant in
    hashed_has c.args.tree.now.format g.K.KeyBytes.bytes_of c.args.tree.now.root_hash c.args.tree.now.root sound.root_hash_holds sound.caches
