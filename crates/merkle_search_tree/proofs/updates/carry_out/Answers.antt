use Rattle.std.proofs.Common.{is_some, refl, ap, sym, ◌∙◌}
use Rattle.merkle_tree_theory.specs.State.{map_of}
use Rattle.merkle_search_tree.specs.Updates.{hashed_after_one}
use Rattle.merkle_search_tree.specs.declared.updates.Update.TheVariants.{Remove}
use Rattle.merkle_search_tree.proofs.Replays.{removal_result}
use Rattle.merkle_search_tree.proofs.updates.carry_out.Goals as goal

pub returns-in-RootHash-clause-map : goal.returns-in-RootHash-clause-map
returns-in-RootHash-clause-map g c = rw c.in-RootHash.is c.root_hash_counted.ensures.map

pub returns-in-RootHash-clause-free : goal.returns-in-RootHash-clause-free
returns-in-RootHash-clause-free g c = rw c.in-RootHash.is refl

pub returns-in-Upsert-clause-free : goal.returns-in-Upsert-clause-free
returns-in-Upsert-clause-free g c = rw c.in-Upsert.is (λ e. c.is_ok.ensures.value ∙ c.upsert.ensures.succeeds e)

pub returns-in-Remove-clause-free : goal.returns-in-Remove-clause-free
returns-in-Remove-clause-free g c = rw c.in-Remove.is (λ e. c.is_ok-in-Remove.ensures.value ∙ c.remove.ensures.succeeds_absent e)

pub returns-in-Remove-clause-hashed : goal.returns-in-Remove-clause-hashed
returns-in-Remove-clause-hashed g c =
    let cmp = g.K.Ord.cmp in
    let d = g.H.Hasher-2.digest_of c.args.tree.now.hasher in
    let m = map_of c.args.tree.now in
    let e = c.remove.ensures in
    removal_result cmp d c.in-Remove.key c.remove.result m c.args.tree.now c.remove.new.self e.found e.absent e.forgotten e.unchanged
    ∙ ap (hashed_after_one cmp d m (is_some c.args.tree.now.root_hash) (Remove c.in-Remove.key)) (sym c.is_ok-in-Remove.ensures.value)
    ∙ ap (λ u. hashed_after_one cmp d m (is_some c.args.tree.now.root_hash) u c.is_ok-in-Remove.result) (sym c.in-Remove.is)
