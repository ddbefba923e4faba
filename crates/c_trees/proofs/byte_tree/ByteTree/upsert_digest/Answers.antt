use Rattle.std.proofs.Common.{◌≡◌, OnOk, ap, subst, ◌∙◌, map}
use Rattle.key_order.specs.Map.{set}
use Rattle.merkle_tree_theory.specs.State.{map_of}
use Rattle.c_trees.specs.Trees.{SetDropsFew}
use Rattle.c_values.specs.Keys.{bytes_cmp, by_key, key_cmp, pairs_of}
use Rattle.c_values.proofs.Pairs.{pairs_set}
use Rattle.c_trees.proofs.byte_tree.ByteTree.upsert_digest.Goals.{in-Ok, in-Err}
use Rattle.c_trees.proofs.byte_tree.ByteTree.upsert_digest.Goals as goal

pub returns-clause-done : goal.returns-clause-done
returns-clause-done c =
    let old = c.args.self.now.tree in let key = c.in_ok-own_key.own_key in let digest = c.args.digest.now in
    let same = c.in_ok-own_key.ensures.items in
    elim c.match-upsert.branch [
      | in-Ok w ↦
          let is_set = subst (λ r. OnOk r (map_of c.upsert.new.self ≡ set key_cmp (map_of old) key digest)) w.in-Ok.is c.upsert.ensures.set in
          rw w.result-is
          (record {
            rows = ap (map by_key) is_set ∙ pairs_set (map_of old) key digest ∙ ap (λ k. set bytes_cmp (pairs_of old) k digest) same;
            settings = c.upsert.ensures.settings;
          })
      | in-Err w ↦ rw w.result-is tt
    ]

pub returns-clause-few_more : goal.returns-clause-few_more
returns-clause-few_more c =
    let old = c.args.self.now.tree in let new = c.upsert.new.self in let own_key = c.in_ok-own_key.own_key in
    elim c.match-upsert.branch [
      | in-Ok w ↦
          let few = subst (λ r. OnOk r (SetDropsFew own_key.items old new)) w.in-Ok.is c.upsert.ensures.few_more in
          rw w.result-is (subst (λ key. SetDropsFew key old new) c.in_ok-own_key.ensures.items few)
      | in-Err w ↦ rw w.result-is tt
    ]
