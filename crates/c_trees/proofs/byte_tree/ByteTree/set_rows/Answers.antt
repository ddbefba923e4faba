use Rattle.std.proofs.Common.{rules, arith, ◌≡◌, ◌<◌, ◌^◌, ◌++◌, ◌∷◌, [], List, ℕ, length, subst, sym}
use Rattle.std.proofs.lemmas.List.{length-append}
use Rattle.c_trees.specs.Lists.{AreSet}
use Rattle.c_values.specs.Lists.{sized_row}
use Rattle.c_values.proofs.Lists.{read_more}
use Rattle.c_trees.proofs.Sets.{front_set, one_set}
use Rattle.c_trees.proofs.byte_tree.ByteTree.set_rows.Goals as goal

pub returns-in_default : goal.returns-in_default
returns-in_default c =
    let kept = c.rows.invariant in let all = c.requires in
    let short : length c.args.body.now < 2 ^ 64 = search rules in
    front_set c.args.count c.rows.done all.0 kept.0 c.args.body.now c.rows.rest.now c.args.self.now.tree c.rows.self.tree short all.1 all.2 kept.2 (omega arith) kept.1 kept.3

pub returns-in-Err : goal.returns-in-Err
returns-in-Err c =
    let kept = c.rows.invariant in let all = c.requires in
    let short : length c.args.body.now < 2 ^ 64 = search rules in
    let as_before = subst (λ s. AreSet kept.0 c.args.self.now.tree s.tree) (sym c.in-Err.ensures.unchanged) kept.3 in
    front_set c.args.count c.rows.done all.0 kept.0 c.args.body.now c.rows.rest.now c.args.self.now.tree c.upsert.new.self.tree short all.1 all.2 kept.2 (omega arith) kept.1 as_before

pub rows-preserved : goal.rows-preserved
rows-preserved c =
    let kept = c.rows.invariant in
    let row : List ℕ × List ℕ = (c.in-Some.key.now, c.in-Some.value.now) in (
      kept.0 ++ row ∷ [],
      read_more sized_row kept.0 row c.args.body.now c.rows.rest.now c.in-Some.behind.now kept.1 c.in-Some.ensures.pair,
      omega (arith, kept.2, length-append kept.0 (row ∷ [])),
      one_set kept.0 row c.args.self.now.tree c.rows.self.tree c.upsert.new.self.tree kept.3 c.in-Ok.ensures.done,
    )

pub returns : goal.returns
returns c =
    let kept = c.rows.invariant in let all = c.requires in
    let short : length c.args.body.now < 2 ^ 64 = search rules in
    let done : length kept.0 ≡ c.args.count = omega (arith, kept.2) in
    front_set c.args.count c.args.count all.0 kept.0 c.args.body.now c.rows.rest.now c.args.self.now.tree c.rows.self.tree short all.1 all.2 done (omega arith) kept.1 kept.3
