use Rattle.std.proofs.Common.{arith, rules}
use Rattle.store_file.specs.Logs.{IsClean, trees_of}
use Rattle.store_file.specs.declared.catalog.TheConstants.{CELLS}
use Rattle.store_tree.proofs.Writing.{one_more}
use Rattle.store_tree.proofs.write.grow.Goals as goal

pub levels-preserved : goal.levels-preserved
levels-preserved g c =
    let s = g.S.Store in
    let was = c.levels.invariant in
    let early : IsClean s c.put.new.trees → IsClean s c.levels.trees = λ clean. omega (arith, c.put.ensures.uncommitted.quiet.clean, clean) in
    record {
      from = search rules;
      upto = search rules;
      grown = λ clean. one_more c.args.top c.levels.level (trees_of s c.args.trees.now CELLS) (trees_of s c.levels.trees CELLS) (trees_of s c.put.new.trees CELLS) was.from (was.grown (early clean))
          (search rules);
      others = search rules;
      uncommitted = search rules;
    }
