use Rattle.std.proofs.Common.{arith, rules, string_bytes}
use Rattle.store_file.specs.Logs.{IsClean, trees_of}
use Rattle.store_file.specs.declared.catalog.TheConstants.{CELLS}
use Rattle.store_tree.proofs.Loading.{front_more}
use Rattle.store_tree.proofs.load.begin.Goals as goal

pub levels-preserved : goal.levels-preserved
levels-preserved g c =
    let s = g.S.Store in
    let was = c.levels.invariant in
    let early : IsClean s c.split.new.trees → IsClean s c.levels.trees = λ clean. omega (arith, c.split.ensures.uncommitted.quiet.clean, clean) in
    record {
      low = search rules;
      begun = λ clean. front_more (string_bytes c.args.key.now) c.levels.level (trees_of s c.args.trees.now CELLS) (trees_of s c.levels.trees CELLS) (trees_of s c.split.new.trees CELLS)
          (was.begun (early clean)) (c.in_ok-split.ensures.split clean);
      others = search rules;
      uncommitted = search rules;
    }
