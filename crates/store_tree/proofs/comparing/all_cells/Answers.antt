use Rattle.store_file.proofs.Walking.{uncommitted_then}
use Rattle.store_tree.proofs.comparing.all_cells.Goals as goal

pub returns-in_err-append : goal.returns-in_err-append
returns-in_err-append g c = record {
  uncommitted = uncommitted_then g.S.Store c.args.trees.now c.levels.trees c.scan.new.trees c.levels.invariant.uncommitted c.scan.ensures.uncommitted;
}
