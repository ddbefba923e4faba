use Rattle.std.proofs.Common.{◌≡◌, drop}
use Rattle.store_tree.specs.Overs.{is_first_in}
use Rattle.store_tree.specs.Pages.{gap_between}
use Rattle.store_tree.specs.Rows.{bound_bytes}
use Rattle.store_tree.proofs.over.is_first_in.Given as goal

abbrev pub invariant-pairs : goal.invariant-pairs
invariant-pairs l = is_first_in (gap_between (bound_bytes l.fn.after) (bound_bytes l.fn.before)) l.fn.pairs
    ≡ is_first_in (gap_between (bound_bytes l.fn.after) (bound_bytes l.fn.before)) (drop l.pair-index l.pairs)
