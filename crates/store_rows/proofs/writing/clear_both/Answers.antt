use Rattle.std.proofs.Common.{arith, ◌∙◌}
use Rattle.store_file.specs.Logs.{IsClean, trees_of}
use Rattle.store_rows.specs.Digests.{key_level}
use Rattle.store_rows.proofs.Stepping.{begun, key_low}
use Rattle.store_rows.proofs.writing.clear_both.Goals as goal

pub returns-clause-in_step : goal.returns-clause-in_step
returns-clause-in_step g c hash_key clean =
    let s = g.S.Store in
    let new = c.clear_tree.new.trees in
    let sooner : IsClean s c.clear_at.new.trees = omega (arith, c.clear_tree.ensures.uncommitted.quiet.clean, clean) in
    begun hash_key (trees_of s new) (c.in_ok-clear_tree.ensures.others clean 0 (λ same. omega (arith, same)) ∙ (c.in_ok-clear_at.ensures.cleared sooner).entries)
    (c.in_ok-clear_tree.ensures.cleared clean (key_level hash_key) (key_low hash_key))
