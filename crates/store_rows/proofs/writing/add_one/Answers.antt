use Rattle.std.proofs.Common.{arith}
use Rattle.store_file.specs.Logs.{IsClean, trees_of}
use Rattle.store_file.specs.declared.catalog.TheConstants.{CELLS}
use Rattle.store_rows.proofs.Stepping.{set_kept}
use Rattle.store_rows.proofs.writing.add_one.Goals as goal

pub returns-clause-kept : goal.returns-clause-kept
returns-clause-kept g c clean =
    let s = g.S.Store in
    let sooner : IsClean s c.add_at.new.trees = omega (arith, c.write_key.ensures.uncommitted.quiet.clean, clean) in
    set_kept c.args.hasher.now c.args.key.now c.args.register.now (trees_of s c.args.trees.now) (trees_of s c.add_at.new.trees) (trees_of s c.write_key.new.trees)
    (rw c.as_str.ensures.value at (c.in_ok-add_at.ensures.added sooner)) (c.in_ok-write_key.ensures.others clean) c.level_of.result
    (c.in_ok-add_at.ensures.others sooner CELLS (λ same. omega (arith, same))) (c.in_ok-write_key.ensures.written clean) c.level_of.ensures
