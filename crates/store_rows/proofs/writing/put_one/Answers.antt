use Rattle.std.proofs.Common.{arith, sym, subst}
use Rattle.store_file.specs.Logs.{IsClean, trees_of}
use Rattle.store_file.specs.declared.catalog.TheConstants.{CELLS}
use Rattle.store_tree.specs.Loads.{KnowsNothing}
use Rattle.store_rows.proofs.Stepping.{set_kept}
use Rattle.store_rows.proofs.writing.put_one.Goals as goal

pub returns-clause-kept : goal.returns-clause-kept
returns-clause-kept g c clean unknown =
    let s = g.S.Store in
    let sooner : IsClean s c.add_at.new.trees = omega (arith, c.load_key.ensures.uncommitted.quiet.clean, clean) in
    let cells = c.in_ok-add_at.ensures.others sooner CELLS (λ same. omega (arith, same)) in
    set_kept c.args.hasher.now c.args.key.now c.args.register.now (trees_of s c.args.trees.now) (trees_of s c.add_at.new.trees) (trees_of s c.load_key.new.trees)
    (rw c.as_str.ensures.value at (c.in_ok-add_at.ensures.added sooner)) (c.in_ok-load_key.ensures.others clean) c.level_of.result cells
    (c.in_ok-load_key.ensures.added clean (subst KnowsNothing (sym cells) unknown)) c.level_of.ensures

pub returns-clause-unknown : goal.returns-clause-unknown
returns-clause-unknown g c clean unknown =
    let s = g.S.Store in
    let sooner : IsClean s c.add_at.new.trees = omega (arith, c.load_key.ensures.uncommitted.quiet.clean, clean) in
    let cells = c.in_ok-add_at.ensures.others sooner CELLS (λ same. omega (arith, same)) in
    c.in_ok-load_key.ensures.unknown clean (subst KnowsNothing (sym cells) unknown)
