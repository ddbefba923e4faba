use Rattle.std.proofs.Common.{ap, arith, rules}
use Rattle.sqlite_trees.specs.Tree.{order_of}
use Rattle.store_file.specs.Logs.{IsClean}
use Rattle.store_file.proofs.Reading.{sought_first}
use Rattle.store_file.proofs.reader.seek_first.Goals as goal

pub returns-clause-begun : goal.returns-clause-begun
returns-clause-begun g c clean =
    let s = g.S.Store in
    let old = c.args.trees.now in
    let early : IsClean s old = omega (arith, c.seek-2.ensures.quiet.clean, clean) in
    sought_first (s.view old) (s.view c.seek-2.new.self) _ (ap order_of (c.requires.tables early).entries) (search rules) (c.in_ok-seek.ensures.ok clean)
