use Rattle.std.proofs.Common.{subst, sym, arith}
use Rattle.sqlite_value.specs.Keys.{plain}
use Rattle.sqlite_trees.specs.Tree.{IsIndex}
use Rattle.sqlite_trees.specs.View.{IsShaped}
use Rattle.store_file.specs.Logs.{IsClean, trees_of}
use Rattle.store_file.specs.Reading.{TakesEntry}
use Rattle.store_file.proofs.Reading.{reads_on, reads_all}
use Rattle.store_file.proofs.Walking.{uncommitted_steady}
use Rattle.store_file.proofs.reader.next_entry.Goals as goal

pub returns-in-Ok-clause-read : goal.returns-in-Ok-clause-read
returns-in-Ok-clause-read g c =
    let s = g.S.Store in
    let uncommitted = c.take_entry.ensures.uncommitted in
    rw (sym c.log.view_is) (reads_on s c.log.inside.trees c.take_entry.new.trees c.in-Ok.found c.in-Ok.ensures.taken c.in-Ok.ensures.live c.in-Ok.ensures.same
    (uncommitted_steady s c.log.inside.trees c.take_entry.new.trees uncommitted) uncommitted.quiet.outcomes)

pub returns-in-Ok-clause-all : goal.returns-in-Ok-clause-all
returns-in-Ok-clause-all g c is clean =
    let s = g.S.Store in
    let old = c.log.inside.trees in
    let new = c.take_entry.new.trees in
    let did = c.in-Ok.ensures in
    let early : IsClean s old = omega (arith, c.take_entry.ensures.uncommitted.quiet.clean, clean) in
    let shaped : IsIndex plain (trees_of s old 0) = subst (λ shape. IsShaped shape (trees_of s old 0)) (c.log.invariant.tables early).entries (g.met.S.Store.ordered old (did.sound clean) 0) in
    rw (sym c.log.view_is) (reads_all s old new (subst (TakesEntry (s.view old) (s.view new)) is (did.taken clean)) early shaped)
