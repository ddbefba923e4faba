use Rattle.std.proofs.Common.{◌≡◌, ap, arith, rules}
use Rattle.sqlite_trees.specs.Tree.{without_rowid}
use Rattle.store_file.specs.Logs.{IsClean, trees_of}
use Rattle.store_file.proofs.OtherNotes.{named}
use Rattle.store_file.proofs.Outcomes.{on_ok}
use Rattle.store_file.proofs.Walking.{uncommitted_then}
use Rattle.store_file.proofs.naming.replace_note.Goals as goal

pub returns-clause-named : goal.returns-clause-named
returns-clause-named g c clean =
    let s = g.S.Store in
    let old = c.args.trees.now in
    let read = c.numbered_note.new.trees in
    let removed = c.remove_note.new.trees in
    let late : IsClean s removed = omega (arith, c.write_note.ensures.uncommitted.quiet.clean, clean) in
    let early : IsClean s read = omega (arith, c.remove_note.ensures.uncommitted.quiet.clean, late) in
    let found = c.in_ok-number.ensures in
    let took = c.in_ok-remove_note.ensures in
    let same : trees_of s read ≡ trees_of s old = ap (λ v. v.trees) (found.same early) in
    let taken : trees_of s removed 1 ≡ without_rowid c.in_ok-number.number (trees_of s read 1) = search rules in
    on_ok c.write_note.result _ _
    (named (trees_of s old) (trees_of s read) (trees_of s removed) (trees_of s c.write_note.new.trees) c.in_ok-number.note c.args.writer.now c.in_ok-number.number
    same (found.noted early) found.format (found.alone early) taken (took.others late) (took.cells late))
    (c.write_note.ensures.written clean)

pub returns-clause-uncommitted : goal.returns-clause-uncommitted
returns-clause-uncommitted g c =
    let s = g.S.Store in
    let old = c.args.trees.now in
    let read = c.numbered_note.new.trees in
    let removed = c.remove_note.new.trees in
    uncommitted_then s old read c.write_note.new.trees c.numbered_note.ensures.uncommitted
    (uncommitted_then s read removed c.write_note.new.trees c.remove_note.ensures.uncommitted c.write_note.ensures.uncommitted)
