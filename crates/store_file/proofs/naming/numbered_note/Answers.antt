use Rattle.std.proofs.Common.{◌≡◌, ◌∙◌, [], sym, rules}
use Rattle.sqlite_trees.specs.Tree.{without_rowid}
use Rattle.store_file.specs.Logs.{trees_of}
use Rattle.store_file.proofs.OtherNotes.{none_left}
use Rattle.store_file.proofs.naming.numbered_note.Goals as goal

pub returns-clause-alone : goal.returns-clause-alone
returns-clause-alone g c clean =
    let none : without_rowid c.in_ok-number_in.field-0 (trees_of g.S.Store c.args.trees.now 1) ≡ [] =
    none_left _ _ _ (c.in_ok-only_note.ensures.one clean c.if-not-branch.false) (sym c.get.ensures ∙ c.in_ok-number_in.ensures.number) in
    search rules
