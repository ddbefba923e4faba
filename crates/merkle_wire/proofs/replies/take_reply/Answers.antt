use Rattle.std.proofs.Common.{sym, ◌∙◌}
use Rattle.std.proofs.lemmas.Result.{err_from_is_err_and}
use Rattle.merkle_wire.specs.declared.question.Question.TheVariants.{Outlines, Nodes}
use Rattle.merkle_wire.proofs.LeftToAsk.{asks_none, asks_some}
use Rattle.merkle_wire.proofs.replies.take_reply.Goals as goal

pub returns-then-is_empty-clause-taken : goal.returns-then-is_empty-clause-taken
returns-then-is_empty-clause-taken g c = rw g.met.H.RowHasher.laws_are (rw c.in-Outlines.is (λ sound rows of.
    let read = c.in_ok-left-in-Outlines in
    (read.left.items, (rw g.met.H.RowHasher.laws_are at read.ensures.taken) sound rows of, asks_none (Outlines c.in-Outlines.most) read.left (sym c.is_empty.ensures ∙ c.if-is_empty.true))))

pub returns-in-Outlines-clause-taken : goal.returns-in-Outlines-clause-taken
returns-in-Outlines-clause-taken g c = rw g.met.H.RowHasher.laws_are (rw c.in-Outlines.is (λ sound rows of.
    let read = c.in_ok-left-in-Outlines in
    (read.left.items, (rw g.met.H.RowHasher.laws_are at read.ensures.taken) sound rows of, asks_some (Outlines c.in-Outlines.most) read.left (sym c.is_empty.ensures ∙ c.if-is_empty.false))))

pub returns-in_err-left-in-Outlines-clause-refused : goal.returns-in_err-left-in-Outlines-clause-refused
returns-in_err-left-in-Outlines-clause-refused g c =
    let p = err_from_is_err_and c.from_residual-in_err-left-in-Outlines.result c.from_residual-in_err-left-in-Outlines.ensures.1 in
    rw (p.1, p.2) (rw c.in-Outlines.is c.in_err-left-in-Outlines.ensures.refused)

pub returns-then-is_empty-2-clause-taken : goal.returns-then-is_empty-2-clause-taken
returns-then-is_empty-2-clause-taken g c = rw g.met.H.RowHasher.laws_are (rw c.in-Nodes.is (λ sound rows of.
    let read = c.in_ok-left-in-Nodes in
    (read.left.items, (rw g.met.H.RowHasher.laws_are at read.ensures.taken) sound rows of, asks_none (Nodes c.in-Nodes.most) read.left (sym c.is_empty-in-Nodes.ensures ∙ c.if-is_empty-2.true))))

pub returns-in-Nodes-clause-taken : goal.returns-in-Nodes-clause-taken
returns-in-Nodes-clause-taken g c = rw g.met.H.RowHasher.laws_are (rw c.in-Nodes.is (λ sound rows of.
    let read = c.in_ok-left-in-Nodes in
    (read.left.items, (rw g.met.H.RowHasher.laws_are at read.ensures.taken) sound rows of, asks_some (Nodes c.in-Nodes.most) read.left (sym c.is_empty-in-Nodes.ensures ∙ c.if-is_empty-2.false))))

pub returns-in_err-left-in-Nodes-clause-refused : goal.returns-in_err-left-in-Nodes-clause-refused
returns-in_err-left-in-Nodes-clause-refused g c =
    let p = err_from_is_err_and c.from_residual-in_err-left-in-Nodes.result c.from_residual-in_err-left-in-Nodes.ensures.1 in
    rw (p.1, p.2) (rw c.in-Nodes.is c.in_err-left-in-Nodes.ensures.refused)

pub returns-in-RowsAt-clause-taken : goal.returns-in-RowsAt-clause-taken
returns-in-RowsAt-clause-taken g c = rw c.in-RowsAt.is c.take_values.ensures.taken

pub returns-in-RowsAt-clause-refused : goal.returns-in-RowsAt-clause-refused
returns-in-RowsAt-clause-refused g c = rw c.in-RowsAt.is c.take_values.ensures.refused

pub returns-clause-taken : goal.returns-clause-taken
returns-clause-taken g c = rw c.in-RowsIn.is c.take_parts.ensures.taken

pub returns-clause-refused : goal.returns-clause-refused
returns-clause-refused g c = rw c.in-RowsIn.is c.take_parts.ensures.refused
