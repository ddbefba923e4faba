use Rattle.std.proofs.Common.{Some, None, ap, refl}
use Rattle.std.proofs.lemmas.Result.{err_from_is_err_and}
use Rattle.merkle_replica.proofs.SideLaws.{laws_of}
use Rattle.merkle_replica.specs.Laws.{Laws}
use Rattle.merkle_wire.specs.ItsRows.{ForRowsOf, side_of}
use Rattle.merkle_wire.specs.Taking.{HasTakenReply}
use Rattle.merkle_wire.specs.Underway.{Underway}
use Rattle.merkle_wire.proofs.AskedFor.{only_asked}
use Rattle.merkle_wire.proofs.NextMessages.{is_next, is_stopped, not_taken_stops}
use Rattle.merkle_wire.proofs.WithinLimits.{over_stops}
use Rattle.merkle_wire.proofs.catching_up.CatchingUp.take_by.Given.{Over}
use Rattle.merkle_wire.proofs.catching_up.CatchingUp.take_by.Goals as goal
use Rattle.merkle_wire.proofs.catching_up.CatchingUp.take_by.Goals.{In_ok-again}

-- the laws of keys, values and hasher
abbrev laws_at : (g : Over) → Laws g.row.K.Denot g.row.V.Denot g.row.H.Denot
laws_at g = laws_of g.K.Ord.cmp g.K.KeyBytes.bytes_of g.H.Hasher-1.digest_of g.V.PartialEq.eq g.V.Join.join_of g.H.Hasher-2.digest_of

-- the reply was taken, whatever rows the tree has the digests of
taken : (g : Over) (c : In_ok-again g) → g.T.KeptTree.is_sound c.take_reply.new.tree → ForRowsOf (laws_at g) (g.T.KeptTree.kept c.args.tree.now).digests
    (λ local. HasTakenReply (laws_at g) g.row.N g.K.Encode.encoding g.V.Encode.encoding local c.self.inside.asked c.args.reply.now c.self.inside.work c.take_reply.new.work c.in_ok-again.again)
taken g c = rw g.met.H.RowHasher.laws_are at c.in_ok-again.ensures.taken

pub returns-in_ok-ask-in-Some-clause-next : goal.returns-in_ok-ask-in-Some-clause-next
returns-in_ok-ask-in-Some-clause-next g c = rw g.met.H.RowHasher.laws_are (λ sound rows of.
    let local = side_of (g.T.KeptTree.kept c.args.tree.now).digests rows in
    let inside : Underway g.row.K.Denot g.row.V.Denot = record { asked = c.self.inside.asked; found = c.self.inside.work; rounds = c.self.inside.rounds; left = c.self.inside.left } in
    is_next (laws_at g) g.row.N g.K.Encode.encoding g.V.Encode.encoding local local c.args.self inside c.args.reply.now c.take_reply.new.work
    (Some c.in-Some.question) c.in_ok-again.again c.in_ok-ask-in-Some.field-0
    refl c.self.view_is c.in-Some.is (taken g (goal.at.returns-in_ok-ask-in-Some-clause-next g c).In_ok-again sound rows of) c.in_ok-ask-in-Some.ensures.asked)

pub returns-in_ok-go_on-in-None-clause-next : goal.returns-in_ok-go_on-in-None-clause-next
returns-in_ok-go_on-in-None-clause-next g c = rw g.met.H.RowHasher.laws_are (λ sound rows of.
    let local = side_of (g.T.KeptTree.kept c.args.tree.now).digests rows in
    let inside : Underway g.row.K.Denot g.row.V.Denot = record { asked = c.self.inside.asked; found = c.self.inside.work; rounds = c.self.inside.rounds; left = c.self.inside.left } in
    is_next (laws_at g) g.row.N g.K.Encode.encoding g.V.Encode.encoding local local c.args.self inside c.args.reply.now c.take_reply.new.work None c.in_ok-again.again c.in_ok-go_on-in-None.field-0
    refl c.self.view_is c.in-None.is (taken g (goal.at.returns-in_ok-go_on-in-None-clause-next g c).In_ok-again sound rows of) c.in_ok-go_on-in-None.ensures.goes_on)

pub returns-in_ok-ask-in-Some-clause-asked_for : goal.returns-in_ok-ask-in-Some-clause-asked_for
returns-in_ok-ask-in-Some-clause-asked_for g c = rw g.met.H.RowHasher.laws_are (λ sound rows of.
    only_asked (laws_at g) g.met.K.Ord.total g.row.N g.K.Encode.encoding g.V.Encode.encoding
    (side_of (g.T.KeptTree.kept c.args.tree.now).digests rows) c.args.self c.args.reply.now c.in_ok-ask-in-Some.field-0
    ((rw g.met.H.RowHasher.laws_are at (returns-in_ok-ask-in-Some-clause-next g c)) sound rows of))

pub returns-in_ok-go_on-in-None-clause-asked_for : goal.returns-in_ok-go_on-in-None-clause-asked_for
returns-in_ok-go_on-in-None-clause-asked_for g c = rw g.met.H.RowHasher.laws_are (λ sound rows of.
    only_asked (laws_at g) g.met.K.Ord.total g.row.N g.K.Encode.encoding g.V.Encode.encoding
    (side_of (g.T.KeptTree.kept c.args.tree.now).digests rows) c.args.self c.args.reply.now c.in_ok-go_on-in-None.field-0
    ((rw g.met.H.RowHasher.laws_are at (returns-in_ok-go_on-in-None-clause-next g c)) sound rows of))

pub returns-in_err-again-clause-ended : goal.returns-in_err-again-clause-ended
returns-in_err-again-clause-ended g c = rw g.met.H.RowHasher.laws_are (
    let p = err_from_is_err_and c.from_residual-in_err-again.result c.from_residual-in_err-again.ensures.1 in
    rw (p.1, p.2) (λ _. not_taken_stops (laws_at g) g.row.N g.K.Encode.encoding g.V.Encode.encoding g.K.Decode.is_value g.V.Decode.is_value
    (g.T.KeptTree.kept c.args.tree.now).digests c.args.self c.args.reply.now c.in_err-again.field-0.0
    (rw (ap (λ s. s.asked) c.self.view_is) at c.in_err-again.ensures.refused)))

pub returns-in_err-check_rows-clause-ended : goal.returns-in_err-check_rows-clause-ended
returns-in_err-check_rows-clause-ended g c = rw g.met.H.RowHasher.laws_are (
    let p = err_from_is_err_and c.from_residual-in_err-check_rows.result c.from_residual-in_err-check_rows.ensures.1 in
    let inside : Underway g.row.K.Denot g.row.V.Denot = record { asked = c.self.inside.asked; found = c.self.inside.work; rounds = c.self.inside.rounds; left = c.self.inside.left } in
    rw (p.1, p.2) (λ sound rows of. let local = side_of (g.T.KeptTree.kept c.args.tree.now).digests rows in
    over_stops (laws_at g) g.row.N g.K.Encode.encoding g.V.Encode.encoding g.K.Decode.is_value g.V.Decode.is_value local local c.args.self inside c.args.reply.now
    c.take_reply.new.work c.in_ok-again.again c.in_ok-left.left
    c.row_count.result c.in_err-check_rows.field-0.0 refl c.self.view_is (taken g (goal.at.returns-in_err-check_rows-clause-ended g c).In_ok-again sound rows of)
    c.in_ok-left.ensures.left.2 c.row_count.ensures c.in_err-check_rows.ensures.over))

pub returns-in_err-go_on-in-None-clause-ended : goal.returns-in_err-go_on-in-None-clause-ended
returns-in_err-go_on-in-None-clause-ended g c = rw g.met.H.RowHasher.laws_are (
    let p = err_from_is_err_and c.from_residual-in_err-go_on-in-None.result c.from_residual-in_err-go_on-in-None.ensures.1 in
    let inside : Underway g.row.K.Denot g.row.V.Denot = record { asked = c.self.inside.asked; found = c.self.inside.work; rounds = c.self.inside.rounds; left = c.self.inside.left } in
    rw (p.1, p.2) (λ sound rows of. let local = side_of (g.T.KeptTree.kept c.args.tree.now).digests rows in
    is_stopped (laws_at g) g.row.N g.K.Encode.encoding g.V.Encode.encoding g.K.Decode.is_value g.V.Decode.is_value local local c.args.self inside c.args.reply.now
    c.take_reply.new.work c.in_ok-again.again c.in_err-go_on-in-None.field-0.0
    refl c.self.view_is c.in-None.is (taken g (goal.at.returns-in_err-go_on-in-None-clause-ended g c).In_ok-again sound rows of) c.in_err-go_on-in-None.ensures.ended))
