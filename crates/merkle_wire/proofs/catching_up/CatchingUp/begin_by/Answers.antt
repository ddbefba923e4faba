use Rattle.std.proofs.Common.{subst, sym}
use Rattle.merkle_replica.proofs.SideLaws.{laws_of}
use Rattle.merkle_wire.specs.Questions.{IsQuestion}
use Rattle.merkle_wire.specs.Sessions.{IsKeyOf}
use Rattle.merkle_wire.specs.declared.question.Question.TheVariants.{Root}
use Rattle.merkle_wire.proofs.ExchangeKeys.{question_read}
use Rattle.merkle_wire.proofs.ItsSides.{key_of_rows}
use Rattle.merkle_wire.proofs.catching_up.CatchingUp.begin_by.Goals as goal

pub returns-clause-keys : goal.returns-clause-keys
returns-clause-keys g c = rw g.met.H.RowHasher.laws_are (λ sound rows of.
    let laws = laws_of g.K.Ord.cmp g.K.KeyBytes.bytes_of g.H.Hasher-1.digest_of g.V.PartialEq.eq g.V.Join.join_of g.H.Hasher-2.digest_of in
    let cmp = g.K.Ord.cmp in
    let own = (g.T.KeptTree.kept c.args.tree.now).digests in
    let settings = c.in_ok-settings.settings in
    subst (IsQuestion (IsKeyOf cmp rows)) (sym c.in_ok-begin.ensures.asked)
    (question_read (IsKeyOf cmp own.map) (IsKeyOf cmp rows) (key_of_rows laws g.met.K.Ord.total own rows of) (Root settings) (c.in_ok-settings.ensures.keys sound)))
