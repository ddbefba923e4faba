use Rattle.std.proofs.Common.{◌≡◌, subst, sym}
use Rattle.std.proofs.lemmas.Result.{IfOk-weaker}
use Rattle.merkle_replica.proofs.SideLaws.{laws_of}
use Rattle.merkle_tree_theory.specs.State.{map_of}
use Rattle.merkle_wire.specs.ItsRows.{digests_of, ForRowsOf}
use Rattle.merkle_wire.specs.Questions.{IsQuestion}
use Rattle.merkle_wire.specs.Sessions.{IsKeyOf}
use Rattle.merkle_wire.specs.declared.question.Question.TheVariants.{Root}
use Rattle.merkle_wire.proofs.ExchangeKeys.{question_read}
use Rattle.merkle_wire.proofs.ItsSides.{key_of_rows}
use Rattle.merkle_wire.proofs.OwnKeys.{settings_with_key}
use Rattle.merkle_wire.proofs.catching_up.CatchingUp.begin_of.Goals as goal

pub returns-clause-keys : goal.returns-clause-keys
returns-clause-keys g c = rw g.met.H.RowHasher.laws_are (
    let laws = laws_of g.K.Ord.cmp g.K.KeyBytes.bytes_of g.H.Hasher-1.digest_of g.V.PartialEq.eq g.V.Join.join_of g.H.Hasher-2.digest_of in
    let cmp = g.K.Ord.cmp in
    let tree = c.args.tree.now in
    let settings = c.in_ok-settings_with.field-0 in
    IfOk-weaker c.begin.result (λ begun. begun.0.asked ≡ Root settings) (λ begun. ForRowsOf laws (digests_of tree) (λ local. IsQuestion (IsKeyOf cmp local.rows) begun.0.asked))
    (λ begun is rows of. subst (IsQuestion (IsKeyOf cmp rows)) (sym is)
    (question_read (IsKeyOf cmp (map_of tree)) (IsKeyOf cmp rows) (key_of_rows laws g.met.K.Ord.total (digests_of tree) rows of)
    (Root settings) (settings_with_key (IsKeyOf cmp (map_of tree)) settings c.in_ok-key.key
    c.in_ok-settings_with.ensures.few c.in_ok-settings_with.ensures.sample c.in_ok-key.ensures))) c.begin.ensures.asked)
