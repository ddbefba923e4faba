use Rattle.std.proofs.Common.{subst}
use Rattle.merkle_wire.specs.Sessions.{IsKeyOf}
use Rattle.merkle_wire.proofs.OwnKeys.{first_is_key}
use Rattle.merkle_wire.proofs.kept_tree.first_row_key.Goals as goal

pub returns-in_ok-clone-in-Some : goal.returns-in_ok-clone-in-Some
returns-in_ok-clone-in-Some g c =
    let row = c.in-Some.row.now in
    let key = c.in_ok-clone-in-Some.field-0 in
    subst (λ rows. IsKeyOf g.K.Ord.cmp rows key) c.rows.ensures.rows
    (first_is_key g.K.Ord.cmp g.met.K.Ord.total c.rows.result.now row key c.in-Some.ensures.value (g.met.K.SameClone.clone_is_same row.0 key c.in_ok-clone-in-Some.ensures.cases))
