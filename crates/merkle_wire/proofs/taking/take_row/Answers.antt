use Rattle.std.proofs.Common.{◌≡◌, ap, ◌∙◌}
use Rattle.merkle_wire.specs.ItsRows.{side_of}
use Rattle.merkle_wire.specs.Taking.{has_digest}
use Rattle.merkle_wire.proofs.Lacking.{has_row}
use Rattle.merkle_wire.proofs.taking.take_row.Goals as goal

pub returns-clause-taken : goal.returns-clause-taken
returns-clause-taken g c = λ sound rows of.
    let laws = g.H.RowHasher.laws in
    let row = c.args.row in
    let local = side_of (g.T.KeptTree.kept c.args.tree.now).digests rows in
    let told : c.as_slice.result.now ≡ laws.value_digest local.hasher row.1 = rw g.met.H.RowHasher.laws_are (c.as_slice.ensures ∙ c.as_bytes.ensures ∙ c.digest_of-digest.ensures) in
    let there : c.in_ok-is_there.is_there ≡ has_row laws local row = c.in_ok-is_there.ensures.has sound rows of ∙ ap (has_digest laws local row.0) told in
    rw there at c.in_ok-take_row.ensures
