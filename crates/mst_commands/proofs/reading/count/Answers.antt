use Rattle.std.proofs.Common.{[], ◌∷◌, ◌++◌, decimal, ap, subst, ◌∙◌}
use Rattle.std.specs.Io.KnownBytes.{Appends}
use Rattle.store_file.proofs.Outcomes.{on_ok}
use Rattle.mst_commands.proofs.reading.count.Goals as goal

pub returns-clause-written : goal.returns-clause-written
returns-clause-written g c clean =
    let (rows, latest, numbers) = c.in_ok-summary.ensures.numbers clean in
    let text = c.as_bytes.ensures.value ∙ c.in_ok-text.ensures.ok ∙ ap decimal numbers.keys in
    on_ok c.write_ended.result _ _ (λ wrote. (rows, latest, subst (λ bytes. Appends (g.W.Write.contents c.args.out.now) (g.W.Write.contents c.write_ended.new.out) (bytes ++ 10 ∷ [])) text wrote))
    c.write_ended.ensures.bytes
