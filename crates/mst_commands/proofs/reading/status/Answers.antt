use Rattle.std.proofs.Common.{ℕ, ap, subst, ◌∙◌}
use Rattle.std.specs.Io.KnownBytes.{Appends}
use Rattle.mst_commands.specs.Reads.{status_as}
use Rattle.mst_commands.proofs.reading.status.Goals as goal

pub returns-clause-written : goal.returns-clause-written
returns-clause-written g c clean =
    let summary = c.in_ok-summary.summary in
    let many = c.in_ok-summary.ensures.rows clean in
    let text = c.as_bytes.ensures.value ∙ c.in_ok-text.ensures.text ∙ ap (λ (n : ℕ). status_as c.args.json summary n c.args.name.now) many in (
      summary,
      c.in_ok-summary.ensures.numbers clean,
      subst (Appends (g.W.Write.contents c.args.out.now) (g.W.Write.contents c.write_all.new.self)) text c.in_ok-write_all.ensures.bytes,
    )
