use Rattle.std.proofs.Common.{◌≢◌, ◌∙◌}
use Rattle.csv.specs.Writing.{writer_setup}
use Rattle.csv.specs.declared.writer.QuoteStyle.TheVariants as style
use Rattle.mst_commands.proofs.records.write_pair.Goals as goal

pub returns-in-Ok-clause-written : goal.returns-in-Ok-clause-written
returns-in-Ok-clause-written g c before =
    let plain : (writer_setup c.args.writer.now).style ≢ style.NonNumeric = rw before.setup (λ e. cc e) in
    let wrote = c.in-Ok.ensures.bytes before.fields before.wrote plain in (
      record { setup = c.in-Ok.ensures.setup ∙ before.setup; fields = c.in-Ok.ensures.ended; wrote = c.in-Ok.ensures.clean },
      rw (before.setup, c.as_bytes.ensures.value) at wrote,
    )
