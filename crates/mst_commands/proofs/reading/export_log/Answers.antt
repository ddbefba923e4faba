use Rattle.std.proofs.Common.{subst}
use Rattle.std.specs.Io.KnownBytes.{Appends}
use Rattle.mst_commands.specs.Records.{log_text}
use Rattle.mst_commands.proofs.reading.export_log.Goals as goal

pub returns-clause-written : goal.returns-clause-written
returns-clause-written g c clean = (
  c.in_ok-entries.field-0.entries.items,
  c.in_ok-entries.ensures.sifted clean,
  subst (λ es. Appends (g.W.Write.contents c.args.out) (g.W.Write.contents c.in_ok-out.out) (log_text es)) c.deref.ensures.value c.in_ok-out.ensures.written,
)

pub returns-clause-whole : goal.returns-clause-whole
returns-clause-whole g c clean none = (
  c.in_ok-entries.field-0.entries.items,
  c.in_ok-entries.ensures.whole clean none,
  subst (λ es. Appends (g.W.Write.contents c.args.out) (g.W.Write.contents c.in_ok-out.out) (log_text es)) c.deref.ensures.value c.in_ok-out.ensures.written,
)
