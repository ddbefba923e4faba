use Rattle.mst_commands.proofs.ShownLemmas.{no_text_line}
use Rattle.mst_commands.proofs.values.no_text_begins_as_bytes.Goals as goal

pub returns : goal.returns
returns c text bytes e = no_text_line text _ e
