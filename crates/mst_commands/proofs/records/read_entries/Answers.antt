use Rattle.mst_commands.proofs.MalformedLemmas.{refused-as}
use Rattle.mst_commands.proofs.records.read_entries.Goals as goal

pub returns-clause-refused : goal.returns-clause-refused
returns-clause-refused g c =
    refused-as c.args.is_log (g.R.Read.remaining c.args.from) c.in_ok-text.text.items c.parse_entries.result c.in_ok-text.ensures.all
    (rw c.as_slice.ensures.value at c.parse_entries.ensures.refused)
