use Rattle.std.proofs.Common.{◌∙◌}
use Rattle.mst_commands.proofs.CsvLemmas.{begun}
use Rattle.mst_commands.proofs.records.reader_of.Goals as goal

pub returns : goal.returns
returns g c =
    let made = c.from_reader.ensures in
    let set = c.has_headers.ensures in
    let loose = c.flexible.ensures in
    let trim = rw (loose, set) at made.trim in
    let config = rw (loose, set) at made.config in
    let named = rw (loose, set) at made.has_headers in
    begun g.R.Read.remaining (g.R.Read.remaining c.args.from) c.from_reader.result (trim ∙ c.new.ensures.trim) named made.headers (config ∙ c.new.ensures.config) made.source made.state
