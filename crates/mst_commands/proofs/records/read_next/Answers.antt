use Rattle.csv.specs.Records.{fields_of}
use Rattle.mst_commands.proofs.CsvLemmas.{reads_one}
use Rattle.mst_commands.proofs.records.read_next.Goals as goal

pub returns-in-Ok-clause-read : goal.returns-in-Ok-clause-read
returns-in-Ok-clause-read g c =
    reads_one g.R.Read.remaining c.args.reader.now c.read_byte_record.new.self c.in-Ok.found (fields_of c.read_byte_record.new.row) c.in-Ok.ensures.reads c.in-Ok.ensures.ready
