use Rattle.std.proofs.Common.{codes, arith}
use Rattle.csv.specs.Records.{fields_of}
use Rattle.mst_commands.proofs.CsvLemmas.{two_fields}
use Rattle.mst_commands.proofs.records.expect_pair_header.Goals as goal

pub returns-clause-same : goal.returns-clause-same
returns-clause-same c =
    two_fields (fields_of c.args.row.now) (codes "key") (codes "value") (omega arith) c.in_ok-expect_name.ensures.same c.in_ok-expect_name-2.ensures.same
