use Rattle.std.proofs.Common.{codes, arith}
use Rattle.csv.specs.Records.{fields_of}
use Rattle.mst_commands.proofs.CsvLemmas.{five_fields}
use Rattle.mst_commands.proofs.records.expect_log_header.Goals as goal

pub returns-clause-same : goal.returns-clause-same
returns-clause-same c =
    five_fields (fields_of c.args.row.now) (codes "key") (codes "time") (codes "writer") (codes "change") (codes "value") (omega arith)
    c.in_ok-expect_name.ensures.same c.in_ok-expect_name-2.ensures.same c.in_ok-expect_name-3.ensures.same c.in_ok-expect_name-4.ensures.same c.in_ok-expect_name-5.ensures.same
