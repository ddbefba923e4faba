use Rattle.std.proofs.Common.{◌++◌, length, take}
use Rattle.merkle_bytes.specs.Counts.{count_bytes}
use Rattle.merkle_bytes.proofs.Listed.{written_more}
use Rattle.merkle_bytes.proofs.runs.encode_run.Goals as goal

pub entries-preserved : goal.entries-preserved
entries-preserved g c =
    let bytes = g.T.EncodeInRun.bytes_behind in
    let next = g.T.EncodeInRun.last_key in
    written_more bytes next c.args.run.now c.entries.run c.encode_behind.new.run c.args.list.now c.entries.entry-index c.entry-item.result
    (c.args.bytes.now.items ++ count_bytes (length c.args.list.now))
    c.entries.bytes.items c.encode_behind.new.bytes.items c.entries-test.true c.entry-item.is c.entries.invariant.0 c.entries.invariant.1
    c.in_ok-encode_behind.ensures.written c.in_ok-encode_behind.ensures.last
