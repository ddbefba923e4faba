use Rattle.std.proofs.Common.{◌≡◌}
use Rattle.merkle_bytes.proofs.Listed.{IsReading}
use Rattle.merkle_bytes.proofs.runs.decode_run.Given as goal

-- the first entries are read
abbrev pub invariant-entries : goal.invariant-entries
invariant-entries g l =
    IsReading g.T.DecodeInRun.is_entry g.T.EncodeInRun.bytes_behind g.T.EncodeInRun.last_key l.fn.run l.fn.reader.left.now l.count l._done l.list.items l.run l.reader.left.now
    × (l.reader.total ≡ l.fn.reader.total)
