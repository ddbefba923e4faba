use Rattle.std.proofs.Common.{◌≡◌, ◌++◌, length, take}
use Rattle.merkle_bytes.specs.Counts.{count_bytes}
use Rattle.merkle_bytes.specs.Runs.{entries_bytes, state_behind}
use Rattle.merkle_bytes.proofs.runs.encode_run.Given as goal

-- the first entries are written
abbrev pub invariant-entries : goal.invariant-entries
invariant-entries g l =
    let bytes = g.T.EncodeInRun.bytes_behind in
    let next = g.T.EncodeInRun.last_key in
    (l.bytes.items ≡ (l.fn.bytes.items ++ count_bytes (length l.list)) ++ entries_bytes bytes next l.fn.run (take l.entry-index l.list))
    × (l.run ≡ state_behind bytes next l.fn.run (take l.entry-index l.list))
