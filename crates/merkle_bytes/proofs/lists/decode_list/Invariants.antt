use Rattle.std.proofs.Common.{◌≡◌}
use Rattle.merkle_bytes.proofs.Listed.{IsReading, alone, stays}
use Rattle.merkle_bytes.proofs.lists.decode_list.Given as goal

-- the first entries are read
abbrev pub invariant-entries : goal.invariant-entries
invariant-entries g l =
    IsReading g.T.Decode.is_value (alone g.T.Encode.encoding) stays tt l.fn.reader.left.now l.count l._done l.list.items tt l.reader.left.now × (l.reader.total ≡ l.fn.reader.total)
