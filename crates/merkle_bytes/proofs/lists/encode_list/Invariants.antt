use Rattle.std.proofs.Common.{◌≡◌, ◌++◌, length, take}
use Rattle.std.specs.List.{flat_map}
use Rattle.merkle_bytes.specs.Counts.{count_bytes}
use Rattle.merkle_bytes.proofs.lists.encode_list.Given as goal

-- the first entries are written
abbrev pub invariant-entries : goal.invariant-entries
invariant-entries g l = l.bytes.items ≡ (l.fn.bytes.items ++ count_bytes (length l.list)) ++ flat_map g.T.Encode.encoding (take l.entry-index l.list)
