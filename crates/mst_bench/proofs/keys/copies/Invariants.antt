use Rattle.std.proofs.Common.{◌≡◌, take, map}
use Rattle.std.specs.Prelude.{string_bytes}
use Rattle.mst_bench.proofs.keys.copies.Given as goal

abbrev pub invariant-copying : goal.invariant-copying
invariant-copying l = map string_bytes l.copies.items ≡ map string_bytes (take l.key-index l.keys)
