use Rattle.std.proofs.Common.{◌≡◌, ◌++◌, ◌-◌, take, drop}
use Rattle.std.specs.List.{concat}
use Rattle.merkle_delta.proofs.patch.add_chunks.Given as goal

-- the first of them are added
abbrev pub invariant-chunks : goal.invariant-chunks
invariant-chunks l = l.bytes.items ≡ l.fn.bytes.items ++ concat (take (l.at - l.from) (drop l.from l.own))
