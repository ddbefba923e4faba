use Rattle.std.proofs.Common.{◌≡◌, ◌+◌, ◌*◌, ◌^◌, ◌≤◌, length, take}
use Rattle.std.specs.List.{concat}
use Rattle.examples.proofs.deltas.most_told.Given as goal

-- the reply and the first chunks are counted, each of fewer than 2^64 bytes
abbrev pub invariant-chunks : goal.invariant-chunks
invariant-chunks l = record {
  counted : l.most ≡ length l.reply + length (concat (take l.at l.own));
  small : l.most ≤ (l.at + 1) * 2 ^ 64;
}
