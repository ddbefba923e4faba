use Rattle.std.proofs.Common.{◌≡◌, ◌*◌, min, take, true}
use Rattle.std.specs.List.{list_all}
use Rattle.std.specs.Prelude.{◌==◌}
use Rattle.merkle_digest.proofs.levels.level_of_bytes.Given as goal

-- every byte so far is zero, and counts for two
abbrev pub invariant-zeros : goal.invariant-zeros
invariant-zeros l = record {
  all_zero : list_all (λ byte. byte == 0) (take l.byte-index l.bytes) ≡ true;
  counted : l.level ≡ min 255 (2 * l.byte-index);
}
