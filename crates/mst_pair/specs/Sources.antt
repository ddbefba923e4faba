-- What a source over a reader tells of a read.
use Rattle.std.specs.Prelude.{◌≡◌, ◌+◌, ◌<◌, ℕ, true, false, ◌⊎◌}
use Rattle.mst_pair.specs.Devices.{reader_inside}
use Rattle.mst_pair.specs.declared.source.FromRead.{FromRead}
use Rattle.mst_pair.specs.declared.source.Source.{Ghosts}

module _ {R : Type 0} (source : Ghosts (FromRead R)) where
  -- the source had failed before, or had no read left, or its reader may fail in the call
  abbrev pub FailedOrSpent : (R → R → Type 0) → FromRead R → FromRead R → Type 0
  FailedOrSpent may_fail old new =
      (source.has_failed old ≡ true) ⊎ (source.reads_left old ≡ 0) ⊎ may_fail (reader_inside old) (reader_inside new)

  -- the call takes one of the reads, but where the source had failed or had none left
  abbrev pub TakesRead : FromRead R → FromRead R → Type 0
  TakesRead old new = source.has_failed old ≡ false → 0 < source.reads_left old → source.reads_left old ≡ source.reads_left new + 1

  -- a call that gives n bytes, where these are some, leaves fewer reads
  abbrev pub LeavesFewerReads : FromRead R → FromRead R → ℕ → Type 0
  LeavesFewerReads old new n = 0 < n → source.reads_left new < source.reads_left old
