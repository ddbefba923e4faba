use Rattle.std.proofs.Common.{◌≡◌, drop}
use Rattle.test_keys.specs.LevelBytes.{level_at}
use Rattle.test_keys.proofs.level_hasher.level_of.Given as goal

abbrev pub invariant-levels : goal.invariant-levels
invariant-levels g l = level_at g.K.PartialEq.eq l.levels l.key ≡ level_at g.K.PartialEq.eq (drop l.i l.levels) l.key
