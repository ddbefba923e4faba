use Rattle.std.proofs.Common.{◌≡◌, ◌-◌, ◌++◌, map}
use Rattle.std.specs.Prelude.{string_bytes}
use Rattle.mst_bench.specs.Keys.{key_texts}
use Rattle.mst_bench.proofs.keys.keys.Given as goal

abbrev pub invariant-making : goal.invariant-making
invariant-making l = map string_bytes l.keys.items ++ key_texts (l.count - l.made) l.state ≡ key_texts l.count l.seed
