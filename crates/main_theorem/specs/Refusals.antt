-- What a run says that was refused.
use Rattle.std.specs.Prelude.{ℕ, List, codes}
use Rattle.merkle_replica.specs.Faults.{turns_text, catch_ups_text}
use Rattle.main_theorem.specs.declared.course.RunRefused.{RunRefused}
use Rattle.main_theorem.specs.declared.course.RunRefused.TheVariants.{Before, InTurns, InCatchUps}

-- a run that was refused, before the replicas came together or as they did
abbrev pub run_text : {K : Type 0} → RunRefused K → List ℕ
run_text Before = codes "memory was refused before the exchange"
run_text (InTurns error) = turns_text error
run_text (InCatchUps error) = catch_ups_text error
