-- What the errors of replicas say.
use Rattle.std.specs.Prelude.{ℕ, List, ◌++◌, length, codes}
use Rattle.std.specs.Fmt.{decimal}
use Rattle.merkle_replica.specs.declared.pull.PullError.{PullError}
use Rattle.merkle_replica.specs.declared.pull.PullError.TheVariants.{Memory, Partly}
use Rattle.merkle_replica.specs.declared.turns.TurnsError.{TurnsError}
use Rattle.merkle_replica.specs.declared.steps.JoinRefused.{JoinRefused}
use Rattle.merkle_replica.specs.declared.steps.JoinRefused.TheVariants.{NotAscending, Memory}
use Rattle.merkle_replica.specs.declared.catch_up.CatchUpError.{CatchUpError}
use Rattle.merkle_replica.specs.declared.catch_up.CatchUpError.TheVariants.{Memory, Partly}
use Rattle.merkle_replica.specs.declared.both_ways.CatchUpsError.{CatchUpsError}
use Rattle.merkle_replica.specs.declared.both_ways.CatchUpsError.TheVariants.{First, Second}
use Rattle.merkle_replica.specs.declared.gossip.CatchUpAllError.{CatchUpAllError}
use Rattle.merkle_replica.specs.declared.gossip.CatchUpAllError.TheVariants.{Gathering, Spreading}

-- memory ran out after this many rows
abbrev pub cut_text : ℕ → List ℕ
cut_text done = codes "memory was refused after " ++ decimal done ++ codes " rows"

-- a pull that was refused
abbrev pub pull_text : {K : Type 0} → PullError K → List ℕ
pull_text Memory = codes "memory was refused before a row was joined"
pull_text (Partly pulled done) = codes "memory was refused after " ++ decimal done ++ codes " of " ++ decimal pulled.joined ++ codes " rows"

-- pulls by turns that were refused
abbrev pub turns_text : {K : Type 0} → TurnsError K → List ℕ
turns_text error = codes "after " ++ decimal (length error.finished.items) ++ codes " pulls " ++ pull_text error.fault

-- rows that were not all joined
abbrev pub join_text : {K V : Type 0} → JoinRefused K V → List ℕ
join_text (NotAscending rows) = codes "a key isn't above the one before it, and no row was joined"
join_text (Memory done) = cut_text done

-- a catch-up that was refused
abbrev pub catch_up_text : CatchUpError → List ℕ
catch_up_text Memory = codes "memory was refused before a row was joined"
catch_up_text (Partly done lacked) = codes "memory was refused after " ++ decimal done ++ codes " of " ++ decimal lacked ++ codes " rows"

-- catch-ups in both directions that were refused
abbrev pub catch_ups_text : CatchUpsError → List ℕ
catch_ups_text (First fault) = codes "in the first catch-up " ++ catch_up_text fault
catch_ups_text (Second first fault) = codes "in the second catch-up " ++ catch_up_text fault

-- catch-ups among many that were refused
abbrev pub catch_up_all_text : CatchUpAllError → List ℕ
catch_up_all_text (Gathering done fault) = codes "after " ++ decimal done ++ codes " catch-ups by the hub " ++ catch_up_text fault
catch_up_all_text (Spreading done fault) = codes "after " ++ decimal done ++ codes " catch-ups with the hub " ++ catch_up_text fault
