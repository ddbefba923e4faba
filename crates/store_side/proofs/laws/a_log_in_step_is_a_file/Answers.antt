use Rattle.store_side.proofs.Standing.{stands_as_file}
use Rattle.store_side.proofs.laws.a_log_in_step_is_a_file.Goals as goal

pub returns : goal.returns
returns g c hash_key trees log stands = stands_as_file g.S.Store g.met.S.Store.broken_if_shut hash_key trees log stands
