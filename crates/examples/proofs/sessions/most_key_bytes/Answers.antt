use Rattle.std.proofs.Common.{arith}
use Rattle.examples.proofs.sessions.most_key_bytes.Goals as goal

pub returns : goal.returns
returns g c last rows few = omega (arith, c.keys_of_a_run_are_bounded.ensures.rows last rows, few)
