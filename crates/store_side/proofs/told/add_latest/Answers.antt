use Rattle.std.proofs.Common.{rules}
use Rattle.store_side.proofs.Answering.{value_told}
use Rattle.store_side.proofs.told.add_latest.Goals as goal

pub returns-clause-value : goal.returns-clause-value
returns-clause-value g c clean rows was =
    value_told rows c.args.key.now c.args.bytes.now c.encode.new.bytes c.in_ok-register.field-0 c.in-Some.register (search rules) (c.in_ok-register.ensures.latest clean rows was)
    c.in_ok-encode.ensures
