use Rattle.std.proofs.Common.{None, Some, sym, ap, ◌∙◌}
use Rattle.std.specs.Option.{option_map}
use Rattle.c_values.proofs.Pairs.{found_by_bytes}
use Rattle.c_sides.proofs.byte_sync.ByteSync.find.Goals as goal

pub returns-in-None : goal.returns-in-None
returns-in-None c =
    found_by_bytes c.args.self.now.tree c.in_ok-own_key.own_key c.args.key.now None c.in_ok-own_key.ensures.items
    (ap (option_map (λ digest. digest.now)) (sym c.in-None.is) ∙ c.value_hash.ensures)

pub returns : goal.returns
returns c =
    found_by_bytes c.args.self.now.tree c.in_ok-own_key.own_key c.args.key.now (Some c.as_bytes.result.now) c.in_ok-own_key.ensures.items
    (ap Some c.as_bytes.ensures ∙ ap (option_map (λ digest. digest.now)) (sym c.in-Some.is) ∙ c.value_hash.ensures)
