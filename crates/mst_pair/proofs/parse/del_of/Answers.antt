use Rattle.std.proofs.Common.{◌∙◌, ◌++◌, ◌∷◌, ap, codes, refl}
use Rattle.mst_pair.specs.Requests.{space}
use Rattle.mst_pair.proofs.Fields.{bad_name, bad_key}
use Rattle.mst_pair.proofs.parse.del_of.Goals as goal

-- the first field names no replica
pub returns-in_err-name-2 : goal.returns-in_err-name-2
returns-in_err-name-2 c = rw c.from_residual-in_err-name-2.ensures
    (bad_name (codes "del") c.in_ok-name.name.now c.in_ok-name.rest.now c.args.arguments.now refl c.in_ok-name.ensures.0 c.in_ok-name.ensures.1 c.in_err-name-2.ensures)

-- what follows it is no key
pub returns-in_err-key : goal.returns-in_err-key
returns-in_err-key c = rw c.from_residual-in_err-key.ensures
    (bad_key c.in_ok-name-2.name c.in_ok-name.rest.now c.args.arguments.now
    (c.in_ok-name.ensures.1 ∙ ap (λ n. n ++ space ∷ c.in_ok-name.rest.now) c.in_ok-name-2.ensures) c.in_err-key.ensures)
