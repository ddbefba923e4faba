use Rattle.std.proofs.Common.{◌≡◌, Bool, true, false, ◌++◌, sym, ap, ◌∙◌}
use Rattle.c_trees.specs.Spots.{list_mark}
use Rattle.c_values.specs.Lists.{number_bytes}
use Rattle.c_trees.proofs.entries.front_of.Goals as goal

pub returns-in_err-count-in-None-clause-none : goal.returns-in_err-count-in-None-clause-none
returns-in_err-count-in-None-clause-none c none digests count body is = neither digests is
  where
    neither : (b : Bool) → c.args.list.now ≡ list_mark c.args.rows b ++ (number_bytes count ++ body) → ⊥
    neither true e = c.body_of.ensures.none c.in-None.is count body (e ∙ ap (λ m. m ++ (number_bytes count ++ body)) (sym c.mark.ensures))
    neither false e = c.body_of-in-None.ensures.none c.in_err-count-in-None.was count body (e ∙ ap (λ m. m ++ (number_bytes count ++ body)) (sym c.mark-in-None.ensures))
