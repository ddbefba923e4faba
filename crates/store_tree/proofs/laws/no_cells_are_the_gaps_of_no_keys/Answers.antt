use Rattle.std.proofs.Common.{refl, arith}
use Rattle.store_tree.proofs.laws.no_cells_are_the_gaps_of_no_keys.Goals as goal

pub returns : goal.returns
returns c lev low = record {
  low = low;
  ascending = tt;
  top = 0;
  under = tt;
  levels = λ level high upto. absurd (omega (arith, high, upto));
  others = λ level other. refl;
}
