use Rattle.std.proofs.Common.{[], sym, subst, refl, arith}
use Rattle.store_tree.specs.Cells.{HoldsCells}
use Rattle.store_rows.specs.Digests.{key_level}
use Rattle.store_rows.proofs.Stepping.{begun, key_low}
use Rattle.store_rows.proofs.laws.no_entries_and_no_cells_are_in_step.Goals as goal

pub returns : goal.returns
returns c hash_key trees entries cells =
    begun hash_key trees entries (subst (HoldsCells (key_level hash_key) []) (sym cells) (record {
      low = key_low hash_key;
      ascending = tt;
      top = 0;
      under = tt;
      levels = λ level high upto. absurd (omega (arith, high, upto));
      others = λ level other. refl;
    }))
