use Rattle.std.proofs.Common.{sym}
use Rattle.store_file.proofs.Outcomes.{if_ok}
use Rattle.store_side.proofs.tree_side.FileTreeKeptSideDIGEST_LENStringRegisterSipHasherUnit.count.Goals as goal

pub returns-clause-count : goal.returns-clause-count
returns-clause-count g c =
    rw (sym c.self.view_is) (λ clean. if_ok c.find_count.result _ _ (λ count told. told c.self.inside.noted.rows c.self.invariant) (c.find_count.ensures.count clean))
