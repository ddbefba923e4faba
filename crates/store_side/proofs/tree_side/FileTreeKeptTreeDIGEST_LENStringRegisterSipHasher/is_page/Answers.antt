use Rattle.std.proofs.Common.{sym}
use Rattle.store_file.proofs.Outcomes.{if_ok}
use Rattle.store_side.proofs.tree_side.FileTreeKeptTreeDIGEST_LENStringRegisterSipHasher.is_page.Goals as goal

pub returns-clause-there : goal.returns-clause-there
returns-clause-there g c =
    rw (sym c.self.view_is) (λ clean. if_ok c.find_page_at.result _ _ (λ is told. told c.self.inside.noted.rows c.self.invariant) (c.find_page_at.ensures.there clean))

pub returns-clause-lacked : goal.returns-clause-lacked
returns-clause-lacked g c =
    rw (sym c.self.view_is) (λ clean. if_ok c.find_page_at.result _ _ (λ is told. told c.self.inside.noted.rows c.self.invariant) (c.find_page_at.ensures.lacked clean))
