use Rattle.std.proofs.Common.{◌∙◌}
use Rattle.examples.proofs.store.open_and_put.Goals as goal

-- the settings are the default ones
pub returns-clause-root_hash : goal.returns-clause-root_hash
returns-clause-root_hash c =
    let d = c.in_ok-store.ensures.defaults in
    let s = c.in_ok-put.ensures.settings in
    rw c.root_hash.ensures.rows (rw (s.0 ∙ d.0, s.1 ∙ d.1, s.2 ∙ d.2) at c.in_ok-digest.ensures.digest)
