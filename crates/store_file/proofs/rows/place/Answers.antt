use Rattle.std.proofs.Common.{rules}
use Rattle.std.proofs.lemmas.Fn.{always_returns_same}
use Rattle.std.specs.String.{string_cmp_total}
use Rattle.key_order.specs.Text.{text_order}
use Rattle.key_order.proofs.Places.{searched}
use Rattle.store_file.proofs.rows.place.Goals as goal

-- the closure compares a row's key with the key
pub returns-clause-found : goal.returns-clause-found
returns-clause-found c up =
    let facts = c.binary_search_by.ensures in
    (searched text_order string_cmp_total c.args.rows.now c.args.key.now c.binary_search_by.result up facts.bound
    (facts.position (λ row. text_order row.0 c.args.key.now) (always_returns_same _ _ _ (λ a r f called. (search rules, search rules))))).found

pub returns-clause-absent : goal.returns-clause-absent
returns-clause-absent c up =
    let facts = c.binary_search_by.ensures in
    (searched text_order string_cmp_total c.args.rows.now c.args.key.now c.binary_search_by.result up facts.bound
    (facts.position (λ row. text_order row.0 c.args.key.now) (always_returns_same _ _ _ (λ a r f called. (search rules, search rules))))).absent
