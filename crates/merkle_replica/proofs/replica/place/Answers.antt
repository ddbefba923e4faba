use Rattle.std.proofs.Common.{rules}
use Rattle.std.proofs.lemmas.Fn.{always_returns_same}
use Rattle.key_order.proofs.Places.{searched}
use Rattle.merkle_replica.proofs.replica.place.Goals as goal

-- the closure compares a row's key with the key
pub returns : goal.returns
returns g c =
    let facts = c.binary_search_by.ensures in
    searched g.K.Ord.cmp g.met.K.Ord.total c.args.rows.now c.args.key.now c.binary_search_by.result c.requires facts.bound
    (facts.position (λ row. g.K.Ord.cmp row.0 c.args.key.now) (always_returns_same _ _ _ (λ a r f called. (search rules, search rules))))
