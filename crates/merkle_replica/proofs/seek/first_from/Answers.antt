use Rattle.std.proofs.Common.{rules}
use Rattle.std.proofs.lemmas.Fn.{always_returns_same}
use Rattle.key_order.specs.Order.{below}
use Rattle.merkle_replica.proofs.Seeks.{falls_along, all_taken, all_left}
use Rattle.merkle_replica.proofs.seek.first_from.Goals as goal

pub returns-clause-below : goal.returns-clause-below
returns-clause-below g c =
    let cmp = g.K.Ord.cmp in
    let facts = c.partition_point.ensures in
    let key = c.args.key.now in
    all_taken (λ row. below cmp row.0 key) c.args.rows.now c.partition_point.result facts.bound
    (facts.partitioned (λ row. below cmp row.0 key) (always_returns_same _ _ _ (λ a r f called. (search rules, search rules))) (falls_along cmp g.met.K.Ord.total c.args.rows.now key c.requires)).0

pub returns-clause-rest : goal.returns-clause-rest
returns-clause-rest g c =
    let cmp = g.K.Ord.cmp in
    let facts = c.partition_point.ensures in
    let key = c.args.key.now in
    all_left cmp g.met.K.Ord.total key c.args.rows.now c.partition_point.result
    (facts.partitioned (λ row. below cmp row.0 key) (always_returns_same _ _ _ (λ a r f called. (search rules, search rules))) (falls_along cmp g.met.K.Ord.total c.args.rows.now key c.requires)).1
