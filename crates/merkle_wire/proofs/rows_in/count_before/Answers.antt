use Rattle.std.proofs.Common.{◌≡◌, true, false, rules}
use Rattle.std.proofs.lemmas.List.Sorted.{IsPartitionPoint-from_clause}
use Rattle.merkle_tree_theory.specs.Gap.{is_before}
use Rattle.merkle_wire.proofs.InGaps.{falls_before, taken_each, left_each}
use Rattle.merkle_wire.proofs.rows_in.count_before.Goals as goal

pub returns-clause-before : goal.returns-clause-before
returns-clause-before g c =
    let before = is_before g.K.Ord.cmp c.args.bound.now in
    let rows = c.args.rows.now in
    let parted = IsPartitionPoint-from_clause (λ row. before row.0) rows c.partition_point.result c.partition_point.ensures.partitioned
    (falls_before g.K.Ord.cmp g.met.K.Ord.total c.args.bound.now rows c.requires) (λ a r f called. (search rules, search rules)) in
    taken_each (λ row. before row.0 ≡ true) (λ row. before row.0 ≡ true) (λ row p. p) rows c.partition_point.result c.partition_point.ensures.bound parted.0

pub returns-clause-behind : goal.returns-clause-behind
returns-clause-behind g c =
    let before = is_before g.K.Ord.cmp c.args.bound.now in
    let rows = c.args.rows.now in
    let parted = IsPartitionPoint-from_clause (λ row. before row.0) rows c.partition_point.result c.partition_point.ensures.partitioned
    (falls_before g.K.Ord.cmp g.met.K.Ord.total c.args.bound.now rows c.requires) (λ a r f called. (search rules, search rules)) in
    left_each (λ row. before row.0 ≡ false) (λ row. before row.0 ≡ false) (λ row p. p) rows c.partition_point.result parted.1
