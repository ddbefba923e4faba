use Rattle.std.proofs.Common.{◌≡◌, not, true, false, rules}
use Rattle.std.proofs.lemmas.List.Sorted.{IsPartitionPoint-from_clause}
use Rattle.merkle_tree_theory.specs.Gap.{is_after}
use Rattle.merkle_wire.proofs.InGaps.{falls_behind, taken_each, left_each, not_true, not_false}
use Rattle.merkle_wire.proofs.rows_in.count_upto.Goals as goal

pub returns-clause-upto : goal.returns-clause-upto
returns-clause-upto g c =
    let after = is_after g.K.Ord.cmp c.args.bound.now in
    let rows = c.args.rows.now in
    let parted = IsPartitionPoint-from_clause (λ row. not (after row.0)) rows c.partition_point.result c.partition_point.ensures.partitioned
    (falls_behind g.K.Ord.cmp g.met.K.Ord.total c.args.bound.now rows c.requires) (λ a r f called. (search rules, search rules)) in
    taken_each (λ row. not (after row.0) ≡ true) (λ row. after row.0 ≡ false) (λ row. not_true (after row.0)) rows c.partition_point.result c.partition_point.ensures.bound parted.0

pub returns-clause-behind : goal.returns-clause-behind
returns-clause-behind g c =
    let after = is_after g.K.Ord.cmp c.args.bound.now in
    let rows = c.args.rows.now in
    let parted = IsPartitionPoint-from_clause (λ row. not (after row.0)) rows c.partition_point.result c.partition_point.ensures.partitioned
    (falls_behind g.K.Ord.cmp g.met.K.Ord.total c.args.bound.now rows c.requires) (λ a r f called. (search rules, search rules)) in
    left_each (λ row. not (after row.0) ≡ false) (λ row. after row.0 ≡ true) (λ row. not_false (after row.0)) rows c.partition_point.result parted.1
