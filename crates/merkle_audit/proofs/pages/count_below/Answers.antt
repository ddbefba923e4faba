use Rattle.std.proofs.Common.{◌≡◌, Some, true, false, rules}
use Rattle.std.proofs.lemmas.List.Sorted.{IsPartitionPoint-from_clause}
use Rattle.key_order.specs.Order.{Below, Upto, below}
use Rattle.merkle_wire.proofs.InGaps.{falls_before, taken_each, left_each}
use Rattle.merkle_audit.proofs.RowsBySpan.{not_below}
use Rattle.merkle_audit.proofs.pages.count_below.Goals as goal

pub returns : goal.returns
returns g c =
    let cmp = g.K.Ord.cmp in
    let bound = c.args.bound.now in
    let rows = c.args.rows.now in
    let count = c.partition_point.result in
    let parted = IsPartitionPoint-from_clause (λ row. below cmp row.0 bound) rows count c.partition_point.ensures.partitioned
    (falls_before cmp g.met.K.Ord.total (Some bound) rows c.requires) (λ a r f called. (search rules, search rules)) in
    record {
      inside = c.partition_point.ensures.bound;
      below = taken_each (λ row. below cmp row.0 bound ≡ true) (λ row. Below cmp row.0 bound) (λ row p. p) rows count c.partition_point.ensures.bound parted.0;
      behind = left_each (λ row. below cmp row.0 bound ≡ false) (λ row. Upto cmp bound row.0) (λ row. not_below cmp g.met.K.Ord.total row.0 bound) rows count parted.1;
    }
