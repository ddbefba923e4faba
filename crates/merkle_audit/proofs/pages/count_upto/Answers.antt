use Rattle.std.proofs.Common.{◌≡◌, Some, not, true, false, rules}
use Rattle.std.proofs.lemmas.List.Sorted.{IsPartitionPoint-from_clause}
use Rattle.key_order.specs.Order.{Below, Upto, below}
use Rattle.merkle_wire.proofs.InGaps.{falls_behind, taken_each, left_each, not_true, not_false}
use Rattle.merkle_audit.proofs.RowsBySpan.{not_below}
use Rattle.merkle_audit.proofs.pages.count_upto.Goals as goal

pub returns : goal.returns
returns g c =
    let cmp = g.K.Ord.cmp in
    let bound = c.args.bound.now in
    let rows = c.args.rows.now in
    let count = c.partition_point.result in
    let parted = IsPartitionPoint-from_clause (λ row. not (below cmp bound row.0)) rows count c.partition_point.ensures.partitioned
    (falls_behind cmp g.met.K.Ord.total (Some bound) rows c.requires) (λ a r f called. (search rules, search rules)) in
    record {
      inside = c.partition_point.ensures.bound;
      upto = taken_each (λ row. not (below cmp bound row.0) ≡ true) (λ row. Upto cmp row.0 bound)
          (λ row p. not_below cmp g.met.K.Ord.total bound row.0 (not_true (below cmp bound row.0) p)) rows count c.partition_point.ensures.bound parted.0;
      above = left_each (λ row. not (below cmp bound row.0) ≡ false) (λ row. Below cmp bound row.0) (λ row. not_false (below cmp bound row.0)) rows count parted.1;
    }
