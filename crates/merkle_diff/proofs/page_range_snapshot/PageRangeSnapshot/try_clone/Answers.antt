use Rattle.std.proofs.Common.{subst, rules, nat_eq}
use Rattle.std.specs.Cmp.Lexicographic.{pointwise}
use Rattle.std.proofs.lemmas.Cmp.{nat_list_eq_equiv}
use Rattle.std.proofs.lemmas.Result.{IfOk-weaker}
use Rattle.merkle_diff.specs.SameEntries.{SameEntries}
use Rattle.merkle_diff.proofs.EqualEntries.{lists_equal}
use Rattle.merkle_diff.proofs.Snapshots.{given-by_snapshot}
use Rattle.merkle_diff.proofs.page_range_snapshot.PageRangeSnapshot.try_clone.Goals as goal

pub returns-clause-same : goal.returns-clause-same
returns-clause-same g c =
    IfOk-weaker c.collect_ranges.result _ _
    (λ copy h. subst (λ xs. SameEntries g.K.Ord.cmp xs copy) (given-by_snapshot c.args.self.now _ h.0 (search rules) h.1) h.2)
    c.collect_ranges.ensures

pub returns-clause-equal : goal.returns-clause-equal
returns-clause-equal g c =
    IfOk-weaker c.collect_ranges.result _ _
    (λ copy h. lists_equal g.K.Ord.cmp g.met.K.Ord.total g.K.PartialEq.eq g.met.K.Ord.matches_eq (pointwise nat_eq) nat_list_eq_equiv.refl c.args.self.now copy h)
    (returns-clause-same g c)
