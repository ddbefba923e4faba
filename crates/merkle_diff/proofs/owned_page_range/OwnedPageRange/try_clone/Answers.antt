use Rattle.std.proofs.Common.{subst, nat_eq}
use Rattle.std.proofs.lemmas.Cmp.{nat_list_eq_equiv}
use Rattle.std.proofs.lemmas.Result.{IfOk-weaker}
use Rattle.std.specs.Cmp.Lexicographic.{pointwise}
use Rattle.merkle_diff.specs.SameEntries.{SameEntry}
use Rattle.merkle_diff.proofs.EqualEntries.{entries_equal}
use Rattle.merkle_diff.proofs.owned_page_range.OwnedPageRange.try_clone.Goals as goal

pub returns-clause-equal : goal.returns-clause-equal
returns-clause-equal g c =
    IfOk-weaker c.from_range.result _ _
    (λ copy h. entries_equal g.K.Ord.cmp g.met.K.Ord.total g.K.PartialEq.eq g.met.K.Ord.matches_eq (pointwise nat_eq) nat_list_eq_equiv.refl c.args.self.now copy
    (subst (λ e. SameEntry g.K.Ord.cmp e copy) c.as_page_range.ensures h))
    c.from_range.ensures.same
