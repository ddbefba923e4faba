use Rattle.std.proofs.Common.{◌∙◌, subst}
use Rattle.std.proofs.IntoIterSteps.{All-taken}
use Rattle.std.proofs.lemmas.Result.{IfOk-weaker}
use Rattle.merkle_diff.specs.SameEntries.{SameEntries}
use Rattle.merkle_diff.specs.PageRange.{entries}
use Rattle.merkle_diff.proofs.page_range_snapshot.PageRangeSnapshot.from_ranges.Goals as goal

pub returns : goal.returns
returns g c =
    IfOk-weaker c.collect_ranges.result _ _
    (λ snapshot h. subst (λ xs. SameEntries g.K.Ord.cmp (entries xs) snapshot) (All-taken h.1.0 h.0 h.1.2 ∙ h.1.1.0) h.2)
    c.collect_ranges.ensures
