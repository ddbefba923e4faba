use Rattle.std.proofs.Common.{subst, ap, length, ◌∙◌, sym}
use Rattle.std.proofs.lemmas.List.{take_all}
use Rattle.std.proofs.lemmas.List.Elements.{All-more}
use Rattle.std.specs.List.{All}
use Rattle.merkle_diff.proofs.Each.{each-mapped, each-of_All}
use Rattle.merkle_diff.specs.PageRange.{entry}
use Rattle.examples.specs.Wire.{page_range_bytes, IsNameRange}
use Rattle.examples.proofs.Told.{list-map}
use Rattle.examples.proofs.lists.write_page_ranges.Goals as goal

pub digests-preserved : goal.digests-preserved
digests-preserved c =
    let range = c.range-item.result in
    let long = sym (ap length (c.as_bytes.ensures ∙ c.hash.ensures)) ∙ c.digest_len.ensures in
    All-more (λ r. IsNameRange (entry r)) c.args.ranges.now c.digests.range-index range c.digests-test.true c.digests.invariant
    (subst (λ r. IsNameRange (entry r)) c.range-item.is (tt, tt, range.ordered, long))

pub returns-clause-bytes : goal.returns-clause-bytes
returns-clause-bytes c = c.in_ok-bytes.ensures ∙ list-map page_range_bytes (λ r. entry r) c.args.ranges.now

pub returns-clause-each : goal.returns-clause-each
returns-clause-each c =
    let all = subst (All (λ r. IsNameRange (entry r))) (take_all c.digests.range-index c.args.ranges.now c.digests-test.false) c.digests.invariant in
    each-mapped (λ r. entry r) IsNameRange c.args.ranges.now (each-of_All (λ r. IsNameRange (entry r)) c.args.ranges.now all)
