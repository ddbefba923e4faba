use Rattle.std.proofs.Common.{◌∙◌, ◌++◌, map, ap, inl, refl, subst}
use Rattle.std.specs.List.{flat_map}
use Rattle.merkle_diff.specs.Entry.{span_of}
use Rattle.merkle_diff.specs.PageRange.{entry}
use Rattle.mst_pair.specs.Devices.{WritesBytes}
use Rattle.mst_pair.specs.Pages.{ranges_of_rows, HasDefaults}
use Rattle.mst_pair.specs.Replies.{range_text, ranges_text, end_line}
use Rattle.mst_pair.proofs.Replies.{lines_as_twice}
use Rattle.mst_pair.proofs.page_reply.write_pages.Goals as goal

-- src/text_replica.rt:37:1
pub returns-in-Ok-Some-clause-bytes : goal.returns-in-Ok-Some-clause-bytes
returns-in-Ok-Some-clause-bytes g c = λ format d.
    let e = c.hash.ensures.tree in
    let kept : HasDefaults format c.hash.new.self = (ap (λ t. t.hasher) e ∙ d.0, ap (λ t. t.base) e ∙ d.1, ap (λ t. t.format) e ∙ d.2) in
    let items = c.in-Ok-Some.ranges.items in
    let lines = ap (λ rs. flat_map (λ r. range_text (span_of (entry r))) rs ++ end_line) c.deref.ensures.value ∙ ap (λ t. t ++ end_line) (lines_as_twice range_text span_of entry items) in
    let tree = ap (λ es. ranges_text (map span_of es)) (rw (c.in-Ok-Some.field-0-is, c.tree.ensures.tree) at c.in-Ok-Some.ensures.ranges) in
    let rows = c.shows_its_rows.ensures.ranges format kept ∙ ap (λ rs. ranges_text (map span_of (ranges_of_rows format rs))) c.hash.ensures.rows in
    (ranges_text (map span_of (ranges_of_rows format c.args.replica.now.rows)), inl refl, subst (WritesBytes _ _ _) (lines ∙ tree ∙ rows) c.write_list.ensures.bytes)
