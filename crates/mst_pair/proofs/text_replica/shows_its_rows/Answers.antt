use Rattle.std.proofs.Common.{ap, ◌∙◌, map, string_bytes}
use Rattle.merkle_diff.specs.Entry.{span_of}
use Rattle.merkle_tree_theory.specs.Ranges.{ranges_of}
use Rattle.mst_pair.specs.Pages.{tree, digest_of_rows, ranges_of_rows}
use Rattle.mst_pair.specs.Replies.{ranges_text}
use Rattle.mst_pair.proofs.Pages.{pages_are, ranges_are}
use Rattle.mst_pair.proofs.text_replica.shows_its_rows.Goals as goal

pub returns-clause-root : goal.returns-clause-root
returns-clause-root c = λ format d.
    let r = c.args.replica.now in
    c.equal_pages_have_equal_maps.ensures.digests r.tree.format r.tree.root (tree r.rows)
    (pages_are c.a_map_has_one_tree.ensures.only format r d (rw c.tree.ensures.tree at c.every_tree_is_sound.ensures.sound) c.tree.ensures.digests)
    ∙ ap (λ f. digest_of_rows f r.rows) d.2

pub returns-clause-ranges : goal.returns-clause-ranges
returns-clause-ranges c = λ format d.
    let r = c.args.replica.now in
    ranges_are r.tree.format r.rows (ranges_of r.tree.format string_bytes r.tree.root)
    (c.equal_pages_have_equal_maps.ensures.ranges r.tree.format r.tree.root (tree r.rows)
    (pages_are c.a_map_has_one_tree.ensures.only format r d (rw c.tree.ensures.tree at c.every_tree_is_sound.ensures.sound) c.tree.ensures.digests))
    ∙ ap (λ f. ranges_text (map span_of (ranges_of_rows f r.rows))) d.2
