use Rattle.std.proofs.Common.{rules}
use Rattle.std.specs.String.{string_cmp_total}
use Rattle.key_order.specs.Text.{text_order}
use Rattle.key_order.proofs.Clones.{string_clone}
use Rattle.key_order.proofs.Latest.{set_each-more}
use Rattle.merkle_digest.specs.SipDigests.{number_digest}
use Rattle.merkle_digest.specs.SipHash.{zero_key}
use Rattle.merkle_search_tree.proofs.LoadOrder.{digests-more, item-more}
use Rattle.examples.proofs.EqualSets.{same_set}
use Rattle.examples.proofs.order.upsert_all.Goals as goal

pub rows-preserved : goal.rows-preserved
rows-preserved c =
    let row = c.row-item.result in
    let more = item-more c.args.rows.now c.rows.row-index row c.rows-test.true c.row-item.is in
    record {
      map = rw (more, digests-more (number_digest zero_key) _ row.0 row.1, set_each-more, c.in_ok-upsert.ensures.set, c.rows.invariant.settings.0)
          (same_set text_order string_cmp_total _ _ _ _ _ (string_clone row.0 c.in_ok-clone.field-0 c.in_ok-clone.ensures.cases) c.rows.invariant.map);
      settings = search rules;
    }
