use Rattle.std.proofs.Common.{◌+◌, take, ap, sym, subst, ◌∙◌}
use Rattle.std.proofs.lemmas.List.{map-append}
use Rattle.merkle_wire.specs.Outlines.{keys_among, node_pairs}
use Rattle.merkle_wire.proofs.FoundRows.{AreFound, found_more}
use Rattle.merkle_wire.proofs.ItemsMore.{map_more}
use Rattle.merkle_wire.proofs.nodes.rows_of.Goals as goal

pub nodes-preserved : goal.nodes-preserved
nodes-preserved g c =
    let cmp = g.K.Ord.cmp in
    let i = c.nodes.node-index in
    let nodes = c.args.nodes.now in
    let x = c.node-item.result in
    let rows = g.R.KeptRows.rows c.args.rows.now in
    let more = ap keys_among (map_more (λ n. (n.0.now, n.1.now)) nodes i x c.nodes-test.true c.node-item.is) ∙ map-append _ (node_pairs (take i nodes)) _ in
    subst (λ ks. AreFound cmp g.K.Encode.encoding g.V.Encode.encoding rows c.args.run.now ks (i + 1) c.add_row.new.told c.add_row.new.run) (sym more)
    (found_more cmp g.K.Encode.encoding g.V.Encode.encoding rows c.args.run.now g.met.K.Ord.total (keys_among (node_pairs (take i nodes))) x.0.now i
    c.nodes.told c.add_row.new.told c.nodes.run c.add_row.new.run c.nodes.invariant c.in_ok-add_row.ensures)
