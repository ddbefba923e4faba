use Rattle.std.proofs.Common.{◌++◌, length, take, ap, ◌∙◌}
use Rattle.std.proofs.lemmas.List.{map-append}
use Rattle.merkle_bytes.specs.Counts.{count_bytes}
use Rattle.merkle_bytes.specs.Keys.{key_behind}
use Rattle.merkle_wire.specs.Outlines.{keys_among, node_pairs}
use Rattle.merkle_bytes.proofs.Listed.{written_next}
use Rattle.merkle_wire.proofs.ItemsMore.{map_more}
use Rattle.merkle_wire.proofs.nodes.encode_keys.Goals as goal

pub nodes-preserved : goal.nodes-preserved
nodes-preserved g c =
    let encoding = g.K.Encode.encoding in
    let i = c.nodes.node-index in
    let nodes = c.args.nodes.now in
    let x = c.node-item.result in
    let more = ap keys_among (map_more (λ n. (n.0.now, n.1.now)) nodes i x c.nodes-test.true c.node-item.is) ∙ map-append _ (node_pairs (take i nodes)) _ in
    written_next (λ last k. key_behind last (encoding k)) (λ last k. encoding k) c.args.run.now c.nodes.run c.encode.new.self
    (keys_among (node_pairs (take i nodes))) _ x.0.now (c.args.bytes.now.items ++ count_bytes (length nodes))
    c.nodes.bytes.items c.encode.new.bytes.items more c.nodes.invariant.0 c.nodes.invariant.1 c.in_ok-encode.ensures.written c.in_ok-encode.ensures.last
