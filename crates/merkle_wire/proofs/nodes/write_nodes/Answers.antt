use Rattle.std.proofs.Common.{◌++◌, ◌∷◌, refl, ap, ap₂, ◌∙◌}
use Rattle.merkle_bytes.specs.Counts.{count_bytes}
use Rattle.merkle_wire.specs.Outlines.{rows_told, digests_told, nodes_bytes, node_pairs}
use Rattle.merkle_wire.proofs.nodes.write_nodes.Goals as goal

pub returns-in_ok-write_rows-in-Some : goal.returns-in_ok-write_rows-in-Some
returns-in_ok-write_rows-in-Some g c =
    let (found, are, count, bytes) = rw c.in-Some.is at c.in_ok-told.ensures in
    (rows_told found, are, c.in_ok-write_rows-in-Some.ensures ∙ ap₂ (λ n t. c.args.bytes.now.items ++ 0 ∷ (count_bytes n ++ t)) count bytes)

pub returns-in_ok-write_digests-in-None : goal.returns-in_ok-write_digests-in-None
returns-in_ok-write_digests-in-None g c = (
  digests_told (node_pairs c.args.nodes.now),
  refl,
  c.in_ok-write_digests-in-None.ensures ∙ ap (λ last. c.args.bytes.now.items ++ 1 ∷ nodes_bytes g.K.Encode.encoding last (node_pairs c.args.nodes.now)) c.in_ok-run-in-None.ensures,
)
