use Rattle.std.proofs.Common.{◌++◌, ◌∷◌, [], ap, ◌∙◌, append_assoc}
use Rattle.std.specs.List.{flat_map}
use Rattle.merkle_wire.specs.Outlines.{keys_told, keys_among, node_pairs}
use Rattle.merkle_wire.proofs.nodes.write_digests.Goals as goal

pub returns : goal.returns
returns g c =
    let old = c.args.bytes.now.items in
    let nodes = node_pairs c.args.nodes.now in
    let keys = keys_told g.K.Encode.encoding c.args.run.now (keys_among nodes) in
    let digests = flat_map (λ p. p.1) nodes in
    c.in_ok-encode_digests.ensures ∙ ap (λ t. t ++ digests) (c.in_ok-encode_keys.ensures ∙ ap (λ t. t ++ keys) c.in_ok-extend_from_slice.ensures.items ∙ append_assoc old (1 ∷ []) keys)
    ∙ append_assoc old (1 ∷ keys) digests
