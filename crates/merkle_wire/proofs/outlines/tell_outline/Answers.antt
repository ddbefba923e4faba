use Rattle.std.proofs.Common.{◌++◌, ◌∷◌, [], append_assoc, refl, ap, ap₂, ◌∙◌, None}
use Rattle.merkle_bytes.specs.Runs.{bound_key}
use Rattle.merkle_search_tree.specs.Items.{items, bound_of}
use Rattle.merkle_wire.specs.Outlines.{page_told, node_pairs, nodes_digest, keys_among, keys_told, nodes_among, pages_beside, pages_bytes}
use Rattle.merkle_wire.proofs.ToldAlone.{told_alone}
use Rattle.merkle_wire.proofs.outlines.tell_outline.Goals as goal

pub returns-then-are_told : goal.returns-then-are_told
returns-then-are_told g c =
    let list = items c.args.list.now in
    let nodes = nodes_among list in
    let old = c.args.bytes.now.items in
    let digest = nodes_digest nodes in
    let keys = keys_told g.K.Encode.encoding (bound_key g.K.Encode.encoding [] (bound_of c.args.after)) (keys_among nodes) in
    let pages = pages_bytes (pages_beside None list) in
    let begun = c.in_ok-extend_from_slice-2.ensures.items ∙ ap₂ (λ b d. b ++ d) c.in_ok-extend_from_slice.ensures.items
    (c.nodes_digest.ensures ∙ ap (λ ns. nodes_digest (node_pairs ns)) c.deref.ensures.value ∙ ap nodes_digest c.in_ok-nodes.ensures) in
    let told = c.in_ok-encode_keys.ensures ∙ ap₂ (λ b ks. b ++ ks) begun
    (ap₂ (λ run ns. keys_told g.K.Encode.encoding run (keys_among ns)) c.in_ok-run.ensures (ap node_pairs c.deref-then-are_told.ensures.value ∙ c.in_ok-nodes.ensures)) in (
      page_told (nodes_digest nodes) (keys_among nodes) (pages_beside None list),
      (c.if-are_told.ensures.told refl, refl, refl, refl),
      c.in_ok-encode_pages.ensures ∙ ap (λ t. t ++ pages) told ∙ append_assoc ((old ++ 2 ∷ []) ++ digest) keys pages ∙ append_assoc (old ++ 2 ∷ []) digest (keys ++ pages)
          ∙ append_assoc old (2 ∷ []) (digest ++ (keys ++ pages)),
    )

pub returns : goal.returns
returns g c =
    let told = c.in_ok-write_nodes.ensures in (
      told.0,
      told_alone g.K.Ord.cmp (g.R.KeptRows.rows c.args.rows.now) c.args.telling.with_pages (items c.args.list.now) (node_pairs c.deref-else-are_told.result.now) told.0
          (ap node_pairs c.deref-else-are_told.ensures.value ∙ c.in_ok-nodes.ensures) (c.if-are_told.ensures.alone refl) told.1,
      told.2,
    )
