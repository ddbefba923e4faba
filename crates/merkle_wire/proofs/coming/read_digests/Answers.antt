use Rattle.std.proofs.Common.{◌≡◌, ◌++◌, ◌∷◌, [], ℕ, List, length, map, append_assoc, append-nil, arith, ap, sym, subst, ◌∙◌, rules}
use Rattle.std.proofs.lemmas.Grind.{flat_map-append}
use Rattle.std.proofs.lemmas.List.{map-append, length-append, length-map}
use Rattle.std.proofs.lemmas.Result.{err_from_is_err_and}
use Rattle.std.specs.List.{AllByRecursion, flat_map}
use Rattle.std.specs.Vec.Iter.{into_iter_items}
use Rattle.key_order.proofs.ListParts.{each-append}
use Rattle.merkle_replica.proofs.ListIterators.{one_yielded, all_yielded}
use Rattle.merkle_wire.specs.Outlines.{keys_among}
use Rattle.merkle_wire.specs.Steps.{nodes_read}
use Rattle.merkle_wire.proofs.Fronts.{refused_unread}
use Rattle.merkle_wire.proofs.Unfit.{each_digest, flat_digests, no_digests}
use Rattle.merkle_wire.proofs.coming.read_digests.Goals as goal

pub keys-init : goal.keys-init
keys-init g c =
    let none = c.in_ok-nodes.ensures.items in
    let begun = c.args.reader.now.left.now in
    record {
      left = search rules;
      count = search rules;
      of = ap (λ ns. keys_among (nodes_read ns)) none;
      read = sym (ap (λ ns. flat_map (λ d. d.1) (nodes_read ns) ++ begun) none);
      lengths = subst (λ ns. AllByRecursion (λ d. length d.1 ≡ c.args.digest_bytes) (nodes_read ns)) (sym none) tt;
    }

pub keys-preserved : goal.keys-preserved
keys-preserved g c =
    let w = c.in-Some.wanted in
    let digest = c.in_ok-digest.digest in
    let kept = c.keys.invariant in
    let node : g.row.K.Denot × List ℕ = (w.key, digest.now) in
    let old = nodes_read c.keys.nodes.items in
    let more : nodes_read c.push.new.self.items ≡ old ++ node ∷ [] = ap nodes_read c.in_ok-push.ensures.items ∙ map-append _ c.keys.nodes.items ((w, digest) ∷ []) in
    let left = c.slice.new.self.left.now in
    let given = one_yielded c.keys.wanted-iterator c.next.new.self c.keys.yielded c.args.keys.items w c.in-Some.ensures.steps kept.left kept.count in
    record {
      left = given.0;
      count = given.1;
      of = ap keys_among more ∙ map-append _ old (node ∷ []) ∙ ap (λ ks. ks ++ w.key ∷ []) kept.of ∙ sym (map-append _ c.keys.yielded (w ∷ []));
      read = kept.read ∙ ap (λ t. flat_map (λ n. n.1) old ++ t) (c.in_ok-digest.ensures.read ∙ ap (λ b. b ++ left) (sym (append-nil digest.now)))
          ∙ sym (append_assoc (flat_map (λ n. n.1) old) (digest.now ++ []) left)
          ∙ ap (λ t. t ++ left) (sym (flat_map-append _ old (node ∷ [])) ∙ ap (flat_map (λ n. n.1)) (sym more));
      lengths = subst (AllByRecursion (λ d. length d.1 ≡ c.args.digest_bytes)) (sym more) (each-append _ old (node ∷ []) kept.lengths (c.in_ok-digest.ensures.len, tt));
    }

pub returns-clause-keys : goal.returns-clause-keys
returns-clause-keys g c =
    let kept = c.keys.invariant in
    let done = all_yielded c.keys.yielded (into_iter_items c.keys.wanted-iterator) c.args.keys.items kept.left (sym kept.count ∙ c.in-None.ensures.steps.0) in
    kept.of ∙ ap (map (λ x. x.key)) done

pub returns-in_err-digest-clause-refused : goal.returns-in_err-digest-clause-refused
returns-in_err-digest-clause-refused g c =
    let p = err_from_is_err_and c.from_residual-in_err-digest.result c.from_residual-in_err-digest.ensures.1 in
    let kept = c.keys.invariant in
    let nodes = nodes_read c.keys.nodes.items in
    let short = ap length c.in-Some.ensures.steps.0 in
    rw (p.1, p.2) (refused_unread _ c.in_err-digest.field-0.0 (λ malformed.
    no_digests c.args.digest_bytes (length c.args.keys.items) c.args.reader.now.left.now c.keys.reader.left.now (map (λ d. d.1) nodes)
    (kept.read ∙ ap (λ t. t ++ c.keys.reader.left.now) (flat_digests nodes)) (each_digest c.args.digest_bytes nodes kept.lengths)
    (omega (
      arith,
      length-map nodes (λ d. d.1),
      length-map nodes (λ d. d.0),
      length-map c.keys.yielded (λ w. w.key),
      ap length kept.of,
      ap length kept.left,
      short,
      length-append c.keys.yielded (into_iter_items c.keys.wanted-iterator),
    ))
    (c.in_err-digest.ensures.malformed malformed)))
