use Rattle.std.proofs.Common.{◌≡◌, ◌++◌, ◌∷◌, [], ℕ, List, append-nil, refl, ap, sym, subst, ◌∙◌, rules}
use Rattle.std.proofs.lemmas.List.{map-append}
use Rattle.std.specs.Vec.Iter.{into_iter_items}
use Rattle.merkle_replica.proofs.ListIterators.{one_yielded, all_yielded}
use Rattle.merkle_wire.specs.ItsRows.{ForRowsOf, side_of}
use Rattle.merkle_wire.specs.Steps.{nodes_read}
use Rattle.merkle_wire.specs.Taking.{has_digest, new_keys}
use Rattle.merkle_wire.proofs.TakenMore.{keys-more, new_key}
use Rattle.merkle_wire.proofs.taking.take_nodes.Goals as goal

pub nodes-init : goal.nodes-init
nodes-init g c = record {
  left = search rules;
  count = search rules;
  steady = λ sound. sound;
  kept = λ _. refl;
  taken = λ _ rows of i. record c.args.work.now { wanted = sym (append-nil c.args.work.now.wanted) i };
}

pub nodes-preserved : goal.nodes-preserved
nodes-preserved g c =
    let laws = g.H.RowHasher.laws in
    let read = c.in-Some.node in
    let node : g.row.K.Denot × List ℕ = (read.0.key, read.1.now) in
    let kept = c.nodes.invariant in
    let own = (g.T.KeptTree.kept c.args.tree.now).digests in
    let given = one_yielded c.nodes.node-iterator c.next.new.self c.nodes.yielded c.args.nodes.items read c.in-Some.ensures.steps kept.left kept.count in
    let before = c.has_digest.ensures.steady in
    record {
      left = given.0;
      count = given.1;
      steady = λ sound. kept.steady (before sound);
      kept = λ sound. c.has_digest.ensures.kept sound ∙ kept.kept (before sound);
      taken = λ sound rows of.
          let there = subst (λ t. ForRowsOf laws t.digests (λ local. c.in_ok-is_there.is_there ≡ has_digest laws local node.0 node.1)) (kept.kept (before sound))
          (c.in_ok-is_there.ensures.has sound) in
          keys-more laws (side_of own rows) c.args.work.now c.nodes.work c.take_key.new.self (nodes_read c.nodes.yielded) (node ∷ []) (kept.taken (before sound) rows of)
          (subst (λ ks. c.take_key.new.self ≡ record c.nodes.work { wanted = c.nodes.work.wanted ++ ks }) (sym (new_key laws (side_of own rows) node)) (rw (there rows of) at c.in_ok-take_key.ensures))
          ∙ ap (λ ns. record c.args.work.now { wanted = c.args.work.now.wanted ++ new_keys laws (side_of own rows) ns }) (sym (map-append _ c.nodes.yielded (read ∷ [])));
    }

pub returns-clause-taken : goal.returns-clause-taken
returns-clause-taken g c = λ sound rows of.
    let laws = g.H.RowHasher.laws in
    let done = all_yielded c.nodes.yielded (into_iter_items c.nodes.node-iterator) c.args.nodes.items c.nodes.invariant.left (sym c.nodes.invariant.count ∙ c.in-None.ensures.steps.0) in
    c.nodes.invariant.taken sound rows of ∙ ap (λ ns.
    record c.args.work.now { wanted = c.args.work.now.wanted ++ new_keys laws (side_of (g.T.KeptTree.kept c.args.tree.now).digests rows) (nodes_read ns) }) done
