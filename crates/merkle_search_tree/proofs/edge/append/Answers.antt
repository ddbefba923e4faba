use Rattle.std.proofs.Common.{[], ◌∷◌, ◌++◌, None, ap, sym, subst, ◌∙◌, arith}
use Rattle.merkle_tree_theory.specs.Tree.{held_of, page, row, nothing, Node}
use Rattle.merkle_tree_theory.specs.Edge.{last_level, ClosesPages}
use Rattle.merkle_tree_theory.proofs.Edges.{append-at, append-new}
use Rattle.merkle_search_tree.proofs.edge.append.Goals as goal

pub returns-in_ok-push-in-Some : goal.returns-in_ok-push-in-Some
returns-in_ok-push-in-Some g c =
    let us = c.close.new.edge.items in
    let vs = c.pop.new.self.items in
    λ lev s a. append-at lev c.from.result c.args.key c.args.digest c.args.edge.now.items us vs c.push.new.self.items c.in-Some.page c.push_node.new.self (held_of c.in_ok-low.low)
    c.in-Some.ensures.items (omega (arith, c.if-last_level-from.true, c.last_level.ensures, ap (last_level 256) c.deref.ensures.value, c.from-2.ensures, c.from.ensures)) (s ∙ sym c.from.ensures)
    c.in_ok-push_node-in-Some.ensures c.in_ok-push-in-Some.ensures.items (c.in_ok-low.ensures.closed lev a)

pub returns-in_ok-push-2 : goal.returns-in_ok-push-2
returns-in_ok-push-2 g c =
    let us = c.close.new.edge.items in
    let ts = c.args.edge.now.items in
    let h = held_of c.in_ok-low.low in
    let x : Node g.row.K.Denot g.row.D.Denot = record { lt = h; key = c.args.key; digest = c.args.digest } in
    λ lev s a. append-new lev c.args.level c.args.key c.args.digest ts us c.push-else-last_level-from-2.new.self.items
    (page c.args.level None (row c.push-else-last_level-from.new.self.items nothing)) h
    (omega (arith, c.if-last_level-from.false, c.last_level.ensures, ap (last_level 256) c.deref.ensures.value, c.from-2.ensures, c.from.ensures, c.in_ok-low.ensures.levels)) s
    (ap (λ es. page c.args.level None (row es nothing)) (c.in_ok-push.ensures.items ∙ ap (λ es. es ++ x ∷ []) c.new-nodes.ensures.items))
    c.in_ok-push-2.ensures.items (subst (λ n. ClosesPages lev n ts us h) c.from.ensures (c.in_ok-low.ensures.closed lev a))
