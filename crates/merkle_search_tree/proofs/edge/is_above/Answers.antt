use Rattle.std.proofs.Common.{◌≡◌, ◌-◌, length, ap, ◌∙◌, arith, rules}
use Rattle.key_order.specs.Order.{below as below_key}
use Rattle.merkle_tree_theory.specs.Tree.{Tree}
use Rattle.merkle_tree_theory.specs.Page.{pairs}
use Rattle.merkle_tree_theory.specs.CachedRanges.{last_key_of}
use Rattle.merkle_tree_theory.proofs.Edges.{above-edge, no-last}
use Rattle.merkle_search_tree.proofs.edge.is_above.Goals as goal

pub returns-in-None-last_key : goal.returns-in-None-last_key
returns-in-None-last_key g c = λ lev a.
    let ts = c.args.edge.now in
    let t = c.in-Some.page.now in
    let item = c.in-Some.ensures.item in
    absurd (no-last lev ts (length ts - 1) t (omega (arith, item.3.0)) a (c.in-None-last_key.ensures ∙ ap (λ (x : Tree g.row.K.Denot g.row.D.Denot). last_key_of (pairs x)) item.1))

pub returns-in-Some-last_key : goal.returns-in-Some-last_key
returns-in-Some-last_key g c = λ lev a.
    let ts = c.args.edge.now in
    let t = c.in-Some.page.now in
    let item = c.in-Some.ensures.item in
    let below : c.lt.result ≡ below_key g.K.Ord.cmp c.in-Some-last_key.last.now c.args.key.now = search rules in
    below ∙ above-edge lev g.K.Ord.cmp ts (length ts - 1) t c.args.key.now c.in-Some-last_key.last.now (omega (arith, item.3.0)) a
    (c.in-Some-last_key.ensures ∙ ap (λ (x : Tree g.row.K.Denot g.row.D.Denot). last_key_of (pairs x)) item.1)
