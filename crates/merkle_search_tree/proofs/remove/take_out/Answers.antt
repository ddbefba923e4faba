use Rattle.std.proofs.Common.{◌≡◌, ◌⊎◌, List, subst, suc, ◌+◌, ◌-◌, ◌<◌, ◌++◌, length, take, drop, get_or, slice_set, Some, ap, sym, ◌∙◌, arith}
use Rattle.std.specs.List.{remove}
use Rattle.merkle_tree_theory.specs.Tree.{Node, Held, high, row, held_of}
use Rattle.merkle_tree_theory.specs.Remove.{row_append, IsNothing, BeginsFree}
use Rattle.merkle_tree_theory.proofs.Seams.{tail_lent, tail_back, removed_at, got_at, set_at_back, without_at, pair_at-is, free_at-is}
use Rattle.merkle_search_tree.proofs.remove.take_out.Goals as goal

pub returns-in-Err-clause-nodes_unchanged : goal.returns-in-Err-clause-nodes_unchanged
returns-in-Err-clause-nodes_unchanged g c =
    let es = c.args.nodes.now.items in
    let i = c.args.at in
    let n = c.node.inside in
    let m = c.node-in-Err.inside in
    let t = c.join_first.new.nodes in
    let e : Node g.row.K.Denot g.row.D.Denot = record { lt = held_of c.replace-low.new.dest; key = n.key; digest = n.value_hash } in
    let within : i < length es = omega (arith, c.requires, c.args.nodes.now.ok.0) in
    let one : i + 1 ≡ suc i = omega arith in
    let lent = tail_lent es c.deref_mut.result.now i (i + 1) e c.deref_mut.ensures.value within one in
    let same = c.in-Err.ensures.nodes_unchanged ∙ lent in
    let back = tail_back es c.deref_mut.result.now i (i + 1) e t c.args.nodes.now.len c.deref_mut.ensures.value one (omega (arith, c.args.nodes.now.ok.0)) within (ap length same) in
    let whole = back ∙ ap (λ ys. take (suc i) (slice_set es i e) ++ ys) same in
    let x = c.index_mut-node.result.now in
    let was = c.node.view_is ∙ c.index_mut-node.ensures.value in
    let is = c.node-in-Err.view_is ∙ c.index_mut-node-in-Err.ensures.value ∙ ap (λ ys. get_or ys i c.index_mut-node-in-Err.result.now) whole
    ∙ got_at es i e (drop (suc i) es) c.index_mut-node-in-Err.result.now within in
    let low = c.in-Err.ensures.lower_unchanged ∙ ap held_of c.replace-low.ensures.value ∙ ap (λ (v : Node g.row.K.Denot g.row.D.Denot). v.lt) was in
    let key = ap (λ (v : Node g.row.K.Denot g.row.D.Denot). v.key) is ∙ ap (λ (v : Node g.row.K.Denot g.row.D.Denot). v.key) was in
    let digest = ap (λ (v : Node g.row.K.Denot g.row.D.Denot). v.digest) is ∙ ap (λ (v : Node g.row.K.Denot g.row.D.Denot). v.digest) was in
    let v : Node g.row.K.Denot g.row.D.Denot = record { lt = held_of c.join_first.new.lower; key = m.key; digest = m.value_hash } in
    ap (λ ys. slice_set ys i v) whole ∙ set_at_back es i e v x within (λ j. record { lt = low j; key = key j; digest = digest j })

pub returns-in-Err-clause-succeeds : goal.returns-in-Err-clause-succeeds
returns-in-Err-clause-succeeds g c =
    let es = c.args.nodes.now.items in
    let i = c.args.at in
    let n = c.node.inside in
    let h = held_of c.args.high_page.now in
    let e : Node g.row.K.Denot g.row.D.Denot = record { lt = held_of c.replace-low.new.dest; key = n.key; digest = n.value_hash } in
    let within : i < length es = omega (arith, c.requires, c.args.nodes.now.ok.0) in
    let one : i + 1 ≡ suc i = omega arith in
    let lent = tail_lent es c.deref_mut.result.now i (i + 1) e c.deref_mut.ensures.value within one in
    λ f.
    let x = c.index_mut-node.result.now in
    let low = ap held_of c.replace-low.ensures.value ∙ ap (λ (v : Node g.row.K.Denot g.row.D.Denot). v.lt) (c.node.view_is ∙ c.index_mut-node.ensures.value) in
    c.in-Err.ensures.succeeds
    (subst (λ (z : Held g.row.K.Denot g.row.D.Denot). IsNothing z ⊎ BeginsFree (row (take (length c.deref_mut.result.now - (i + 1)) (drop (i + 1) c.deref_mut.result.now)) h)) (sym low)
    (subst (λ (ys : List (Node g.row.K.Denot g.row.D.Denot)). IsNothing (get_or es i x).lt ⊎ BeginsFree (row ys h)) (sym lent) (free_at-is es h i x within f)))

pub returns-clause-joined : goal.returns-clause-joined
returns-clause-joined g c =
    let es = c.args.nodes.now.items in
    let i = c.args.at in
    let n = c.node.inside in
    let h = held_of c.args.high_page.now in
    let t = c.join_first.new.nodes in
    let x = c.index_mut-node.result.now in
    let e : Node g.row.K.Denot g.row.D.Denot = record { lt = held_of c.replace-low.new.dest; key = n.key; digest = n.value_hash } in
    let within : i < length es = omega (arith, c.requires, c.args.nodes.now.ok.0) in
    let one : i + 1 ≡ suc i = omega arith in
    let lent = tail_lent es c.deref_mut.result.now i (i + 1) e c.deref_mut.ensures.value within one in
    let back = tail_back es c.deref_mut.result.now i (i + 1) e t c.args.nodes.now.len c.deref_mut.ensures.value one
    (omega (arith, c.args.nodes.now.ok.0)) within (c.in-Ok.ensures.len ∙ ap length lent) in
    let low = ap held_of c.replace-low.ensures.value ∙ ap (λ (v : Node g.row.K.Denot g.row.D.Denot). v.lt) (c.node.view_is ∙ c.index_mut-node.ensures.value) in
    let joined = c.in-Ok.ensures.joined ∙ (λ j. row_append (high (low j)) (row (lent j) h)) in
    ap (λ ys. row ys (held_of c.join_first.new.high_page)) (c.remove-node.ensures.items ∙ ap (λ ys. remove ys i) back ∙ removed_at es i e t within)
    ∙ without_at es h i x t (held_of c.join_first.new.high_page) within joined

pub returns-clause-taken : goal.returns-clause-taken
returns-clause-taken g c =
    let es = c.args.nodes.now.items in
    let i = c.args.at in
    let n = c.node.inside in
    let t = c.join_first.new.nodes in
    let x = c.index_mut-node.result.now in
    let e : Node g.row.K.Denot g.row.D.Denot = record { lt = held_of c.replace-low.new.dest; key = n.key; digest = n.value_hash } in
    let within : i < length es = omega (arith, c.requires, c.args.nodes.now.ok.0) in
    let one : i + 1 ≡ suc i = omega arith in
    let lent = tail_lent es c.deref_mut.result.now i (i + 1) e c.deref_mut.ensures.value within one in
    let back = tail_back es c.deref_mut.result.now i (i + 1) e t c.args.nodes.now.len c.deref_mut.ensures.value one
    (omega (arith, c.args.nodes.now.ok.0)) within (c.in-Ok.ensures.len ∙ ap length lent) in
    let is = c.node-2.view_is ∙ c.remove-node.ensures.value ∙ ap (λ ys. get_or ys i c.remove-node.result) back ∙ got_at es i e t c.remove-node.result within in
    let was = c.node.view_is ∙ c.index_mut-node.ensures.value in
    ap (λ (v : Node g.row.K.Denot g.row.D.Denot). Some (v.key, v.digest)) is ∙ ap (λ (v : Node g.row.K.Denot g.row.D.Denot). Some (v.key, v.digest)) was ∙ sym (pair_at-is es i x within)
