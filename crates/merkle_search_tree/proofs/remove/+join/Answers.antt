use Rattle.std.proofs.Common.{◌≡◌, ◌++◌, None, length, arith, ap, sym, ◌∙◌}
use Rattle.std.specs.declared.cmp.Ordering.TheVariants.{Equal, Greater}
use Rattle.std.specs.Ordering.{nat_cmp}
use Rattle.merkle_tree_theory.specs.Tree.{page, high, below, row, held_of}
use Rattle.merkle_tree_theory.specs.Remove.{held_join, row_append}
use Rattle.merkle_tree_theory.proofs.Seams.{join_none, join_equal, join_greater, append_at, append_high, written_back}
use Rattle.merkle_search_tree.proofs.Absent.{none_else}
use Rattle.merkle_search_tree.proofs.remove.+join.Goals as goal

pub join_below-returns-in_default-upper-clause-joined :
    goal.join_below-returns-in_default-upper-clause-joined
join_below-returns-in_default-upper-clause-joined g t c =
    ap held_of c.swap.ensures.y_after ∙ ap below c.deref_mut-low.ensures.value ∙ sym (ap held_of c.in-Some.is) ∙ sym (join_none (held_of c.args.lower.now))
    ∙ ap (held_join (held_of c.args.lower.now)) (sym (ap held_of (none_else _ c.in_default-upper.not-Some)))

pub join_below-returns-in-Ok-clause-joined : goal.join_below-returns-in-Ok-clause-joined
join_below-returns-in-Ok-clause-joined g t c =
    let l = c.low.inside in
    let u = c.up.inside in
    let lower_is : below (page l.level l.tree_hash (row l.nodes.items (held_of l.high_page))) ≡ held_of c.args.lower.now =
    ap below (c.low.view_is ∙ c.deref_mut-low.ensures.value) ∙ sym (ap held_of c.in-Some.is) in
    let upper_is : below (page u.level u.tree_hash (row u.nodes.items (held_of u.high_page))) ≡ held_of c.args.upper.now =
    ap below (c.up.view_is ∙ c.deref_mut-up.ensures.value) ∙ sym (ap held_of c.in-Some-upper.is) in
    let q : nat_cmp l.level u.level ≡ Equal = sym c.cmp.ensures ∙ c.in-Equal.is in
    let items : c.append.new.self.items ≡ l.nodes.items ++ c.join_first-in-Equal.new.nodes = c.in-Ok.ensures.items
    ∙ (λ i. c.in_ok-reserve-in-Equal.ensures.items i ++ written_back c.join_first-in-Equal.new.nodes u.nodes.items u.nodes.len (omega (arith, u.nodes.ok.0))
    (c.in_ok-join_first-in-Equal.ensures.len ∙ ap length c.deref_mut-in-Equal.ensures.value) i) in
    let joined = c.in_ok-join_first-in-Equal.ensures.joined ∙ ap (λ es. row_append (high (held_of l.high_page)) (row es (held_of u.high_page))) c.deref_mut-in-Equal.ensures.value in
    ap held_of c.swap-in-Equal-2.ensures.y_after
    ∙ (λ i. below (page l.level None (row (items i) (held_of (c.swap-in-Equal.ensures.x_after i)))))
    ∙ ap (λ r. below (page l.level None r))
    (sym (append_at l.nodes.items (held_of l.high_page) (row u.nodes.items (held_of u.high_page)) c.join_first-in-Equal.new.nodes
    (held_of c.join_first-in-Equal.new.high_page) joined))
    ∙ sym (join_equal l.level u.level l.tree_hash u.tree_hash (row l.nodes.items (held_of l.high_page)) (row u.nodes.items (held_of u.high_page)) q)
    ∙ (λ i. held_join (lower_is i) (upper_is i))

pub join_below-returns-in_ok-join_below-in-Greater-clause-joined :
    goal.join_below-returns-in_ok-join_below-in-Greater-clause-joined
join_below-returns-in_ok-join_below-in-Greater-clause-joined g t c =
    let l = c.low.inside in
    let u = c.up.inside in
    let lower_is : below (page l.level l.tree_hash (row l.nodes.items (held_of l.high_page))) ≡ held_of c.args.lower.now =
    ap below (c.low.view_is ∙ c.deref_mut-low.ensures.value) ∙ sym (ap held_of c.in-Some.is) in
    let upper_is : below (page u.level u.tree_hash (row u.nodes.items (held_of u.high_page))) ≡ held_of c.args.upper.now =
    ap below (c.up.view_is ∙ c.deref_mut-up.ensures.value) ∙ sym (ap held_of c.in-Some-upper.is) in
    let q : nat_cmp l.level u.level ≡ Greater = sym c.cmp.ensures ∙ c.in-Greater.is in
    ap held_of c.swap-in-Greater-2.ensures.y_after
    ∙ ap (λ h. below (page l.level None (row l.nodes.items h)))
    (ap held_of c.swap-in-Greater.ensures.x_after ∙ c.in_ok-join_below-in-Greater.ensures.joined ∙ ap (λ x. held_join (held_of l.high_page) (below x)) (sym c.up.view_is))
    ∙ ap (λ r. below (page l.level None r)) (sym (append_high l.nodes.items (held_of l.high_page) (below (page u.level u.tree_hash (row u.nodes.items (held_of u.high_page))))))
    ∙ sym (join_greater l.level u.level l.tree_hash u.tree_hash (row l.nodes.items (held_of l.high_page)) (row u.nodes.items (held_of u.high_page)) q)
    ∙ (λ i. held_join (lower_is i) (upper_is i))
