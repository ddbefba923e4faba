use Rattle.std.proofs.Common.{rules, ◌≡◌, ℕ, ◌<◌, List, [], ◌∷◌, length, slice_set, None, true, false, arith, ap, sym, subst, ◌∙◌, refl}
use Rattle.std.proofs.lemmas.Bool.{eqb-true, eqb-false}
use Rattle.std.specs.Vec.{vec_len}
use Rattle.merkle_tree_theory.specs.Tree.{page, Node, below, row, held_of}
use Rattle.merkle_tree_theory.specs.Upsert.{place}
use Rattle.merkle_tree_theory.proofs.Search.{page_nodes-ascend, page_high-map, page_gap-map, all_below, one_at, key_there, key_elsewhere}
use Rattle.merkle_tree_theory.proofs.Rows.{page_size-high, page_size-gap}
use Rattle.merkle_tree_theory.specs.Remove.{held_del, tree_del, tree_without, IsFreeAt, HasFreeGap, HeldHasFreeGap}
use Rattle.merkle_tree_theory.proofs.NodeParts.{lt_back, lt_changed, on_err_always}
use Rattle.merkle_tree_theory.proofs.Seams.{gives_way, way_some, way_same, without_gives, at_some, at_none, free_equal, free_gap, free_high}
use Rattle.merkle_tree_theory.proofs.Seams.{page_entry-high, page_without-high, page_entry-equal, page_without-equal, page_entry-gap, page_without-gap}
use Rattle.merkle_search_tree.proofs.Absent.{none_else}
use Rattle.merkle_search_tree.proofs.+remove.Goals as goal
use Rattle.merkle_search_tree.proofs.+remove.Goals.{remove::remove_below-then-is_empty+in-Some-1, remove::remove_below-then-is_empty+in-None-1, remove::remove_below-else-is_empty}

-- a node, of which nothing is asked
any_of : {X : Type 0} (xs : List X) (i : ℕ) → i < length xs → X
any_of [] i r = absurd (omega arith)
any_of (x ∷ xs) i r = x

pub page::PageOf::remove-returns-in_err-entry-clause-succeeds : goal.page::PageOf::remove-returns-in_err-entry-clause-succeeds
page::PageOf::remove-returns-in_err-entry-clause-succeeds g t c =
    let s = c.self.inside in
    λ f.
    let never : false ≡ true = c.in_err-entry.ensures.succeeds
    (free_high g.K.Ord.cmp c.args.key.now s.nodes.items (held_of s.high_page) (subst (HasFreeGap g.K.Ord.cmp c.args.key.now) (sym c.self.view_is) f)) in
    absurd (cc)

pub page::PageOf::remove-returns-in_default-clause-found : goal.page::PageOf::remove-returns-in_default-clause-found
page::PageOf::remove-returns-in_default-clause-found g t c =
    let s = c.self.inside in
    let all = all_below g.K.Ord.cmp c.args.key.now c.search-spot.ensures.found c.deref.ensures.value c.if-at-len.true c.len.ensures s.nodes.ok.0 in
    sym (none_else _ c.in_default.not-Some) ∙ c.in_ok-entry.ensures.found ∙ page_entry-high g.K.Ord.cmp c.args.key.now s.nodes.items (held_of s.high_page) c.self.view_is all

pub page::PageOf::remove-returns-then-at-len-clause-found : goal.page::PageOf::remove-returns-then-at-len-clause-found
page::PageOf::remove-returns-then-at-len-clause-found g t c =
    let s = c.self.inside in
    let all = all_below g.K.Ord.cmp c.args.key.now c.search-spot.ensures.found c.deref.ensures.value c.if-at-len.true c.len.ensures s.nodes.ok.0 in
    sym c.in-Some.is ∙ c.in_ok-entry.ensures.found ∙ page_entry-high g.K.Ord.cmp c.args.key.now s.nodes.items (held_of s.high_page) c.self.view_is all

pub page::PageOf::remove-returns-then-at-len-clause-done : goal.page::PageOf::remove-returns-then-at-len-clause-done
page::PageOf::remove-returns-then-at-len-clause-done g t c =
    let s = c.self.inside in
    let all = all_below g.K.Ord.cmp c.args.key.now c.search-spot.ensures.found c.deref.ensures.value c.if-at-len.true c.len.ensures s.nodes.ok.0 in
    let done : held_of c.remove_below.new.held ≡ held_del g.K.Ord.cmp c.args.key.now (held_of s.high_page) = at_some _ _ _ c.in-Some.entry c.in-Some.is c.in_ok-entry.ensures.done in
    ap (λ o. page s.level None (row s.nodes.items o)) done ∙ page_without-high g.K.Ord.cmp c.args.key.now s.nodes.items (held_of s.high_page) c.self.view_is all

pub page::PageOf::remove-returns-in_err-entry-2-clause-succeeds : goal.page::PageOf::remove-returns-in_err-entry-2-clause-succeeds
page::PageOf::remove-returns-in_err-entry-2-clause-succeeds g t c =
    let s = c.self.inside in
    let i = c.search-spot.result.at in
    let within = one_at c.search-spot.ensures.within c.deref.ensures.value c.if-at-len.false c.len.ensures s.nodes.ok.0 in
    let x = any_of s.nodes.items i within in
    let same = key_there g.K.Ord.cmp c.args.key.now i c.search-spot.ensures.there c.deref.ensures.value c.if-spot.true x within in
    λ f.
    let free : IsFreeAt i (row s.nodes.items (held_of s.high_page)) =
    free_equal g.K.Ord.cmp c.args.key.now s.nodes.items (held_of s.high_page) i x within same (subst (HasFreeGap g.K.Ord.cmp c.args.key.now) (sym c.self.view_is) f) in
    let never : false ≡ true = c.in_err-entry-2.ensures.succeeds free in
    absurd (cc)

pub page::PageOf::remove-returns-then-spot-clause-found : goal.page::PageOf::remove-returns-then-spot-clause-found
page::PageOf::remove-returns-then-spot-clause-found g t c =
    let s = c.self.inside in
    let i = c.search-spot.result.at in
    let at = c.search-spot.ensures.found ∙ ap (place g.K.Ord.cmp c.args.key.now) c.deref.ensures.value in
    let within = one_at c.search-spot.ensures.within c.deref.ensures.value c.if-at-len.false c.len.ensures s.nodes.ok.0 in
    let x = any_of s.nodes.items i within in
    let same = key_there g.K.Ord.cmp c.args.key.now i c.search-spot.ensures.there c.deref.ensures.value c.if-spot.true x within in
    c.in_ok-entry-2.ensures.taken ∙ page_entry-equal g.K.Ord.cmp c.args.key.now s.nodes.items (held_of s.high_page) c.self.view_is i x at within same

pub page::PageOf::remove-returns-then-spot-clause-done : goal.page::PageOf::remove-returns-then-spot-clause-done
page::PageOf::remove-returns-then-spot-clause-done g t c =
    let s = c.self.inside in
    let i = c.search-spot.result.at in
    let at = c.search-spot.ensures.found ∙ ap (place g.K.Ord.cmp c.args.key.now) c.deref.ensures.value in
    let within = one_at c.search-spot.ensures.within c.deref.ensures.value c.if-at-len.false c.len.ensures s.nodes.ok.0 in
    let x = any_of s.nodes.items i within in
    let same = key_there g.K.Ord.cmp c.args.key.now i c.search-spot.ensures.there c.deref.ensures.value c.if-spot.true x within in
    ap (page s.level None) c.in_ok-entry-2.ensures.joined ∙ page_without-equal g.K.Ord.cmp c.args.key.now s.nodes.items (held_of s.high_page) c.self.view_is i x at within same

pub page::PageOf::remove-returns-in_err-entry-3 : goal.page::PageOf::remove-returns-in_err-entry-3
page::PageOf::remove-returns-in_err-entry-3 g t c =
    let s = c.self.inside in
    let n = c.node.inside in
    let i = c.search-spot.result.at in
    let within = one_at c.search-spot.ensures.within c.deref.ensures.value c.if-at-len.false c.len.ensures s.nodes.ok.0 in
    let is = c.node.view_is ∙ c.index_mut-node.ensures.value in
    record {
      found = search rules;
      done = search rules;
      unchanged = on_err_always _ _ (ap (λ ys. page s.level s.tree_hash (row ys (held_of s.high_page)))
          (lt_back s.nodes.items i n.key n.value_hash within c.index_mut-node.ensures.value c.node.view_is c.in_err-entry-3.ensures.unchanged) ∙ c.self.view_is);
      succeeds = λ f.
          let free = free_gap g.K.Ord.cmp c.args.key.now s.nodes.items (held_of s.high_page) i c.index_mut-node.result.now within
          (subst (HasFreeGap g.K.Ord.cmp c.args.key.now) (sym c.self.view_is) f) in
          let never : false ≡ true = c.in_err-entry-3.ensures.succeeds (subst (λ (e : Node g.row.K.Denot g.row.D.Denot). HeldHasFreeGap g.K.Ord.cmp c.args.key.now e.lt) (sym is) free) in
          absurd (cc);
    }

pub page::PageOf::remove-returns-in_default-2 : goal.page::PageOf::remove-returns-in_default-2
page::PageOf::remove-returns-in_default-2 g t c =
    let s = c.self.inside in
    let n = c.node.inside in
    let i = c.search-spot.result.at in
    let x = c.index_mut-node.result.now in
    let at = c.search-spot.ensures.found ∙ ap (place g.K.Ord.cmp c.args.key.now) c.deref.ensures.value in
    let within = one_at c.search-spot.ensures.within c.deref.ensures.value c.if-at-len.false c.len.ensures s.nodes.ok.0 in
    let is = c.node.view_is ∙ c.index_mut-node.ensures.value in
    let other = key_elsewhere g.K.Ord.cmp c.args.key.now i c.search-spot.ensures.there c.deref.ensures.value c.if-spot.false x within in
    record {
      found = sym (none_else _ c.in_default-2.not-Some) ∙ c.in_ok-entry-3.ensures.found
          ∙ page_entry-gap g.K.Ord.cmp c.args.key.now s.nodes.items (held_of s.high_page) c.self.view_is i x at within is other;
      done =
          let done = at_none _ _ _ (none_else _ c.in_default-2.not-Some) c.in_ok-entry-3.ensures.done in
          ap (λ ys. page s.level s.tree_hash (row ys (held_of s.high_page))) (lt_back s.nodes.items i n.key n.value_hash within c.index_mut-node.ensures.value c.node.view_is done) ∙ c.self.view_is;
      unchanged = tt;
      succeeds = λ f. refl;
    }

pub page::PageOf::remove-returns : goal.page::PageOf::remove-returns
page::PageOf::remove-returns g t c =
    let s = c.self.inside in
    let n = c.node.inside in
    let i = c.search-spot.result.at in
    let x = c.index_mut-node.result.now in
    let at = c.search-spot.ensures.found ∙ ap (place g.K.Ord.cmp c.args.key.now) c.deref.ensures.value in
    let within = one_at c.search-spot.ensures.within c.deref.ensures.value c.if-at-len.false c.len.ensures s.nodes.ok.0 in
    let is = c.node.view_is ∙ c.index_mut-node.ensures.value in
    let other = key_elsewhere g.K.Ord.cmp c.args.key.now i c.search-spot.ensures.there c.deref.ensures.value c.if-spot.false x within in
    record {
      found = sym c.in-Some-2.is ∙ c.in_ok-entry-3.ensures.found ∙ page_entry-gap g.K.Ord.cmp c.args.key.now s.nodes.items (held_of s.high_page) c.self.view_is i x at within is other;
      done =
          let done : held_of c.remove_below-2.new.held ≡ held_del g.K.Ord.cmp c.args.key.now (held_of n.lt_pointer) = at_some _ _ _ c.in-Some-2.entry c.in-Some-2.is c.in_ok-entry-3.ensures.done in
          ap (λ e. page s.level None (row (slice_set s.nodes.items i e) (held_of s.high_page))) (lt_changed (held_del g.K.Ord.cmp c.args.key.now) n.key n.value_hash is done)
          ∙ page_without-gap g.K.Ord.cmp c.args.key.now s.nodes.items (held_of s.high_page) c.self.view_is i x at within other;
      unchanged = tt;
      succeeds = λ f. refl;
    }

pub remove::remove_below-returns-clause-done : goal.remove::remove_below-returns-clause-done
remove::remove_below-returns-clause-done g t c =
    let cmp = g.K.Ord.cmp in
    let k = c.args.key.now in
    let b = c.behind-page.inside in
    let done : c.remove.new.self ≡ tree_without cmp k c.deref_mut.result.now = at_some _ _ _ c.in-Some-2.entry c.in-Some-2.is c.in_ok-entry.ensures.done in
    let way : gives_way (page b.level b.tree_hash (row b.nodes.items (held_of b.high_page))) ≡ held_del cmp k (held_of c.args.held.now) =
    ap gives_way (c.behind-page.view_is ∙ c.deref.ensures ∙ done) ∙ sym (without_gives cmp k c.deref_mut.result.now)
    ∙ ap (tree_del cmp k) c.deref_mut.ensures.value ∙ ap (held_del cmp k) (sym (ap held_of c.in-Some.is)) in
    let none : c.is_empty.result ≡ true → length b.nodes.items ≡ 0 = λ e. omega (arith, eqb-true (vec_len b.nodes) 0 (sym c.is_empty.ensures ∙ e), b.nodes.ok.0) in
    elim c.if-is_empty.branch [
      | remove::remove_below-then-is_empty+in-Some-1 w ↦
          let t = w.behind-page-then-is_empty.inside in
          let same = c.behind-page.view_is ∙ c.deref.ensures ∙ sym (w.behind-page-then-is_empty.view_is ∙ w.deref_mut-then-is_empty.ensures.value) in
          ap held_of (w.held-is ∙ w.replace-rest.ensures.value) ∙ way_same b.nodes.items t.nodes.items (held_of b.high_page) (held_of t.high_page) same (none w.if-is_empty.true) ∙ way
      | remove::remove_below-then-is_empty+in-None-1 w ↦
          let t = w.behind-page-then-is_empty.inside in
          let same = c.behind-page.view_is ∙ c.deref.ensures ∙ sym (w.behind-page-then-is_empty.view_is ∙ w.deref_mut-then-is_empty.ensures.value) in
          ap held_of (w.held-is ∙ w.replace-rest.ensures.value) ∙ way_same b.nodes.items t.nodes.items (held_of b.high_page) (held_of t.high_page) same (none w.if-is_empty.true) ∙ way
      | remove::remove_below-else-is_empty w ↦
          let ne = eqb-false (vec_len b.nodes) 0 (sym c.is_empty.ensures ∙ w.if-is_empty.false) in
          ap held_of w.held-is ∙ ap below (sym (c.behind-page.view_is ∙ c.deref.ensures))
          ∙ sym (way_some b.level b.tree_hash b.nodes.items (held_of b.high_page) (λ z. ne (omega (arith, z, b.nodes.ok.0)))) ∙ way
    ]

pub page::PageOf::remove-search-spot-requires : goal.page::PageOf::remove-search-spot-requires
page::PageOf::remove-search-spot-requires g t c =
    let s = c.self.inside in
    record { ascending = page_nodes-ascend g.K.Ord.cmp s.nodes.items (held_of s.high_page) c.self.view_is c.requires.ascending c.deref.ensures.value }

pub page::PageOf::remove-remove_below-requires : goal.page::PageOf::remove-remove_below-requires
page::PageOf::remove-remove_below-requires g t c κs within =
    let s = c.self.inside in
    let small = page_size-high s.nodes.items (held_of s.high_page) c.self.view_is in
    (omega (arith, small, c.decreases), (search rules, (search rules, page_high-map g.K.Ord.cmp s.nodes.items (held_of s.high_page) c.self.view_is c.requires.ascending)))

pub page::PageOf::remove-remove_below-requires-2 : goal.page::PageOf::remove-remove_below-requires-2
page::PageOf::remove-remove_below-requires-2 g t c κs bound =
    let s = c.self.inside in
    let i = c.search-spot.result.at in
    let x = c.index_mut-node.result.now in
    let within = one_at c.search-spot.ensures.within c.deref.ensures.value c.if-at-len.false c.len.ensures s.nodes.ok.0 in
    let is = c.node.view_is ∙ c.index_mut-node.ensures.value in
    let small = page_size-gap s.nodes.items (held_of s.high_page) c.self.view_is i x is within in
    (omega (arith, small, c.decreases), (search rules, (search rules, page_gap-map g.K.Ord.cmp s.nodes.items (held_of s.high_page) c.self.view_is c.requires.ascending i x is within)))
