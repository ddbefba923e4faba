use Rattle.std.proofs.Common.{◌≡◌, ◌∷◌, [], ◌++◌, length, ap, sym, subst, ◌∙◌, arith, append-nil, append_assoc}
use Rattle.key_order.specs.Map.{IsMap}
use Rattle.merkle_tree_theory.specs.Tree.{Held, below, held_of, held_size}
use Rattle.merkle_tree_theory.specs.Page.{held_pairs, nodes_of}
use Rattle.merkle_tree_theory.specs.Search.{NodesAscend}
use Rattle.merkle_tree_theory.specs.Upsert.{place}
use Rattle.merkle_tree_theory.specs.Chain.{page_length, first_of, row_drop, row_of_page}
use Rattle.merkle_search_tree.specs.Parting.{PartsNodes, parting_place, PartingsFit}
use Rattle.merkle_tree_theory.proofs.Rows.{row_nodes-row}
use Rattle.merkle_tree_theory.proofs.Search.{page-ascends}
use Rattle.merkle_search_tree.proofs.Partings.{page_place, page_length-nodes, partings-more, page_held-map, page_held-size}
use Rattle.merkle_search_tree.proofs.parting.partings_of.Goals as goal

pub search-spot-requires : goal.search-spot-requires
search-spot-requires g c =
    let s = c.behind-page.inside in
    let nodes = c.deref-in-Some.ensures.value ∙ sym (row_nodes-row s.nodes.items (held_of s.high_page)) ∙ ap nodes_of (c.behind-page.view_is ∙ c.deref.ensures) in
    let map = subst (λ (h : Held g.row.K.Denot g.row.D.Denot). IsMap g.K.Ord.cmp (held_pairs h)) (ap held_of c.in-Some.is) c.path.invariant.0 in
    record { ascending = subst (NodesAscend g.K.Ord.cmp) (sym nodes) (page-ascends g.K.Ord.cmp c.in-Some.page.value map) }

pub parting_at-requires : goal.parting_at-requires
parting_at-requires g c =
    let s = c.behind-page.inside in
    let u = c.behind-page-in-Some.inside in
    let nodes = c.deref-in-Some.ensures.value ∙ sym (row_nodes-row s.nodes.items (held_of s.high_page)) ∙ ap nodes_of (c.behind-page.view_is ∙ c.deref.ensures) in
    let same = sym (row_nodes-row u.nodes.items (held_of u.high_page)) ∙ ap nodes_of (c.behind-page-in-Some.view_is ∙ c.deref-in-Some-2.ensures) in
    omega (arith, c.search-spot.ensures.within, ap length nodes, ap length same, c.len.ensures, u.nodes.ok.0)

pub path-smaller : goal.path-smaller
path-smaller g c =
    let t = c.in-Some.page.value in
    let whole = ap (λ o. held_size (held_of o)) c.in-Some.is in
    omega (
      arith,
      whole,
      ap held_size
          (c.held_at-rest.ensures ∙ ap (λ x. first_of (row_drop c.search-spot.result.at (row_of_page x))) c.deref-in-Some-3.ensures),
      page_held-size t c.search-spot.result.at,
    )

pub path-preserved : goal.path-preserved
path-preserved g c =
    let cmp = g.K.Ord.cmp in
    let key = c.args.key.now in
    let s = c.behind-page.inside in
    let u = c.behind-page-in-Some.inside in
    let t = c.in-Some.page.value in
    let at = c.search-spot.result.at in
    let parting = c.in_ok-parting.parting in
    let nodes = c.deref-in-Some.ensures.value ∙ sym (row_nodes-row s.nodes.items (held_of s.high_page)) ∙ ap nodes_of (c.behind-page.view_is ∙ c.deref.ensures) in
    let same = sym (row_nodes-row u.nodes.items (held_of u.high_page)) ∙ ap nodes_of (c.behind-page-in-Some.view_is ∙ c.deref-in-Some-2.ensures) in
    let len : c.len.result ≡ page_length t = omega (arith, ap length same, c.len.ensures, u.nodes.ok.0, page_length-nodes t) in
    let is : held_of c.path.rest.now ≡ below t = ap held_of c.in-Some.is in
    let map = subst (λ (h : Held g.row.K.Denot g.row.D.Denot). IsMap cmp (held_pairs h)) is c.path.invariant.0 in
    let found = c.search-spot.ensures.found ∙ ap (place cmp key) nodes ∙ sym (page_place cmp key t) in
    let rest : held_of c.held_at-rest.result.now ≡ first_of (row_drop at (row_of_page t)) = c.held_at-rest.ensures ∙ ap (λ x. first_of (row_drop at (row_of_page x))) c.deref-in-Some-3.ensures in (
      subst (λ (h : Held g.row.K.Denot g.row.D.Denot). IsMap cmp (held_pairs h)) (sym rest) (page_held-map cmp t at map),
      λ cs f.
          subst (λ xs. PartingsFit cmp key (held_of c.args.held.now) xs) (sym (append_assoc c.path.partings.items (parting ∷ []) cs) ∙ ap (λ xs. xs ++ cs) (sym c.in_ok-push.ensures.items))
          (c.path.invariant.1 (parting ∷ cs) (subst (λ h. PartingsFit cmp key h (parting ∷ cs)) (sym is)
          (partings-more cmp key t at parting cs found (subst (λ n. PartsNodes n parting) len c.in_ok-parting.ensures.parts)
          (subst (λ n. parting_place n parting ≡ at) len c.in_ok-parting.ensures.place) (subst (λ h. PartingsFit cmp key h cs) rest f)))),
    )

pub returns : goal.returns
returns g c =
    record {
      fits =
          subst (λ xs. PartingsFit g.K.Ord.cmp c.args.key.now (held_of c.args.held.now) xs) (append-nil c.path.partings.items)
          (c.path.invariant.1 [] (subst (λ o. PartingsFit g.K.Ord.cmp c.args.key.now (held_of o) []) (sym c.in_default.is) tt));
    }
