use Rattle.std.proofs.Common.{◌≡◌, ℕ, ◌<◌, List, ◌∷◌, [], ◌++◌, length, ap, sym, subst, ◌∙◌, arith, get_or}
use Rattle.std.proofs.lemmas.Bool.{eqb-true, eqb-false}
use Rattle.merkle_tree_theory.specs.Tree.{Node, Held, row, held_of}
use Rattle.merkle_tree_theory.specs.Page.{RowFalls, HeldFalls, held_in_order, held_pages}
use Rattle.merkle_search_tree.specs.Path.{rest_of, pages_left, from_first, behind_first, VisitFits, PathFits}
use Rattle.merkle_search_tree.specs.declared.path.Visit.{Visit}
use Rattle.merkle_search_tree.proofs.Paths.{rest_of-push, fits-more, fits-front, fits-last, first-rest, none-rest, pages_left-push, first-pages, none-pages}
use Rattle.merkle_tree_theory.proofs.FallingLevels.{at-falls, high-falls}
use Rattle.merkle_search_tree.proofs.path.pass.Goals as goal

-- the path below the last page still fits
front : {K D : Type 0} (cap cap' : ℕ) (old vs : List (Visit K D)) (v : Visit K D) → PathFits cap 0 old → old ≡ vs ++ v ∷ [] → cap' ≡ cap → PathFits cap' 0 vs
front cap cap' old vs v f e h = fits-more cap cap' (omega arith) 0 vs (fits-front cap 0 vs v (subst (PathFits cap 0) e f))

-- and so does the last page
last : {K D : Type 0} (cap cap' : ℕ) (old vs : List (Visit K D)) (v : Visit K D) → PathFits cap 0 old → old ≡ vs ++ v ∷ [] → cap' ≡ cap → VisitFits cap' (length vs) v
last cap cap' old vs v f e h = let g = fits-last cap 0 vs v (subst (PathFits cap 0) e f) in (g.0, g.1, omega (arith, g.2))

-- what a step gives, where it goes to the high page, and where it goes below the next node
nodes-high : {K D : Type 0} (old vs : List (Visit K D)) (v : Visit K D) (n : Node K D) (others : List (Node K D)) → old ≡ vs ++ v ∷ [] → v.nodes.now ≡ n ∷ others → length others ≡ 0
    → rest_of old ≡ n ∷ (held_in_order (held_of v.high_page.now) ++ rest_of vs)
nodes-high old vs v n others e f z =
    ap rest_of e ∙ rest_of-push vs v ∙ ap (λ es. from_first (row es (held_of v.high_page.now)) ++ rest_of vs) f ∙ ap (λ xs. n ∷ (xs ++ rest_of vs)) (none-rest others (held_of v.high_page.now) z)

pages-high : {K D : Type 0} (old vs : List (Visit K D)) (v : Visit K D) (n : Node K D) (others : List (Node K D)) → old ≡ vs ++ v ∷ [] → v.nodes.now ≡ n ∷ others → length others ≡ 0
    → pages_left old ≡ held_pages (held_of v.high_page.now) ++ pages_left vs
pages-high old vs v n others e f z =
    ap pages_left e ∙ pages_left-push vs v ∙ ap (λ es. behind_first (row es (held_of v.high_page.now)) ++ pages_left vs) f
    ∙ ap (λ xs. xs ++ pages_left vs) (none-pages others (held_of v.high_page.now) z)

nodes-next : {K D : Type 0} (old vs new : List (Visit K D)) (v : Visit K D) (n : Node K D) (others : List (Node K D)) (lt : Held K D) (d : Node K D) → old ≡ vs ++ v ∷ [] → v.nodes.now ≡ n ∷ others
    → 0 < length others → lt ≡ (get_or others 0 d).lt → rest_of new ≡ from_first (row others (held_of v.high_page.now)) ++ rest_of vs → rest_of old ≡ n ∷ (held_in_order lt ++ rest_of new)
nodes-next old vs new v n others lt d e f some q m =
    ap rest_of e ∙ rest_of-push vs v ∙ ap (λ es. from_first (row es (held_of v.high_page.now)) ++ rest_of vs) f
    ∙ ap (λ xs. n ∷ xs) (sym ((λ i. held_in_order (q i) ++ m i) ∙ first-rest others (held_of v.high_page.now) d (rest_of vs) some))

pages-next : {K D : Type 0} (old vs new : List (Visit K D)) (v : Visit K D) (n : Node K D) (others : List (Node K D)) (lt : Held K D) (d : Node K D) → old ≡ vs ++ v ∷ [] → v.nodes.now ≡ n ∷ others
    → 0 < length others → lt ≡ (get_or others 0 d).lt → pages_left new ≡ behind_first (row others (held_of v.high_page.now)) ++ pages_left vs → pages_left old ≡ held_pages lt ++ pages_left new
pages-next old vs new v n others lt d e f some q m =
    ap pages_left e ∙ pages_left-push vs v ∙ ap (λ es. behind_first (row es (held_of v.high_page.now)) ++ pages_left vs) f
    ∙ sym ((λ i. held_pages (q i) ++ m i) ∙ first-pages others (held_of v.high_page.now) d (pages_left vs) some)

pub unreachable-requires : goal.unreachable-requires
unreachable-requires g c =
    let l = last _ _ _ c.pop.new.self.items c.in_ok-visit.visit c.requires c.in_ok-visit.ensures.items c.pop.ensures.capacity in
    absurd (omega (arith, l.0, c.in-None.ensures.cases))

pub push-requires-clause-falls : goal.push-requires-clause-falls
push-requires-clause-falls g c =
    let v = c.in_ok-visit.visit in
    let l = last _ _ _ c.pop.new.self.items v c.requires c.in_ok-visit.ensures.items c.pop.ensures.capacity in
    (subst (λ (es : List (Node g.row.K.Denot g.row.D.Denot)). RowFalls v.level (row es (held_of v.high_page.now))) c.in-Some.ensures.cases.0 l.1).1

pub push-requires-clause-room : goal.push-requires-clause-room
push-requires-clause-room g c =
    let l = last _ _ _ c.pop.new.self.items c.in_ok-visit.visit c.requires c.in_ok-visit.ensures.items c.pop.ensures.capacity in
    omega (arith, l.2, c.pop.new.self.ok.0)

pub push-requires-clause-path_fits : goal.push-requires-clause-path_fits
push-requires-clause-path_fits g c = front _ _ _ c.pop.new.self.items c.in_ok-visit.visit c.requires c.in_ok-visit.ensures.items c.pop.ensures.capacity

pub returns-then-is_empty-clause-fits : goal.returns-then-is_empty-clause-fits
returns-then-is_empty-clause-fits g c = front _ _ _ c.pop.new.self.items c.in_ok-visit.visit c.requires c.in_ok-visit.ensures.items c.pop.ensures.capacity

pub returns-then-is_empty-clause-nodes : goal.returns-then-is_empty-clause-nodes
returns-then-is_empty-clause-nodes g c =
    nodes-high c.args.path.now.items c.pop.new.self.items c.in_ok-visit.visit c.in-Some.parts.0.now c.in-Some.parts.1.now c.in_ok-visit.ensures.items c.in-Some.ensures.cases.0
    (eqb-true (length c.in-Some.parts.1.now) 0 (sym c.is_empty.ensures ∙ c.if-is_empty.true))

pub returns-then-is_empty-clause-pages : goal.returns-then-is_empty-clause-pages
returns-then-is_empty-clause-pages g c =
    pages-high c.args.path.now.items c.pop.new.self.items c.in_ok-visit.visit c.in-Some.parts.0.now c.in-Some.parts.1.now c.in_ok-visit.ensures.items c.in-Some.ensures.cases.0
    (eqb-true (length c.in-Some.parts.1.now) 0 (sym c.is_empty.ensures ∙ c.if-is_empty.true))

pub returns-then-is_empty-clause-room : goal.returns-then-is_empty-clause-room
returns-then-is_empty-clause-room g c =
    let v = c.in_ok-visit.visit in
    let l = last _ _ _ c.pop.new.self.items v c.requires c.in_ok-visit.ensures.items c.pop.ensures.capacity in
    (v.level, high-falls v.level v.nodes.now (held_of v.high_page.now) l.1, omega (arith, l.2, c.pop.new.self.ok.0))

pub returns-clause-nodes : goal.returns-clause-nodes
returns-clause-nodes g c =
    let others = c.in-Some.parts.1.now in
    let ne = eqb-false (length others) 0 (sym c.is_empty.ensures ∙ c.if-is_empty.false) in
    let some : 0 < length others = omega (arith, ne) in
    nodes-next c.args.path.now.items c.pop.new.self.items c.push.new.path.items c.in_ok-visit.visit c.in-Some.parts.0.now others (held_of c.next.inside.lt_pointer) c.index-others-0.result
    c.in_ok-visit.ensures.items c.in-Some.ensures.cases.0 some (ap (λ (n : Node g.row.K.Denot g.row.D.Denot). n.lt) (c.next.view_is ∙ c.index-others-0.is)) c.push.ensures.nodes

pub returns-clause-pages : goal.returns-clause-pages
returns-clause-pages g c =
    let others = c.in-Some.parts.1.now in
    let ne = eqb-false (length others) 0 (sym c.is_empty.ensures ∙ c.if-is_empty.false) in
    let some : 0 < length others = omega (arith, ne) in
    pages-next c.args.path.now.items c.pop.new.self.items c.push.new.path.items c.in_ok-visit.visit c.in-Some.parts.0.now others (held_of c.next.inside.lt_pointer) c.index-others-0.result
    c.in_ok-visit.ensures.items c.in-Some.ensures.cases.0 some (ap (λ (n : Node g.row.K.Denot g.row.D.Denot). n.lt) (c.next.view_is ∙ c.index-others-0.is)) c.push.ensures.pages

pub returns-clause-room : goal.returns-clause-room
returns-clause-room g c =
    let v = c.in_ok-visit.visit in
    let others = c.in-Some.parts.1.now in
    let l = last _ _ _ c.pop.new.self.items v c.requires c.in_ok-visit.ensures.items c.pop.ensures.capacity in
    let rows : RowFalls v.level (row others (held_of v.high_page.now)) =
    (subst (λ (es : List (Node g.row.K.Denot g.row.D.Denot)). RowFalls v.level (row es (held_of v.high_page.now))) c.in-Some.ensures.cases.0 l.1).1 in
    let ne = eqb-false (length others) 0 (sym c.is_empty.ensures ∙ c.if-is_empty.false) in
    let some : 0 < length others = omega (arith, ne) in
    let is = c.next.view_is ∙ c.index-others-0.is in (
      v.level,
      subst (λ (n : Node g.row.K.Denot g.row.D.Denot). HeldFalls v.level n.lt) (sym is)
          (at-falls v.level others (held_of v.high_page.now) 0 c.index-others-0.result some rows),
      c.push.ensures.room_left,
    )
