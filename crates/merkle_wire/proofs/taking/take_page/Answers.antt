use Rattle.std.proofs.Common.{◌≡◌, ◌++◌, ◌∷◌, [], List, refl, sym, subst, ◌∙◌, append-nil, inl, inr}
use Rattle.merkle_search_tree.proofs.SameItems.{same_gap-own}
use Rattle.merkle_tree_theory.specs.Gap.{Gap}
use Rattle.merkle_wire.specs.Underway.{Found}
use Rattle.merkle_wire.specs.Gaps.{owned_gap}
use Rattle.merkle_wire.specs.ItsRows.{ForRowsOf}
use Rattle.merkle_wire.specs.Taking.{HasNodes, IsPageTaken}
use Rattle.merkle_wire.proofs.TakenMore.{page_taken}
use Rattle.merkle_wire.proofs.taking.take_page.Given.{Over}
use Rattle.merkle_wire.proofs.taking.take_page.Goals as goal
use Rattle.merkle_wire.proofs.taking.take_page.Goals.{In_ok-take_pages}
use Rattle.merkle_wire.specs.Steps.{below_keys, digests_beside}
use Rattle.merkle_wire.specs.Outlines.{page_told}
use Rattle.merkle_wire.proofs.TakenGaps.{AreNewNodes}

-- the page is taken once its nodes are noted or added
taken : (g : Over) (c : In_ok-take_pages g) → g.T.KeptTree.is_sound c.take_pages.new.tree → (nodes : List (Gap g.row.K.Denot)) (after : Found g.row.K.Denot g.row.V.Denot)
    → ForRowsOf g.H.RowHasher.laws (g.T.KeptTree.kept c.args.tree.now).digests
    (λ local. AreNewNodes g.H.RowHasher.laws local (owned_gap c.args.gap) (below_keys c.args.page.now.below.items) c.args.page.now.digest nodes)
    → after ≡ record c.take_pages.new.work { nodes = c.take_pages.new.work.nodes ++ nodes }
    → ForRowsOf g.H.RowHasher.laws (g.T.KeptTree.kept c.args.tree.now).digests
    (λ local. IsPageTaken g.H.RowHasher.laws local (owned_gap c.args.gap)
    (page_told c.args.page.now.digest (below_keys c.args.page.now.below.items) (digests_beside c.args.page.now.below.items c.args.page.now.last)) c.args.work.now after)
taken g c sound nodes after own adds = λ rows of.
    let added = (rw c.deref.ensures.value at (c.in_ok-take_pages.ensures.added sound)) rows of in
    (added.0, nodes, added.1, own rows of, page_taken c.args.work.now c.take_pages.new.work after added.0 nodes added.2 adds)

pub returns-then-branch-clause-taken : goal.returns-then-branch-clause-taken
returns-then-branch-clause-taken g c = λ sound.
    let laws = g.H.RowHasher.laws in
    let page = c.args.page.now in
    let work = c.take_pages.new.work in
    let before = c.has_nodes.ensures.steady sound in
    let there = subst (λ t. ForRowsOf laws t.digests (λ local. HasNodes laws local (below_keys page.below.items) page.digest)) (c.take_pages.ensures.kept before)
    (rw c.deref-2.ensures.value at (c.in_ok-has_nodes.ensures.there sound c.if-branch.true)) in
    taken g (goal.at.returns-then-branch-clause-taken g c).In_ok-take_pages before [] c.note_same.new.self (λ rows of. inl (refl, there rows of))
    (c.note_same.ensures ∙ (λ i. record work { nodes = sym (append-nil work.nodes) i }))

pub returns-clause-taken : goal.returns-clause-taken
returns-clause-taken g c = λ sound.
    let laws = g.H.RowHasher.laws in
    let page = c.args.page.now in
    let before = c.has_nodes.ensures.steady sound in
    let own = owned_gap c.args.gap in
    let lacked = subst (λ t. ForRowsOf laws t.digests (λ local. ¬ HasNodes laws local (below_keys page.below.items) page.digest)) (c.take_pages.ensures.kept before)
    (rw c.deref-2.ensures.value at (c.in_ok-has_nodes.ensures.lacked sound c.if-branch.false)) in
    taken g (goal.at.returns-clause-taken g c).In_ok-take_pages before (own ∷ []) c.add_nodes.new.self
    (λ rows of. inr (rw g.met.H.RowHasher.laws_are (own, refl, same_gap-own g.K.Ord.cmp g.met.K.Ord.total own), lacked rows of)) c.in_ok-add_nodes.ensures
