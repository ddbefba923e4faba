use Rattle.std.proofs.Common.{ap, sym, ◌∙◌, arith}
use Rattle.merkle_tree_theory.specs.Lookup.{place_after}
use Rattle.merkle_tree_theory.proofs.PageOverGap.{place_after-none, behind_end, behind_other, behind_there}
use Rattle.merkle_search_tree.specs.Items.{bound_of}
use Rattle.merkle_search_tree.proofs.Absent.{none_else}
use Rattle.merkle_search_tree.proofs.spot.first_behind.Goals as goal

pub returns-in_default-clause-found : goal.returns-in_default-clause-found
returns-in_default-clause-found g c = let cmp = g.K.Ord.cmp in sym (ap (λ b. place_after cmp (bound_of b) c.args.nodes.now) (none_else _ c.in_default.not-Some) ∙ place_after-none cmp c.args.nodes.now)

pub returns-then-spot-nodes-clause-found : goal.returns-then-spot-nodes-clause-found
returns-then-spot-nodes-clause-found g c =
    let cmp = g.K.Ord.cmp in
    let es = c.args.nodes.now in
    sym (ap (λ b. place_after cmp (bound_of b) es) c.in-Some.is ∙ behind_end cmp c.in-Some.key.now es c.search-spot.result.at c.search-spot.ensures.found c.if-spot-nodes.true)

pub returns-then-spot-clause-found : goal.returns-then-spot-clause-found
returns-then-spot-clause-found g c =
    let cmp = g.K.Ord.cmp in
    let es = c.args.nodes.now in
    let spot = c.search-spot in
    let apart = c.if-spot-nodes.false in
    let within = spot.ensures.within in
    sym (ap (λ b. place_after cmp (bound_of b) es) c.in-Some.is
    ∙ behind_there cmp c.in-Some.key.now es spot.result.at spot.result.is_there spot.ensures.found spot.ensures.there g.met.K.Ord.total c.requires.ascending
    (omega (arith, apart, within)) c.if-spot.true)

pub returns-else-spot-clause-found : goal.returns-else-spot-clause-found
returns-else-spot-clause-found g c =
    let cmp = g.K.Ord.cmp in
    let es = c.args.nodes.now in
    let spot = c.search-spot in
    sym (ap (λ b. place_after cmp (bound_of b) es) c.in-Some.is ∙ behind_other cmp c.in-Some.key.now es spot.result.at spot.result.is_there spot.ensures.found spot.ensures.there c.if-spot.false)
