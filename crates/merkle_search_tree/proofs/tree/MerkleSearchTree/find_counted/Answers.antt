use Rattle.std.proofs.Common.{ℕ, ◌^◌, ◌<◌, ◌≤◌, length, sym, ap, subst, ◌∙◌}
use Rattle.merkle_tree_theory.specs.Page.{nodes_of}
use Rattle.merkle_tree_theory.specs.Search.{NodesAscend, ComparesByHalves}
use Rattle.merkle_tree_theory.specs.Upsert.{place}
use Rattle.merkle_tree_theory.specs.State.{State}
use Rattle.merkle_tree_theory.proofs.Search.{page-ascends}
use Rattle.merkle_search_tree.proofs.tree.MerkleSearchTree.find_counted.Goals as goal

pub search-spot-requires : goal.search-spot-requires
search-spot-requires g c = record { ascending = subst (NodesAscend g.K.Ord.cmp) (sym c.nodes.ensures) (page-ascends g.K.Ord.cmp c.self.inside.root c.self.invariant.ascending) }

pub returns-clause-place : goal.returns-clause-place
returns-clause-place g c =
    c.search-spot.ensures.found ∙ ap (place g.K.Ord.cmp c.args.key.now) c.nodes.ensures
    ∙ ap (λ (s : State g.row.K.Denot g.row.H.Denot). place g.K.Ord.cmp c.args.key.now (nodes_of s.root)) c.self.view_is

pub returns-clause-counted : goal.returns-clause-counted
returns-clause-counted g c =
    subst (ComparesByHalves g.K.Ord.cmp c.args.key.now c.search-spot.result.compared)
    (c.nodes.ensures ∙ ap (λ (s : State g.row.K.Denot g.row.H.Denot). nodes_of s.root) c.self.view_is) c.search-spot.ensures.counted

pub returns-clause-few : goal.returns-clause-few
returns-clause-few g c =
    subst (λ n. (digits : ℕ) → n < 2 ^ digits → c.search-spot.result.compared ≤ digits)
    (ap length c.nodes.ensures ∙ ap (λ (s : State g.row.K.Denot g.row.H.Denot). length (nodes_of s.root)) c.self.view_is) c.search-spot.ensures.few
