use Rattle.std.proofs.Common.{◌≡◌, ◌≢◌, ℕ, ◌+◌, ◌≤◌, List, None, true, false, ap, sym, subst, ◌∙◌, arith}
use Rattle.std.specs.Int.NonZero.{non_zero_u8_get}
use Rattle.key_order.specs.Map.{has_key, del, entry}
use Rattle.key_order.proofs.Dels.{del-absent}
use Rattle.merkle_tree_theory.specs.Tree.{Tree}
use Rattle.merkle_tree_theory.specs.State.{State, map_of}
use Rattle.merkle_tree_theory.specs.Page.{pairs, level}
use Rattle.merkle_tree_theory.specs.Cache.{uncached_pages}
use Rattle.merkle_tree_theory.specs.Sound.{IsSound}
use Rattle.merkle_tree_theory.specs.Remove.{root_del}
use Rattle.merkle_tree_theory.proofs.Seams.{at_some, at_none}
use Rattle.merkle_tree_theory.proofs.RemovalState.{remove-pairs, remove-entry, remove-sound, remove-few, hashed-lacks, remove-free}
use Rattle.merkle_search_tree.proofs.Absent.{none_else}
use Rattle.merkle_search_tree.proofs.tree.MerkleSearchTree.remove.Goals as goal

pub returns-in_err-entry-clause-succeeds_absent : goal.returns-in_err-entry-clause-succeeds_absent
returns-in_err-entry-clause-succeeds_absent g c =
    let s = c.self.inside in
    let cmp = g.K.Ord.cmp in
    let k = c.args.key.now in
    λ e.
    let never : false ≡ true = c.in_err-entry.ensures.succeeds
    (remove-free _ g.met.K.Ord.total _ _ _ c.self.invariant k (ap (λ (v : State g.row.K.Denot g.row.H.Denot). has_key cmp (map_of v) k) c.self.view_is ∙ e)) in
    absurd (cc)

pub returns-in_default-clause-map : goal.returns-in_default-clause-map
returns-in_default-clause-map g c =
    let s = c.self.inside in
    let cmp = g.K.Ord.cmp in
    let k = c.args.key.now in
    let same : c.remove_from_root.new.self ≡ s.root = at_none _ _ _ (none_else _ c.in_default.not-Some) c.in_ok-entry.ensures.done in
    let none = sym (remove-entry _ g.met.K.Ord.total _ _ _ c.self.invariant k) ∙ sym c.in_ok-entry.ensures.found ∙ none_else _ c.in_default.not-Some in
    ap pairs same ∙ sym (del-absent cmp k (pairs s.root) none) ∙ ap (λ (v : State g.row.K.Denot g.row.H.Denot). del cmp (map_of v) k) c.self.view_is

pub returns-in_default-clause-found : goal.returns-in_default-clause-found
returns-in_default-clause-found g c =
    let s = c.self.inside in
    let cmp = g.K.Ord.cmp in
    let k = c.args.key.now in
    sym (none_else _ c.in_default.not-Some) ∙ c.in_ok-entry.ensures.found ∙ remove-entry _ g.met.K.Ord.total _ _ _ c.self.invariant k
    ∙ ap (λ (v : State g.row.K.Denot g.row.H.Denot). entry cmp (map_of v) k) c.self.view_is

pub returns-in_default-clause-few_more : goal.returns-in_default-clause-few_more
returns-in_default-clause-few_more g c =
    let s = c.self.inside in
    let same : c.remove_from_root.new.self ≡ s.root = at_none _ _ _ (none_else _ c.in_default.not-Some) c.in_ok-entry.ensures.done in
    subst (λ (v : State g.row.K.Denot g.row.H.Denot). uncached_pages c.remove_from_root.new.self ≤ uncached_pages v.root + (level v.root + 1)) c.self.view_is
    (subst (λ (t : Tree g.row.K.Denot (List ℕ)). uncached_pages t ≤ uncached_pages s.root + (level s.root + 1)) (sym same) (omega arith))

pub returns-in_default-clause-few : goal.returns-in_default-clause-few
returns-in_default-clause-few g c =
    let s = c.self.inside in
    let cmp = g.K.Ord.cmp in
    let k = c.args.key.now in
    let same : c.remove_from_root.new.self ≡ s.root = at_none _ _ _ (none_else _ c.in_default.not-Some) c.in_ok-entry.ensures.done in
    subst (λ (v : State g.row.K.Denot g.row.H.Denot). v.root_hash ≢ None → uncached_pages c.remove_from_root.new.self ≤ level v.root + 1) c.self.view_is
    (λ ne. subst (λ (t : Tree g.row.K.Denot (List ℕ)). uncached_pages t ≤ level s.root + 1) (sym same) (omega (arith, hashed-lacks _ g.met.K.Ord.total _ _ _ c.self.invariant k ne)))

pub invariant_of-self-2 : goal.invariant_of-self-2
invariant_of-self-2 g c =
    let s = c.self.inside in
    let cmp = g.K.Ord.cmp in
    let k = c.args.key.now in
    let view : State g.row.K.Denot g.row.H.Denot = record { hasher = s.hasher; base = non_zero_u8_get s.level_base; format = s.page_format; root = s.root; root_hash = s.root_hash } in
    let done : c.remove_from_root.new.self ≡ root_del cmp k s.root = at_some _ _ _ c.in-Some.entry c.in-Some.is c.in_ok-entry.ensures.done in
    subst (λ (t : Tree g.row.K.Denot (List ℕ)). IsSound cmp g.H.Hasher.digest_of g.K.KeyBytes.bytes_of (record view { root = t; root_hash = None })) (sym done)
    (remove-sound _ g.met.K.Ord.total _ _ _ c.self.invariant k)

pub returns-clause-map : goal.returns-clause-map
returns-clause-map g c =
    let s = c.self.inside in
    let cmp = g.K.Ord.cmp in
    let k = c.args.key.now in
    let done : c.remove_from_root.new.self ≡ root_del cmp k s.root = at_some _ _ _ c.in-Some.entry c.in-Some.is c.in_ok-entry.ensures.done in
    ap pairs done ∙ remove-pairs _ g.met.K.Ord.total _ _ _ c.self.invariant k ∙ ap (λ (v : State g.row.K.Denot g.row.H.Denot). del cmp (map_of v) k) c.self.view_is

pub returns-clause-found : goal.returns-clause-found
returns-clause-found g c =
    let s = c.self.inside in
    let cmp = g.K.Ord.cmp in
    let k = c.args.key.now in
    sym c.in-Some.is ∙ c.in_ok-entry.ensures.found ∙ remove-entry _ g.met.K.Ord.total _ _ _ c.self.invariant k ∙ ap (λ (v : State g.row.K.Denot g.row.H.Denot). entry cmp (map_of v) k) c.self.view_is

pub returns-clause-few_more : goal.returns-clause-few_more
returns-clause-few_more g c =
    let s = c.self.inside in
    let cmp = g.K.Ord.cmp in
    let k = c.args.key.now in
    let done : c.remove_from_root.new.self ≡ root_del cmp k s.root = at_some _ _ _ c.in-Some.entry c.in-Some.is c.in_ok-entry.ensures.done in
    subst (λ (v : State g.row.K.Denot g.row.H.Denot). uncached_pages c.remove_from_root.new.self ≤ uncached_pages v.root + (level v.root + 1)) c.self.view_is
    (subst (λ (t : Tree g.row.K.Denot (List ℕ)). uncached_pages t ≤ uncached_pages s.root + (level s.root + 1)) (sym done) (remove-few _ g.met.K.Ord.total _ _ _ c.self.invariant k))

pub returns-clause-few : goal.returns-clause-few
returns-clause-few g c =
    let s = c.self.inside in
    let cmp = g.K.Ord.cmp in
    let k = c.args.key.now in
    let done : c.remove_from_root.new.self ≡ root_del cmp k s.root = at_some _ _ _ c.in-Some.entry c.in-Some.is c.in_ok-entry.ensures.done in
    subst (λ (v : State g.row.K.Denot g.row.H.Denot). v.root_hash ≢ None → uncached_pages c.remove_from_root.new.self ≤ level v.root + 1) c.self.view_is
    (λ ne. subst (λ (t : Tree g.row.K.Denot (List ℕ)). uncached_pages t ≤ level s.root + 1) (sym done)
    (omega (arith, remove-few _ g.met.K.Ord.total _ _ _ c.self.invariant k, hashed-lacks _ g.met.K.Ord.total _ _ _ c.self.invariant k ne)))

pub remove_from_root-requires : goal.remove_from_root-requires
remove_from_root-requires g c = record { ascending = c.self.invariant.ascending }
