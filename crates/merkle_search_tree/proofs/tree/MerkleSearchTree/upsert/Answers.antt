use Rattle.std.proofs.Common.{◌≡◌, ℕ, ◌+◌, ◌≤◌, List, true, false, None, ap, sym, subst, ◌∙◌, arith}
use Rattle.std.specs.Int.NonZero.{non_zero_u8_get}
use Rattle.merkle_digest.specs.Level.{level_of}
use Rattle.merkle_tree_theory.specs.Tree.{Tree}
use Rattle.merkle_tree_theory.specs.State.{State, map_of}
use Rattle.merkle_tree_theory.specs.Page.{pairs, level}
use Rattle.merkle_tree_theory.specs.Cache.{uncached_pages, KeyUncached}
use Rattle.merkle_tree_theory.specs.Sound.{IsSound}
use Rattle.key_order.specs.Map.{set, has_key}
use Rattle.merkle_tree_theory.specs.Upsert.{tree_set}
use Rattle.merkle_tree_theory.proofs.UpsertState.{upsert-pairs, upsert-sound, upsert-dropped, upsert-few, upsert-finds, none_of_hashed}
use Rattle.merkle_search_tree.proofs.tree.MerkleSearchTree.upsert.Goals as goal

pub returns-in_err-set-clause-succeeds : goal.returns-in_err-set-clause-succeeds
returns-in_err-set-clause-succeeds g c =
    let s = c.self.inside in
    let at = sym (c.level-key_level.ensures ∙ ap (λ h. level_of h (non_zero_u8_get s.level_base)) c.hash-2.ensures) in
    λ e.
    let there : has_key g.K.Ord.cmp (pairs s.root) c.args.key ≡ true = ap (λ (v : State g.row.K.Denot g.row.H.Denot). has_key g.K.Ord.cmp (map_of v) c.args.key) c.self.view_is ∙ e in
    let finds = upsert-finds _ g.met.K.Ord.total _ g.met.K.Ord.matches_eq _ g.met.H.Hasher-1.respects_eq _ _ c.self.invariant _ c.args.key c.new-digest.result at there in
    let never : true ≡ false = sym finds ∙ c.in_err-set.ensures.absent in
    absurd (cc)

pub invariant_of-self-2 : goal.invariant_of-self-2
invariant_of-self-2 g c =
    let s = c.self.inside in
    let view : State g.row.K.Denot g.row.H.Denot = record { hasher = s.hasher; base = non_zero_u8_get s.level_base; format = s.page_format; root = s.root; root_hash = s.root_hash } in
    let at = sym (c.level-key_level.ensures ∙ ap (λ h. level_of h (non_zero_u8_get s.level_base)) c.hash-2.ensures) in
    subst (λ (t : Tree g.row.K.Denot (List ℕ)). IsSound g.K.Ord.cmp g.H.Hasher-1.digest_of g.K.KeyBytes.bytes_of (record view { root = t; root_hash = None })) (sym c.in_ok-set.ensures.done)
    (upsert-sound _ g.met.K.Ord.total _ g.met.K.Ord.matches_eq _ g.met.H.Hasher-1.respects_eq _ _ c.self.invariant _ c.args.key c.new-digest.result at)

pub returns-clause-set : goal.returns-clause-set
returns-clause-set g c =
    let s = c.self.inside in
    let at = sym (c.level-key_level.ensures ∙ ap (λ h. level_of h (non_zero_u8_get s.level_base)) c.hash-2.ensures) in
    ap pairs c.in_ok-set.ensures.done
    ∙ upsert-pairs _ g.met.K.Ord.total _ g.met.K.Ord.matches_eq _ g.met.H.Hasher-1.respects_eq _ _ c.self.invariant _ c.args.key c.new-digest.result at
    ∙ ap (set g.K.Ord.cmp (pairs s.root) c.args.key) (c.new-digest.ensures ∙ c.hash.ensures)
    ∙ ap (λ (v : State g.row.K.Denot g.row.H.Denot). set g.K.Ord.cmp (map_of v) c.args.key (g.H.Hasher-2.digest_of v.hasher c.args.value.now)) c.self.view_is

pub returns-clause-dropped : goal.returns-clause-dropped
returns-clause-dropped g c =
    let s = c.self.inside in
    let at = sym (c.level-key_level.ensures ∙ ap (λ h. level_of h (non_zero_u8_get s.level_base)) c.hash-2.ensures) in
    subst (KeyUncached g.K.Ord.cmp c.args.key) (sym c.in_ok-set.ensures.done)
    (upsert-dropped _ g.met.K.Ord.total _ g.met.K.Ord.matches_eq _ g.met.H.Hasher-1.respects_eq _ _ c.self.invariant _ c.args.key c.new-digest.result at)

pub returns-clause-few_more : goal.returns-clause-few_more
returns-clause-few_more g c =
    let s = c.self.inside in
    let lev = c.level-key_level.ensures ∙ ap (λ h. level_of h (non_zero_u8_get s.level_base)) c.hash-2.ensures in
    let few = upsert-few _ g.met.K.Ord.total _ g.met.K.Ord.matches_eq _ g.met.H.Hasher-1.respects_eq _ _ c.self.invariant _ c.args.key c.new-digest.result (sym lev) in
    subst (λ (v : State g.row.K.Denot g.row.H.Denot). uncached_pages c.set.new.self ≤ uncached_pages v.root +
    (level c.set.new.self + level_of (g.H.Hasher-1.digest_of v.hasher c.args.key) v.base + 1)) c.self.view_is
    (subst (λ (t : Tree g.row.K.Denot (List ℕ)). uncached_pages t ≤ uncached_pages s.root +
    (level t + level_of (g.H.Hasher-1.digest_of s.hasher c.args.key) (non_zero_u8_get s.level_base) + 1)) (sym c.in_ok-set.ensures.done)
    (subst (λ (m : ℕ). uncached_pages (tree_set g.K.Ord.cmp c.level-key_level.result c.args.key c.new-digest.result s.root) ≤ uncached_pages s.root +
    (level (tree_set g.K.Ord.cmp c.level-key_level.result c.args.key c.new-digest.result s.root) + m + 1)) lev few))

pub returns-clause-few : goal.returns-clause-few
returns-clause-few g c =
    let s = c.self.inside in
    let lev = c.level-key_level.ensures ∙ ap (λ h. level_of h (non_zero_u8_get s.level_base)) c.hash-2.ensures in
    let few = upsert-few _ g.met.K.Ord.total _ g.met.K.Ord.matches_eq _ g.met.H.Hasher-1.respects_eq _ _ c.self.invariant _ c.args.key c.new-digest.result (sym lev) in
    let few_more = subst (λ (v : State g.row.K.Denot g.row.H.Denot). uncached_pages c.set.new.self ≤ uncached_pages v.root +
    (level c.set.new.self + level_of (g.H.Hasher-1.digest_of v.hasher c.args.key) v.base + 1)) c.self.view_is
    (subst (λ (t : Tree g.row.K.Denot (List ℕ)). uncached_pages t ≤ uncached_pages s.root +
    (level t + level_of (g.H.Hasher-1.digest_of s.hasher c.args.key) (non_zero_u8_get s.level_base) + 1)) (sym c.in_ok-set.ensures.done)
    (subst (λ (m : ℕ). uncached_pages (tree_set g.K.Ord.cmp c.level-key_level.result c.args.key c.new-digest.result s.root) ≤ uncached_pages s.root +
    (level (tree_set g.K.Ord.cmp c.level-key_level.result c.args.key c.new-digest.result s.root) + m + 1)) lev few)) in
    let sound = subst (IsSound g.K.Ord.cmp g.H.Hasher-1.digest_of g.K.KeyBytes.bytes_of) c.self.view_is c.self.invariant in
    λ ne. omega (arith, few_more, none_of_hashed c.args.self.now.format g.K.KeyBytes.bytes_of c.args.self.now.root c.args.self.now.root_hash sound.root_hash_holds sound.caches ne)
