use Rattle.std.proofs.Common.{◌≡◌, ℕ, ◌+◌, ◌≤◌, List, [], ◌∷◌, set as list_set, sym, ◌∙◌, ap, subst}
use Rattle.std.specs.List.{insert}
use Rattle.std.specs.Ordering.{is_eq}
use Rattle.std.specs.Cmp.{tied_itself, tied_back}
use Rattle.merkle_digest.specs.Level.{level_of}
use Rattle.merkle_tree_theory.specs.Cache.{uncached_pages}
use Rattle.merkle_tree_theory.specs.Page.{level}
use Rattle.key_order.specs.Join.{IsJoin}
use Rattle.key_order.specs.Map.{set}
use Rattle.key_order.specs.Places.{IsPlaceOf, IsGapFor}
use Rattle.merkle_replica.proofs.TreeFollowsRows.{kept_set}
use Rattle.merkle_replica.proofs.Searches.{set_there, set_new, joins_there, joins_new, went}
use Rattle.merkle_replica.proofs.replica.Replica.put.Goals as goal

pub invariant_of-self-in-Ok-1 : goal.invariant_of-self-in-Ok-1
invariant_of-self-in-Ok-1 g c =
    let rows = c.self.inside.rows.items in
    let place : IsPlaceOf g.K.Ord.cmp c.args.key rows c.in-Ok.at = rw (← c.deref.ensures.value) c.in-Ok.ensures.found in
    kept_set g.K.Ord.cmp g.H.Hasher-2.digest_of g.met.K.Ord.total rows _ c.self.inside.tree c.upsert.new.self c.args.key c.args.key c.in_ok-stored-in-Ok.stored
    (set_there g.K.Ord.cmp g.met.K.Ord.total rows c.in-Ok.at c.index_mut.result.now c.args.key c.in_ok-stored-in-Ok.stored c.self.invariant.ascending place c.index_mut.ensures.value)
    (went c.upsert.result (sym c.is_err.ensures.value ∙ c.if-is_err.false) c.upsert.ensures.set)
    c.upsert.ensures.settings.0 (tied_itself g.met.K.Ord.total c.args.key) c.self.invariant

pub invariant_of-self-in-Err : goal.invariant_of-self-in-Err
invariant_of-self-in-Err g c =
    let rows = c.self.inside.rows.items in
    let gap : IsGapFor g.K.Ord.cmp c.args.key rows c.in-Err.at = rw (← c.deref.ensures.value) c.in-Err.ensures.absent in
    kept_set g.K.Ord.cmp g.H.Hasher-2.digest_of g.met.K.Ord.total rows _ c.self.inside.tree c.upsert-in-Err.new.self c.in_ok-own-in-Err.own c.args.key c.args.value
    (c.in-Ok-insert.ensures.items ∙
    (ap (λ xs. insert xs c.in-Err.at (c.args.key, c.args.value)) c.reserve.ensures.items ∙ set_new g.K.Ord.cmp g.met.K.Ord.total rows c.in-Err.at c.args.key c.args.value gap))
    (went c.upsert-in-Err.result (sym c.is_err-in-Err.ensures.value ∙ c.if-is_err-2.false) c.upsert-in-Err.ensures.set)
    c.upsert-in-Err.ensures.settings.0
    (tied_back g.met.K.Ord.total c.args.key c.in_ok-own-in-Err.own
    (g.met.K.SameClone.clone_is_same c.args.key c.in_ok-own-in-Err.own c.in_ok-own-in-Err.ensures.cases)) c.self.invariant

pub returns-else-is_err-clause-joined : goal.returns-else-is_err-clause-joined
returns-else-is_err-clause-joined g c =
    let rows = c.self.inside.rows.items in
    let place : IsPlaceOf g.K.Ord.cmp c.args.key rows c.in-Ok.at = rw (← c.deref.ensures.value) c.in-Ok.ensures.found in
    subst (λ r. IsJoin g.K.Ord.cmp g.V.PartialEq.eq g.V.Join.join_of r.rows ((c.args.key, c.args.value) ∷ [])
    (list_set rows c.in-Ok.at (c.index_mut.result.now.0, c.in_ok-stored-in-Ok.stored))) c.self.view_is
    (subst (IsJoin g.K.Ord.cmp g.V.PartialEq.eq g.V.Join.join_of rows ((c.args.key, c.args.value) ∷ []))
    (sym (set_there g.K.Ord.cmp g.met.K.Ord.total rows c.in-Ok.at c.index_mut.result.now c.args.key c.in_ok-stored-in-Ok.stored c.self.invariant.ascending place c.index_mut.ensures.value))
    (joins_there g.K.Ord.cmp g.met.K.Ord.total g.V.PartialEq.eq g.met.V.Eq.laws g.V.Join.join_of g.met.V.Join.joining rows c.in-Ok.at c.index.result.now
    c.args.key c.args.value c.in_ok-stored-in-Ok.stored c.self.invariant.ascending place c.index.ensures c.in_ok-stored-in-Ok.ensures))

pub returns-in-Ok-insert-clause-joined : goal.returns-in-Ok-insert-clause-joined
returns-in-Ok-insert-clause-joined g c =
    let rows = c.self.inside.rows.items in
    let gap : IsGapFor g.K.Ord.cmp c.args.key rows c.in-Err.at = rw (← c.deref.ensures.value) c.in-Err.ensures.absent in
    let now : c.insert.new.self.items ≡ set g.K.Ord.cmp rows c.args.key c.args.value = c.in-Ok-insert.ensures.items
    ∙ (ap (λ xs. insert xs c.in-Err.at (c.args.key, c.args.value)) c.reserve.ensures.items
    ∙ set_new g.K.Ord.cmp g.met.K.Ord.total rows c.in-Err.at c.args.key c.args.value gap) in
    subst (λ r. IsJoin g.K.Ord.cmp g.V.PartialEq.eq g.V.Join.join_of r.rows ((c.args.key, c.args.value) ∷ []) c.insert.new.self.items) c.self.view_is
    (subst (IsJoin g.K.Ord.cmp g.V.PartialEq.eq g.V.Join.join_of rows ((c.args.key, c.args.value) ∷ [])) (sym now)
    (joins_new g.K.Ord.cmp g.met.K.Ord.total g.V.PartialEq.eq g.met.V.Eq.laws g.V.Join.join_of g.met.V.Join.joining rows c.in-Err.at c.args.key c.args.value c.self.invariant.ascending gap))

pub returns-else-is_err-clause-few_more : goal.returns-else-is_err-clause-few_more
returns-else-is_err-clause-few_more g c =
    subst (λ r. uncached_pages c.upsert.new.self.root ≤ uncached_pages r.tree.root +
    (level c.upsert.new.self.root + level_of (g.H.Hasher-1.digest_of r.tree.hasher c.args.key) r.tree.base + 1)) c.self.view_is
    (went c.upsert.result (sym c.is_err.ensures.value ∙ c.if-is_err.false) c.upsert.ensures.few_more)

pub returns-in-Ok-insert-clause-few_more : goal.returns-in-Ok-insert-clause-few_more
returns-in-Ok-insert-clause-few_more g c =
    let tree = c.self.inside.tree in
    let root = c.upsert-in-Err.new.self.root in
    let own = c.in_ok-own-in-Err.own in
    let same = g.met.H.Hasher-1.respects_eq tree.hasher c.args.key own
    (g.met.K.Ord.matches_eq c.args.key own ∙ ap is_eq (g.met.K.SameClone.clone_is_same c.args.key own c.in_ok-own-in-Err.ensures.cases)) in
    subst (λ r. uncached_pages root ≤ uncached_pages r.tree.root + (level root + level_of (g.H.Hasher-1.digest_of r.tree.hasher c.args.key) r.tree.base + 1)) c.self.view_is
    (subst (λ (digest : List ℕ). uncached_pages root ≤ uncached_pages tree.root + (level root + level_of digest tree.base + 1)) (sym same)
    (went c.upsert-in-Err.result (sym c.is_err-in-Err.ensures.value ∙ c.if-is_err-2.false) c.upsert-in-Err.ensures.few_more))
