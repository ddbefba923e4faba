use Rattle.std.proofs.Common.{◌≡◌, ◌-◌, suc, [], ◌∷◌, ◌++◌, length, reverse, true, false, set as list_set, ap, sym, subst, ◌∙◌, arith}
use Rattle.std.specs.Cmp.{tied_itself, tied_back}
use Rattle.key_order.specs.Join.{IsJoin}
use Rattle.key_order.specs.Map.{IsMap}
use Rattle.merkle_replica.specs.Contents.{IsKept}
use Rattle.merkle_replica.specs.Parted.{whole, first_is}
use Rattle.merkle_replica.proofs.TreeFollowsRows.{kept_set}
use Rattle.merkle_replica.proofs.Searches.{set_there, set_new, joins_there, joins_new, went}
use Rattle.merkle_replica.proofs.RowJoins.{at-next, at-gap, next-some}
use Rattle.merkle_replica.proofs.merge.join_here.Goals as goal

pub returns-then-is_next-clause-kept : goal.returns-then-is_next-clause-kept
returns-then-is_next-clause-kept g c =
    let cmp = g.K.Ord.cmp in
    let o = g.met.K.Ord.total in
    let F = c.pass.new.front.items in
    let B = c.pass.new.back.items in
    let key = c.args.key in
    let n = c.len-at.result - 1 in
    let x = c.index_mut.result.now in
    let is : first_is cmp key (reverse B) ≡ true = ap (λ xs. first_is cmp key (reverse xs)) (sym c.deref.ensures.value) ∙ sym c.is_next.ensures ∙ c.if-is_next.true in
    let e : suc n ≡ length B = omega (arith, next-some cmp o key B is, c.len-at.ensures, c.pass.new.back.ok.0) in
    let kept : IsKept cmp g.H.Hasher-2.digest_of (record { rows = whole F B; tree = c.args.tree.now }) =
    subst (λ w. IsKept cmp g.H.Hasher-2.digest_of (record { rows = w; tree = c.args.tree.now })) (sym c.pass.ensures.whole) c.requires.kept in
    let p = at-next cmp o F B n key x x c.in_ok-stored.stored e c.index_mut.ensures.value is in
    kept_set cmp g.H.Hasher-2.digest_of o (whole F B) _ c.args.tree.now c.upsert.new.self key key c.in_ok-stored.stored
    (p.2 ∙ set_there cmp o (whole F B) (length F) x key c.in_ok-stored.stored kept.ascending p.0 p.1)
    (went c.upsert.result (sym c.is_err.ensures.value ∙ c.if-is_err.false) c.upsert.ensures.set)
    c.upsert.ensures.settings.0 (tied_itself o key) kept

pub returns-then-is_next-clause-joined : goal.returns-then-is_next-clause-joined
returns-then-is_next-clause-joined g c =
    let cmp = g.K.Ord.cmp in
    let o = g.met.K.Ord.total in
    let eq = g.V.PartialEq.eq in
    let join = g.V.Join.join_of in
    let F = c.pass.new.front.items in
    let B = c.pass.new.back.items in
    let key = c.args.key in
    let n = c.len-at.result - 1 in
    let x = c.index_mut.result.now in
    let y = c.index.result.now in
    let is : first_is cmp key (reverse B) ≡ true = ap (λ xs. first_is cmp key (reverse xs)) (sym c.deref.ensures.value) ∙ sym c.is_next.ensures ∙ c.if-is_next.true in
    let e : suc n ≡ length B = omega (arith, next-some cmp o key B is, c.len-at.ensures, c.pass.new.back.ok.0) in
    let up : IsMap cmp (whole F B) = subst (IsMap cmp) (sym c.pass.ensures.whole) c.requires.kept.ascending in
    let p = at-next cmp o F B n key x x c.in_ok-stored.stored e c.index_mut.ensures.value is in
    let q = at-next cmp o F B n key y y c.in_ok-stored.stored e c.index.ensures is in
    subst (λ w. IsJoin cmp eq join w ((key, c.args.value) ∷ []) (whole F (list_set B n (x.0, c.in_ok-stored.stored)))) c.pass.ensures.whole
    (subst (IsJoin cmp eq join (whole F B) ((key, c.args.value) ∷ [])) (sym (p.2 ∙ set_there cmp o (whole F B) (length F) x key c.in_ok-stored.stored up p.0 p.1))
    (joins_there cmp o eq g.met.V.Eq.laws join g.met.V.Join.joining (whole F B) (length F) y key c.args.value c.in_ok-stored.stored up q.0 q.1 c.in_ok-stored.ensures))

pub returns-clause-kept : goal.returns-clause-kept
returns-clause-kept g c =
    let cmp = g.K.Ord.cmp in
    let o = g.met.K.Ord.total in
    let F = c.pass.new.front.items in
    let B = c.pass.new.back.items in
    let key = c.args.key in
    let is : first_is cmp key (reverse B) ≡ false = ap (λ xs. first_is cmp key (reverse xs)) (sym c.deref.ensures.value) ∙ sym c.is_next.ensures ∙ c.if-is_next.false in
    let kept : IsKept cmp g.H.Hasher-2.digest_of (record { rows = whole F B; tree = c.args.tree.now }) =
    subst (λ w. IsKept cmp g.H.Hasher-2.digest_of (record { rows = w; tree = c.args.tree.now })) (sym c.pass.ensures.whole) c.requires.kept in
    let p = at-gap cmp o F B key c.args.value c.pass.ensures.below kept.ascending c.pass.ensures.next is in
    kept_set cmp g.H.Hasher-2.digest_of o (whole F B) _ c.args.tree.now c.upsert-2.new.self c.in_ok-own.own key c.args.value
    (ap (whole F) (c.push_reserved.ensures.items ∙ ap (λ xs. xs ++ (key, c.args.value) ∷ []) c.reserve_exact.ensures.items) ∙ p.1 ∙ set_new cmp o (whole F B) (length F) key c.args.value p.0)
    (went c.upsert-2.result (sym c.is_err-2.ensures.value ∙ c.if-is_err-2.false) c.upsert-2.ensures.set)
    c.upsert-2.ensures.settings.0 (tied_back o key c.in_ok-own.own (g.met.K.SameClone.clone_is_same key c.in_ok-own.own c.in_ok-own.ensures.cases)) kept

pub returns-clause-joined : goal.returns-clause-joined
returns-clause-joined g c =
    let cmp = g.K.Ord.cmp in
    let o = g.met.K.Ord.total in
    let eq = g.V.PartialEq.eq in
    let join = g.V.Join.join_of in
    let F = c.pass.new.front.items in
    let B = c.pass.new.back.items in
    let key = c.args.key in
    let is : first_is cmp key (reverse B) ≡ false = ap (λ xs. first_is cmp key (reverse xs)) (sym c.deref.ensures.value) ∙ sym c.is_next.ensures ∙ c.if-is_next.false in
    let up : IsMap cmp (whole F B) = subst (IsMap cmp) (sym c.pass.ensures.whole) c.requires.kept.ascending in
    let p = at-gap cmp o F B key c.args.value c.pass.ensures.below up c.pass.ensures.next is in
    subst (λ w. IsJoin cmp eq join w ((key, c.args.value) ∷ []) (whole F c.push_reserved.new.self.items)) c.pass.ensures.whole
    (subst (IsJoin cmp eq join (whole F B) ((key, c.args.value) ∷ []))
    (sym (ap (whole F) (c.push_reserved.ensures.items ∙ ap (λ xs. xs ++ (key, c.args.value) ∷ []) c.reserve_exact.ensures.items) ∙ p.1
    ∙ set_new cmp o (whole F B) (length F) key c.args.value p.0))
    (joins_new cmp o eq g.met.V.Eq.laws join g.met.V.Join.joining (whole F B) (length F) key c.args.value up p.0))
