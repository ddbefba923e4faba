use Rattle.std.proofs.Common.{◌≡◌, true, false, sym, ◌∙◌, subst}
use Rattle.key_order.specs.Map.{has_key, del}
use Rattle.key_order.proofs.Dels.{entry-absent, del-absent}
use Rattle.merkle_replica.specs.Contents.{Contents}
use Rattle.key_order.specs.Places.{IsPlaceOf, IsGapFor}
use Rattle.merkle_replica.proofs.RowRemovals.{removed_there, has_there, has_new, kept_del}
use Rattle.merkle_replica.proofs.replica.Replica.del.Goals as goal

pub returns-in_default-clause-rows : goal.returns-in_default-clause-rows
returns-in_default-clause-rows g c =
    let cmp = g.K.Ord.cmp in
    let k = c.args.key.now in
    let rows = c.self.inside.rows.items in
    let gap : IsGapFor cmp k rows c.in_default.field-0 = rw (← c.deref.ensures.value) c.in_default.ensures.absent in
    subst (λ (v : Contents g.row.K.Denot g.row.V.Denot g.row.H.Denot). v.rows ≡ del cmp v.rows k) c.self.view_is
    (sym (del-absent cmp k rows (entry-absent cmp k rows (has_new cmp g.met.K.Ord.total rows c.in_default.field-0 k gap))))

pub returns-in_default-clause-found : goal.returns-in_default-clause-found
returns-in_default-clause-found g c =
    let cmp = g.K.Ord.cmp in
    let k = c.args.key.now in
    let rows = c.self.inside.rows.items in
    let gap : IsGapFor cmp k rows c.in_default.field-0 = rw (← c.deref.ensures.value) c.in_default.ensures.absent in
    subst (λ (v : Contents g.row.K.Denot g.row.V.Denot g.row.H.Denot). false ≡ has_key cmp v.rows k) c.self.view_is (sym (has_new cmp g.met.K.Ord.total rows c.in_default.field-0 k gap))

pub returns-in_err-remove-clause-succeeds_absent : goal.returns-in_err-remove-clause-succeeds_absent
returns-in_err-remove-clause-succeeds_absent g c =
    let cmp = g.K.Ord.cmp in
    let k = c.args.key.now in
    let rows = c.self.inside.rows.items in
    let place : IsPlaceOf cmp k rows c.in-Ok.at = rw (← c.deref.ensures.value) c.in-Ok.ensures.found in
    λ e.
    let there : true ≡ has_key cmp c.args.self.now.rows k =
    subst (λ (v : Contents g.row.K.Denot g.row.V.Denot g.row.H.Denot). true ≡ has_key cmp v.rows k) c.self.view_is
    (sym (has_there cmp g.met.K.Ord.total rows c.in-Ok.at k place)) in
    let never : true ≡ false = there ∙ e in
    absurd (cc)

pub invariant_of-self-2 : goal.invariant_of-self-2
invariant_of-self-2 g c =
    let cmp = g.K.Ord.cmp in
    let k = c.args.key.now in
    let rows = c.self.inside.rows.items in
    let place : IsPlaceOf cmp k rows c.in-Ok.at = rw (← c.deref.ensures.value) c.in-Ok.ensures.found in
    kept_del cmp g.H.Hasher-2.digest_of g.met.K.Ord.total rows c.remove-2.new.self.items c.self.inside.tree c.remove.new.self k
    (c.remove-2.ensures.items ∙ removed_there cmp g.met.K.Ord.total rows c.in-Ok.at k c.self.invariant.ascending place) c.in_ok-remove.ensures.map c.in_ok-remove.ensures.settings.0 c.self.invariant

pub returns-clause-rows : goal.returns-clause-rows
returns-clause-rows g c =
    let cmp = g.K.Ord.cmp in
    let k = c.args.key.now in
    let rows = c.self.inside.rows.items in
    let place : IsPlaceOf cmp k rows c.in-Ok.at = rw (← c.deref.ensures.value) c.in-Ok.ensures.found in
    subst (λ (v : Contents g.row.K.Denot g.row.V.Denot g.row.H.Denot). c.remove-2.new.self.items ≡ del cmp v.rows k) c.self.view_is
    (c.remove-2.ensures.items ∙ removed_there cmp g.met.K.Ord.total rows c.in-Ok.at k c.self.invariant.ascending place)

pub returns-clause-found : goal.returns-clause-found
returns-clause-found g c =
    let cmp = g.K.Ord.cmp in
    let k = c.args.key.now in
    let rows = c.self.inside.rows.items in
    let place : IsPlaceOf cmp k rows c.in-Ok.at = rw (← c.deref.ensures.value) c.in-Ok.ensures.found in
    subst (λ (v : Contents g.row.K.Denot g.row.V.Denot g.row.H.Denot). true ≡ has_key cmp v.rows k) c.self.view_is (sym (has_there cmp g.met.K.Ord.total rows c.in-Ok.at k place))
