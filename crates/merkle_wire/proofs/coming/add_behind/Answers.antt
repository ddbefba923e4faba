use Rattle.std.proofs.Common.{Some, sym, subst, rules, [], ◌∷◌, inr, refl}
use Rattle.merkle_tree_theory.specs.Gap.{SameBound}
use Rattle.merkle_wire.proofs.LastRows.{ends_in}
use Rattle.merkle_wire.proofs.coming.add_behind.Goals as goal

pub returns-clause-added : goal.returns-clause-added
returns-clause-added g c =
    let rows = c.args.rows.now in
    let parts = ends_in rows c.in-Some.last.now (search rules) (search rules) in
    let own = c.in_ok-own.own in
    let same = rw c.as_ref.ensures.value at c.in_ok-own.ensures in
    (own ∷ [], inr (parts.0, parts.1, own, refl, parts.2, (subst (λ (k : g.row.K.Denot). SameBound g.K.Ord.cmp (Some k) own.after) (sym parts.3) same.0, same.1), refl), c.in_ok-push.ensures.items)
