use Rattle.std.proofs.Common.{[], ◌∷◌, refl, sym, append-nil, inl, inr}
use Rattle.merkle_wire.specs.Gaps.{owned_gap}
use Rattle.merkle_wire.proofs.taking.take_below.Goals as goal

pub returns-then-branch-clause-added : goal.returns-then-branch-clause-added
returns-then-branch-clause-added g c = rw c.in-Some.is (λ sound rows of.
    ([], inl (refl, c.in_ok-is_page.ensures.there sound c.if-branch.true rows of), λ i. record c.args.work.now { below = sym (append-nil c.args.work.now.below) i }))

pub returns-in_default-clause-added : goal.returns-in_default-clause-added
returns-in_default-clause-added g c = rw c.in_default.is (λ _ rows of. ([], refl, λ i. record c.args.work.now { below = sym (append-nil c.args.work.now.below) i }))

pub returns-clause-added : goal.returns-clause-added
returns-clause-added g c = rw c.in-Some.is (λ sound rows of.
    let own = owned_gap c.in_ok-own.own in
    (own ∷ [], inr (rw g.met.H.RowHasher.laws_are (own, refl, c.in_ok-own.ensures), c.in_ok-is_page.ensures.lacked sound c.if-branch.false rows of), c.in_ok-add_below.ensures))
