use Rattle.std.proofs.Common.{◌≡◌, ◌+◌, ◌++◌, ◌∷◌, [], true, take, length, refl, inl, inr, sym, ap, subst, ◌∙◌, arith}
use Rattle.std.proofs.lemmas.List.{take_more}
use Rattle.merkle_wire.specs.Parts.{HasTold}
use Rattle.merkle_wire.proofs.PartsTold.{none_told, told_more}
use Rattle.merkle_wire.proofs.rows_in.tell_first.Goals as goal

pub rows-init : goal.rows-init
rows-init g c = (refl, none_told g.K.Encode.encoding g.V.Encode.encoding c.args.part.now)

pub rows-preserved : goal.rows-preserved
rows-preserved g c =
    let encoding = g.K.Encode.encoding in
    let values = g.V.Encode.encoding in
    let first = c.args.part.now in
    let rows = c.args.rows.now in
    let i = c.rows.row-index in
    let x = c.row-item.result in
    let next : take (i + 1) rows ≡ take i rows ++ x ∷ [] = take_more rows i x c.rows-test.true ∙ ap (λ y. take i rows ++ y ∷ []) (sym c.row-item.is) in
    let more = told_more encoding values first c.rows.part c.add.new.self (take i rows) x true c.rows.invariant.1
    (subst (HasTold encoding values c.rows.part c.add.new.self (x ∷ [])) c.if-not-branch.false c.in_ok-add.ensures) in
    (ap (λ n. n + 1) c.rows.invariant.0, subst (λ told. HasTold encoding values first c.add.new.self told true) (sym next) more)

pub returns-then-not-branch-clause-told : goal.returns-then-not-branch-clause-told
returns-then-not-branch-clause-told g c =
    let encoding = g.K.Encode.encoding in
    let values = g.V.Encode.encoding in
    let first = c.args.part.now in
    let rows = c.args.rows.now in
    let i = c.rows.row-index in
    let x = c.row-item.result in
    let is_more = c.in_ok-add.field-0 in
    let next : take (c.rows.count + 1) rows ≡ take i rows ++ x ∷ [] =
    ap (λ n. take (n + 1) rows) c.rows.invariant.0 ∙ take_more rows i x c.rows-test.true ∙ ap (λ y. take i rows ++ y ∷ []) (sym c.row-item.is) in
    let more = told_more encoding values first c.rows.part c.add.new.self (take i rows) x is_more c.rows.invariant.1 c.in_ok-add.ensures in
    (is_more, subst (λ told. HasTold encoding values first c.add.new.self told is_more) (sym next) more, inr c.if-not-branch.true)

pub returns-clause-told : goal.returns-clause-told
returns-clause-told g c =
    let all : c.rows.count ≡ length c.args.rows.now = omega (arith, c.rows.invariant.0) in
    (true, subst (λ n. HasTold g.K.Encode.encoding g.V.Encode.encoding c.args.part.now c.rows.part (take n c.args.rows.now) true) (sym c.rows.invariant.0) c.rows.invariant.1, inl all)
