use Rattle.std.proofs.Common.{◌≤◌, ◌<◌, length, refl, sym, ◌∙◌, arith}
use Rattle.std.proofs.lemmas.Bool.{false≢true}
use Rattle.merkle_audit.proofs.SoFar.{alike_all, alike_length, alike_more, alike_there}
use Rattle.merkle_audit.proofs.pages.have_one_digest.Goals as goal

pub returns-then-ours-theirs : goal.returns-then-ours-theirs
returns-then-ours-theirs g c =
    let f = g.H.Hasher-2.digest_of c.args.a.now.tree.hasher in
    let h = g.H.Hasher-2.digest_of c.args.b.now.tree.hasher in
    (λ t. absurd (false≢true t), λ all. absurd (c.if-ours-theirs.true (alike_length g.K.Ord.cmp f h c.args.ours.now c.args.theirs.now all)))

pub rows-preserved : goal.rows-preserved
rows-preserved g c =
    let f = g.H.Hasher-2.digest_of c.args.a.now.tree.hasher in
    let h = g.H.Hasher-2.digest_of c.args.b.now.tree.hasher in
    let first : c.rows.i < length c.args.ours.now = omega arith in
    let second : c.rows.i < length c.args.theirs.now = omega arith in
    alike_more g.K.Ord.cmp f h c.args.ours.now c.args.theirs.now c.rows.i c.index-ours-i.result c.index-theirs-i.result first second c.index-ours-i.is c.index-theirs-i.is
    c.rows.invariant (c.are_alike.ensures.0 c.if-not-are_alike.false)

pub returns-then-not-are_alike : goal.returns-then-not-are_alike
returns-then-not-are_alike g c =
    let f = g.H.Hasher-2.digest_of c.args.a.now.tree.hasher in
    let h = g.H.Hasher-2.digest_of c.args.b.now.tree.hasher in
    let first : c.rows.i < length c.args.ours.now = omega arith in (
      λ t. absurd (false≢true t),
      λ all. absurd (false≢true (sym c.if-not-are_alike.true ∙ c.are_alike.ensures.1
          (alike_there g.K.Ord.cmp f h c.args.ours.now c.args.theirs.now c.rows.i c.index-ours-i.result c.index-theirs-i.result first c.index-ours-i.is c.index-theirs-i.is all))),
    )

pub returns : goal.returns
returns g c =
    let f = g.H.Hasher-2.digest_of c.args.a.now.tree.hasher in
    let h = g.H.Hasher-2.digest_of c.args.b.now.tree.hasher in
    let first : length c.args.ours.now ≤ c.rows.i = omega arith in
    let second : length c.args.theirs.now ≤ c.rows.i = omega arith in
    (λ t. alike_all g.K.Ord.cmp f h c.args.ours.now c.args.theirs.now c.rows.i first second c.rows.invariant, λ all. refl)
