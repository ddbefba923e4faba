use Rattle.std.proofs.Common.{sym, ap, ◌∙◌}
use Rattle.std.proofs.lemmas.Bool.{false≢true}
use Rattle.std.specs.Ordering.{is_eq}
use Rattle.key_order.proofs.Bools.{is_equal}
use Rattle.merkle_audit.proofs.pages.are_alike.Goals as goal

pub returns-then-not-is_eq : goal.returns-then-not-is_eq
returns-then-not-is_eq g c = (λ t. absurd (false≢true t), λ alike. absurd (false≢true (sym c.if-not-is_eq.true ∙ c.is_eq.ensures ∙ ap is_eq (c.cmp.ensures ∙ alike.0))))

pub returns : goal.returns
returns g c =
    let digest_of = g.H.Hasher-2.digest_of in
    let ours = c.value_digest.ensures ∙ ap (λ tree. digest_of tree.hasher c.args.row.now.1) c.tree.ensures.tree in
    let theirs = c.value_digest-2.ensures ∙ ap (λ tree. digest_of tree.hasher c.args.other.now.1) c.tree-2.ensures.tree in
    let same = is_equal (g.K.Ord.cmp c.args.row.now.0 c.args.other.now.0) (ap is_eq (sym c.cmp.ensures) ∙ sym c.is_eq.ensures ∙ c.if-not-is_eq.false) in
    (λ t. (same, sym ours ∙ c.eq.ensures.same_bytes.0 t ∙ theirs), λ alike. c.eq.ensures.same_bytes.1 (ours ∙ alike.1 ∙ sym theirs))
