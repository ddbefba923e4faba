use Rattle.std.proofs.Common.{nat_eq, sym, ap, ◌∙◌}
use Rattle.std.proofs.lemmas.Cmp.{nat_list_eq_equiv}
use Rattle.std.specs.Cmp.Lexicographic.{pointwise, same_text}
use Rattle.merkle_audit.proofs.pages.is_digest.Goals as goal

pub returns : goal.returns
returns g c =
    let digest = c.args.digest.now in
    let own = c.digest.ensures ∙ c.hash.ensures in
    (λ t. same_text digest c.digest.result.now (sym t ∙ c.eq.ensures) ∙ own, λ same. c.eq.ensures ∙ ap (pointwise nat_eq digest) (own ∙ sym same) ∙ nat_list_eq_equiv.refl digest)
