use Rattle.std.proofs.Common.{◌≡◌, true, nat_eq, subst, ◌∙◌}
use Rattle.std.specs.Cmp.Lexicographic.{nat_list_eq_equiv, pointwise}
use Rattle.c_rows.proofs.value.ByteValue.copy.Goals as goal

pub returns : goal.returns
returns c =
    let bytes = c.in_ok-bytes.bytes.items in
    subst (λ own. pointwise nat_eq bytes own ≡ true) (c.in_ok-bytes.ensures.items ∙ c.as_slice.ensures.value) (nat_list_eq_equiv.refl bytes)
