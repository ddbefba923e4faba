use Rattle.std.proofs.Common.{subst, sym, ◌∙◌}
use Rattle.mst_pair.specs.Requests.{IsKey, IsNumber}
use Rattle.mst_pair.proofs.Fields.{first_unique, no_space_key}
use Rattle.mst_pair.proofs.parse.row_of.Goals as goal

-- the field before the space is no key
pub returns-in_err-key-2 : goal.returns-in_err-key-2
returns-in_err-key-2 c = rw c.from_residual-in_err-key-2.ensures (λ key n (digits, k, number, e).
    let same = first_unique c.in_ok-key.key.now key c.in_ok-key.digits.now digits c.in_ok-key.ensures.0 (no_space_key key k) (sym c.in_ok-key.ensures.1 ∙ e) in
    c.in_err-key-2.ensures (subst IsKey (sym same.0) k))

-- the field after it is no number
pub returns-in_err-number : goal.returns-in_err-number
returns-in_err-number c = rw c.from_residual-in_err-number.ensures (λ key n (digits, k, number, e).
    let same = first_unique c.in_ok-key.key.now key c.in_ok-key.digits.now digits c.in_ok-key.ensures.0 (no_space_key key k) (sym c.in_ok-key.ensures.1 ∙ e) in
    c.in_err-number.ensures n (subst (λ ds. IsNumber ds n) (sym same.1) number))
