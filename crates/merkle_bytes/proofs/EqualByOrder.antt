-- Keys that their bytes tell are equal by their order.
use Rattle.std.proofs.Common.{◌≡◌, Bool, true, sym, ◌∙◌, refl}
use Rattle.std.specs.declared.cmp.Ordering.{Ordering}
use Rattle.std.specs.declared.cmp.Ordering.TheVariants.{Less, Equal, Greater}
use Rattle.std.specs.Ordering.{is_eq}
use Rattle.key_order.specs.Order.{Same}

only_equal : (o : Ordering) → is_eq o ≡ true → o ≡ Equal
only_equal Less e = absurd (let f = e in cc)
only_equal Equal e = refl
only_equal Greater e = absurd (let f = e in cc)

pub eq_same : {K : Type 0} (cmp : K → K → Ordering) (eq : K → K → Bool) → ((a b : K) → eq a b ≡ is_eq (cmp a b)) → (a b : K) → eq a b ≡ true → Same cmp a b
eq_same cmp eq matches a b e = only_equal (cmp a b) (sym (matches a b) ∙ e)
