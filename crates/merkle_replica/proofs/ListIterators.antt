-- What an iterator over a list has given, and what is left of it.
use Rattle.std.proofs.Common.{◌≡◌, ◌+◌, Some, List, [], ◌∷◌, ◌++◌, ap, sym, ◌∙◌, append_assoc, append-nil, length, arith}
use Rattle.std.specs.Vec.Iter.{into_iter_items, into_iter_len, into_iter_steps}
use Rattle.std.specs.declared.vec.IntoIter.{IntoIter}

-- an iterator gives one more: those so far and those left are all, and this many are left
pub one_yielded : {X Z : Type 0} (old new : IntoIter X Z) (yielded all : List X) (x : X) → into_iter_steps old (Some x) new
    → yielded ++ into_iter_items old ≡ all → into_iter_len old ≡ length (into_iter_items old)
    → ((yielded ++ x ∷ []) ++ into_iter_items new ≡ all) × (into_iter_len new ≡ length (into_iter_items new))
one_yielded old new yielded all x (given, fewer) are many = (append_assoc yielded (x ∷ []) (into_iter_items new) ∙ ap (λ l. yielded ++ l) (sym given) ∙ are, omega (arith, ap length given))

-- an iterator with nothing left has given all
pub all_yielded : {X : Type 0} (yielded left all : List X) → yielded ++ left ≡ all → length left ≡ 0 → yielded ≡ all
all_yielded yielded [] all e n = sym (append-nil yielded) ∙ e
all_yielded yielded (x ∷ xs) all e n = absurd (omega (arith, n))
