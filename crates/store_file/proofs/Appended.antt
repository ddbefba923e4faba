-- Pieces that are appended one after the other.
use Rattle.std.proofs.Common.{◌≡◌, ℕ, List, ◌++◌, append_assoc, ◌∙◌}

pub five : (a t l w v x : List ℕ) → ((((a ++ t) ++ l) ++ w) ++ v) ++ x ≡ a ++ (t ++ (l ++ (w ++ (v ++ x))))
five a t l w v x = append_assoc (((a ++ t) ++ l) ++ w) v x ∙ four a t l w (v ++ x)
  where
    four : (a t l w v : List ℕ) → (((a ++ t) ++ l) ++ w) ++ v ≡ a ++ (t ++ (l ++ (w ++ v)))
    four a t l w v = append_assoc ((a ++ t) ++ l) w v ∙ append_assoc (a ++ t) l (w ++ v) ∙ append_assoc a t (l ++ (w ++ v))

pub four : (a t l w v : List ℕ) → (((a ++ t) ++ l) ++ w) ++ v ≡ a ++ (t ++ (l ++ (w ++ v)))
four a t l w v = append_assoc ((a ++ t) ++ l) w v ∙ append_assoc (a ++ t) l (w ++ v) ∙ append_assoc a t (l ++ (w ++ v))
