-- What holds of the first elements of a list, one by one.
use Rattle.std.proofs.Common.{◌≡◌, ℕ, ◌+◌, ◌<◌, List, length, get_or, sym, subst, ◌∙◌, below_more}
use Rattle.std.specs.List.{All}
use Rattle.std.proofs.lemmas.List.{get_or_default}

module _ {X : Type 0} (P : X → Type 0) (xs : List X) (i : ℕ) (x : X) (inside : i < length xs) (is : x ≡ get_or xs i x) where
  -- it holds of one more
  pub first_more : P x → ((k : ℕ) (d : X) → k < i → P (get_or xs k d)) → (k : ℕ) (d : X) → k < i + 1 → P (get_or xs k d)
  first_more p before k d = below_more (λ n. P (get_or xs n d)) i (λ n l. before n d l) (subst P (is ∙ get_or_default xs i x d inside) p) k

  -- what holds of all holds of this one
  pub all_here : All P xs → P x
  all_here all = subst P (sym is) (all i x inside)
