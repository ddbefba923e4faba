-- The keys that are made so far, and those that are still to come.
use Rattle.std.proofs.Common.{◌≡◌, ℕ, suc, ◌+◌, ◌-◌, ◌<◌, List, [], ◌∷◌, ◌++◌, sym, ap, ◌∙◌, append_assoc, arith}
use Rattle.mst_bench.specs.Keys.{next_state, key_text, key_texts}

-- one more key
pub one_more : (count made state : ℕ) (front all : List (List ℕ)) → made < count → front ++ key_texts (count - made) state ≡ all
    → (front ++ key_text (next_state state) ∷ []) ++ key_texts (count - (made + 1)) (next_state state) ≡ all
one_more count made state front all more so =
    let left : count - made ≡ suc (count - (made + 1)) = omega arith in
    append_assoc front (key_text (next_state state) ∷ []) (key_texts (count - (made + 1)) (next_state state))
    ∙ (ap (λ n. front ++ key_texts n state) (sym left) ∙ so)
