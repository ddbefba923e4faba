-- The last of rows.
use Rattle.std.proofs.Common.{◌≡◌, ◌-◌, ◌<◌, List, [], ◌∷◌, length, get_or, refl, ap, sym, ◌∙◌, arith}
use Rattle.key_order.specs.Map.{last_key}

module _ {K V : Type 0} where
  last_is : (r : K × V) (rs : List (K × V)) (x : K × V) → x ≡ get_or (r ∷ rs) (length rs) x → last_key r.0 rs ≡ x.0
  last_is r [] x e = ap (λ p. p.0) (sym e)
  last_is r (s ∷ ss) x e = last_is s ss x e

  -- rows that have a last one are one with others after it, the last of which it is
  pub ends_in : (rows : List (K × V)) (x : K × V) → length rows - 1 < length rows → x ≡ get_or rows (length rows - 1) x
      → (r : K × V) × (rs : List (K × V)) × (rows ≡ r ∷ rs) × (last_key r.0 rs ≡ x.0)
  ends_in [] x low e = absurd (omega (arith, low))
  ends_in (r ∷ rs) x low e =
      let here : length (r ∷ rs) - 1 ≡ length rs = omega arith in
      (r, rs, refl, last_is r rs x (e ∙ ap (λ n. get_or (r ∷ rs) n x) here))
