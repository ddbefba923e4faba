-- The elements that a list has.
use Rattle.std.proofs.Common.{◌≡◌, ℕ, Bool, true, false, if◌then◌else◌, List, [], ◌∷◌, sym, subst, ◌⊎◌, inl, inr}
use Rattle.std.specs.List.{AllByRecursion}
use Rattle.key_order.specs.Map.{rows_at}
use Rattle.store_tree.specs.Cells.{HasKey, KeyDigests}

module _ {X : Type 0} where
  -- the list has the element
  abbrev pub Has : List X → X → Type 0
  Has [] x = ⊥
  Has (y ∷ ys) x = (y ≡ x) ⊎ Has ys x

  pub all_has : (P : X → Type 0) (xs : List X) (x : X) → AllByRecursion P xs → Has xs x → P x
  all_has P [] x a h = absurd h
  all_has P (y ∷ xs) x a (inl e) = subst P e a.0
  all_has P (y ∷ xs) x a (inr h) = all_has P xs x a.1 h

pub key_has : (m : KeyDigests) (key : List ℕ) → HasKey m key → (d : List ℕ) × Has m (key, d)
key_has [] key h = absurd h
key_has (p ∷ ps) key (inl e) = (p.1, inl (λ i. (e i, p.1)))
key_has (p ∷ ps) key (inr h) = let (d, f) = key_has ps key h in (d, inr f)

pub has_passing : (test : List ℕ → Bool) (ps : KeyDigests) (q : List ℕ × List ℕ) → Has ps q → test q.0 ≡ true → Has (rows_at test ps) q
has_passing test [] q h t = absurd h
has_passing test (p ∷ ps) q (inl e) t =
    let t' : test p.0 ≡ true = subst (λ (r : List ℕ × List ℕ). test r.0 ≡ true) (sym e) t in
    subst (λ b. Has (if b then (p ∷ rows_at test ps) else (rows_at test ps)) q) (sym t') (inl e)
has_passing test (p ∷ ps) q (inr h) t = by (test p.0) (has_passing test ps q h t)
  where
    by : (b : Bool) → Has (rows_at test ps) q → Has (if b then (p ∷ rows_at test ps) else (rows_at test ps)) q
    by true f = inr f
    by false f = f
