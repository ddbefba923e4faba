-- The pairs of a map that pass a test, after a key was set.
use Rattle.std.proofs.Common.{◌≡◌, ℕ, Bool, true, false, if◌then◌else◌, List, [], ◌∷◌, refl, sym, ap, ◌∙◌, ◌⊎◌, inl, inr, Ordering, Less, Equal, Greater, is_eq, is_lt}
use Rattle.std.specs.List.{AllByRecursion}
use Rattle.std.specs.Ordering.{match_ordering}
use Rattle.std.specs.Cmp.Lexicographic.{nat_list_cmp_total}
use Rattle.std.proofs.lemmas.Slice.Eq.{bytes_eq-Decides}
use Rattle.std.proofs.lemmas.Map.Text.{is_eq-slice_cmp}
use Rattle.key_order.specs.Order.{Below}
use Rattle.key_order.specs.Map.{IsMap, rows_at, set}
use Rattle.key_order.proofs.Bools.{which}
use Rattle.key_order.proofs.Orders.{low_low}
use Rattle.store_tree.specs.Cells.{bytes_order, KeyDigests, HasKey}

-- keys that the order doesn't tell apart are one key
pub same_key : (a b : List ℕ) → is_eq (bytes_order a b) ≡ true → a ≡ b
same_key a b h = (bytes_eq-Decides a b).0 (sym (is_eq-slice_cmp a b) ∙ h)

above_rest : (x y : List ℕ) (ps : KeyDigests) → Below bytes_order x y → AllByRecursion (λ p. Below bytes_order y p.0) ps → AllByRecursion (λ p. Below bytes_order x p.0) ps
above_rest x y [] h a = tt
above_rest x y (p ∷ ps) h a = (low_low bytes_order nat_list_cmp_total x y p.0 h a.0, above_rest x y ps h a.1)

set_front : (ps : KeyDigests) (x d : List ℕ) → AllByRecursion (λ p. Below bytes_order x p.0) ps → set bytes_order ps x d ≡ (x, d) ∷ ps
set_front [] x d a = refl
set_front (p ∷ ps) x d a = by (bytes_order x p.0) a.0
  where
    by : (o : Ordering) → is_lt o ≡ true → match_ordering o ((x, d) ∷ p ∷ ps) ((p.0, d) ∷ ps) (p ∷ set bytes_order ps x d) ≡ (x, d) ∷ p ∷ ps
    by Less h = refl
    by Equal h = absurd (let e = h in cc)
    by Greater h = absurd (let e = h in cc)

module _ (test : List ℕ → Bool) where
  -- pairs that pass are above a key where all are
  passing_above : (x : List ℕ) (ps : KeyDigests) → AllByRecursion (λ p. Below bytes_order x p.0) ps → AllByRecursion (λ p. Below bytes_order x p.0) (rows_at test ps)
  passing_above x [] a = tt
  passing_above x (p ∷ ps) a = by (test p.0) (passing_above x ps a.1)
    where
      by : (b : Bool) → AllByRecursion (λ q. Below bytes_order x q.0) (rows_at test ps) → AllByRecursion (λ q. Below bytes_order x q.0) (if b then (p ∷ rows_at test ps) else (rows_at test ps))
      by true f = (a.0, f)
      by false f = f

  -- a key that doesn't pass changes nothing of what does
  pub set_other : (ps : KeyDigests) (x d : List ℕ) → test x ≡ false → rows_at test (set bytes_order ps x d) ≡ rows_at test ps
  set_other [] x d off = rw off refl
  set_other (p ∷ ps) x d off = by (bytes_order x p.0) refl (set_other ps x d off)
    where
      by : (o : Ordering) → bytes_order x p.0 ≡ o → rows_at test (set bytes_order ps x d) ≡ rows_at test ps
          → rows_at test (match_ordering o ((x, d) ∷ p ∷ ps) ((p.0, d) ∷ ps) (p ∷ set bytes_order ps x d)) ≡ rows_at test (p ∷ ps)
      by Less e f = rw off refl
      by Equal e f =
          let same : x ≡ p.0 = same_key x p.0 (ap is_eq e) in
          let out : test p.0 ≡ false = ap test (sym same) ∙ off in
          rw out refl
      by Greater e f = ap (λ qs. if (test p.0) then (p ∷ qs) else qs) f

  -- a key that passes is set among those that do
  pub set_own : (ps : KeyDigests) (x d : List ℕ) → IsMap bytes_order ps → test x ≡ true → rows_at test (set bytes_order ps x d) ≡ set bytes_order (rows_at test ps) x d
  set_own [] x d up on = rw on refl
  set_own (p ∷ ps) x d up on = by (bytes_order x p.0) refl (which (test p.0)) (set_own ps x d up.1 on)
    where
      by : (o : Ordering) → bytes_order x p.0 ≡ o → (test p.0 ≡ false) ⊎ (test p.0 ≡ true) → rows_at test (set bytes_order ps x d) ≡ set bytes_order (rows_at test ps) x d
          → rows_at test (match_ordering o ((x, d) ∷ p ∷ ps) ((p.0, d) ∷ ps) (p ∷ set bytes_order ps x d)) ≡ set bytes_order (rows_at test (p ∷ ps)) x d
      by Less e k f =
          let low : Below bytes_order x p.0 = ap is_lt e in
          let all : AllByRecursion (λ q. Below bytes_order x q.0) (p ∷ ps) = (low, above_rest x p.0 ps low up.0) in
          rw on (sym (set_front (rows_at test (p ∷ ps)) x d (passing_above x (p ∷ ps) all)))
      by Equal e k f =
          let same : x ≡ p.0 = same_key x p.0 (ap is_eq e) in
          let there : test p.0 ≡ true = ap test (sym same) ∙ on in
          rw there (rw e refl)
      by Greater e (inl k) f = rw k f
      by Greater e (inr k) f = rw k (rw e (ap (λ qs. p ∷ qs) f))

-- a map that has a key has it after another is set
pub set_keeps : (m : KeyDigests) (x d k : List ℕ) → HasKey m k → HasKey (set bytes_order m x d) k
set_keeps [] x d k h = absurd h
set_keeps (p ∷ ps) x d k h = by (bytes_order x p.0) h (set_keeps ps x d k)
  where
    by : (o : Ordering) → HasKey (p ∷ ps) k → (HasKey ps k → HasKey (set bytes_order ps x d) k) → HasKey (match_ordering o ((x, d) ∷ p ∷ ps) ((p.0, d) ∷ ps) (p ∷ set bytes_order ps x d)) k
    by Less h f = inr h
    by Equal (inl e) f = inl e
    by Equal (inr h) f = inr h
    by Greater (inl e) f = inl e
    by Greater (inr h) f = inr (f h)
