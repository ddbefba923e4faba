-- One update more at the end of a list of updates.
use Rattle.std.proofs.Common.{◌≡◌, ℕ, List, [], ◌∷◌, ◌++◌, length, Bool, true, false, ◌≢◌, refl, arith, ap, sym, subst, Option, Some, None, is_some, if◌then◌else◌, MatchOption, ◌∙◌}
use Rattle.std.specs.Bool.{⊤}
use Rattle.std.specs.declared.cmp.Ordering.{Ordering}
use Rattle.std.specs.Prelude.{Result, Ok, Err, IfOk, OnErr, is_ok}
use Rattle.merkle_tree_theory.specs.State.{State}
use Rattle.merkle_search_tree.specs.declared.updates.Update.TheVariants.{Remove}
use Rattle.key_order.specs.Map.{has_key, entry}
use Rattle.key_order.proofs.Dels.{entry-there, entry-absent}
use Rattle.merkle_search_tree.specs.declared.updates.Update.{Update}
use Rattle.merkle_search_tree.specs.Updates.{map_after, map_after_one, hashed_after, hashed_after_one, IsAcceptedIfFree, FreeAreAccepted}

module _ {K V : Type 0} where
  pub map_after-more : (cmp : K → K → Ordering) (digest_of : V → List ℕ) (m : List (K × List ℕ)) (us : List (Update K V)) (u : Update K V) (bs : List Bool) (a : Bool)
      → length bs ≡ length us → map_after cmp digest_of m (us ++ u ∷ []) (bs ++ a ∷ []) ≡ map_after_one cmp digest_of (map_after cmp digest_of m us bs) u a
  map_after-more cmp digest_of m [] u [] a e = refl
  map_after-more cmp digest_of m [] u (b ∷ bs) a e = absurd (omega (arith, e))
  map_after-more cmp digest_of m (v ∷ us) u [] a e = absurd (omega (arith, e))
  map_after-more cmp digest_of m (v ∷ us) u (b ∷ bs) a e = map_after-more cmp digest_of (map_after_one cmp digest_of m v b) us u bs a (omega (arith, e))

  pub hashed_after-more : (cmp : K → K → Ordering) (digest_of : V → List ℕ) (m : List (K × List ℕ)) (hashed : Bool) (us : List (Update K V)) (u : Update K V) (bs : List Bool) (a : Bool)
      → length bs ≡ length us → hashed_after cmp digest_of m hashed (us ++ u ∷ []) (bs ++ a ∷ []) ≡ hashed_after_one cmp digest_of
      (map_after cmp digest_of m us bs) (hashed_after cmp digest_of m hashed us bs) u a
  hashed_after-more cmp digest_of m hashed [] u [] a e = refl
  hashed_after-more cmp digest_of m hashed [] u (b ∷ bs) a e = absurd (omega (arith, e))
  hashed_after-more cmp digest_of m hashed (v ∷ us) u [] a e = absurd (omega (arith, e))
  hashed_after-more cmp digest_of m hashed (v ∷ us) u (b ∷ bs) a e =
      hashed_after-more cmp digest_of (map_after_one cmp digest_of m v b) (hashed_after_one cmp digest_of m hashed v b) us u bs a (omega (arith, e))

  pub free-more : (cmp : K → K → Ordering) (digest_of : V → List ℕ) (m : List (K × List ℕ)) (us : List (Update K V)) (u : Update K V) (bs : List Bool) (a : Bool)
      → length bs ≡ length us → FreeAreAccepted cmp digest_of m us bs → IsAcceptedIfFree cmp digest_of (map_after cmp digest_of m us bs) u a
      → FreeAreAccepted cmp digest_of m (us ++ u ∷ []) (bs ++ a ∷ [])
  free-more cmp digest_of m [] u [] a e h f = (f, tt)
  free-more cmp digest_of m [] u (b ∷ bs) a e h f = absurd (omega (arith, e))
  free-more cmp digest_of m (v ∷ us) u [] a e h f = absurd (omega (arith, e))
  free-more cmp digest_of m (v ∷ us) u (b ∷ bs) a e h f = (h.0, free-more cmp digest_of (map_after_one cmp digest_of m v b) us u bs a (omega (arith, e)) h.1 f)

-- a removal forgets the root hash exactly where its key is there
module _ {K D : Type 0} (cmp : K → K → Ordering) (k : K) where
  pub removal_hashed : (m : List (K × D)) (found : Option (K × D)) (old new : Option (List ℕ)) → found ≡ entry cmp m k → (found ≡ None → new ≡ old) → (found ≢ None → new ≡ None)
      → is_some new ≡ (if (has_key cmp m k) then false else (is_some old))
  removal_hashed m found old new e f h = by (has_key cmp m k) refl
    where
      by : (b : Bool) → has_key cmp m k ≡ b → is_some new ≡ (if b then false else (is_some old))
      by true q = ap is_some (h (λ z. entry-there cmp k m q (sym e ∙ z)))
      by false q = ap is_some (f (e ∙ entry-absent cmp k m q))

-- the same of a removal that may be refused
module _ {K V H E : Type 0} (cmp : K → K → Ordering) (digest_of : V → List ℕ) (k : K) where
  pub removal_result : (r : Result (Option (K × List ℕ)) E) (m : List (K × List ℕ)) (old new : State K H) → IfOk r (λ found. found ≡ entry cmp m k) → IfOk r (λ found. found ≡ None → new ≡ old)
      → IfOk r (λ found. found ≢ None → new.root_hash ≡ None) → OnErr r (new ≡ old)
      → is_some new.root_hash ≡ hashed_after_one cmp digest_of m (is_some old.root_hash) (Remove k) (is_ok r)
  removal_result (Ok found) m old new e f h u = removal_hashed cmp k m found old.root_hash new.root_hash e (λ z. ap (λ (s : State K H). s.root_hash) (f z)) h
  removal_result (Err x) m old new e f h u = ap (λ (s : State K H). is_some s.root_hash) u

-- a root hash, where there is one, is the digest
pub hashed_is : (X : Type 0) (o : Option (List ℕ)) (hashed : Bool) (c d : List ℕ) → is_some o ≡ hashed → MatchOption o ⊤ (λ e. (e ≡ c) × X) → c ≡ d
    → o ≡ (if hashed then (Some d) else None)
hashed_is X None hashed c d e h s = subst (λ b. None ≡ (if b then (Some d) else None)) e refl
hashed_is X (Some x) hashed c d e h s = subst (λ b. Some x ≡ (if b then (Some d) else None)) e (ap Some (h.0 ∙ s))
