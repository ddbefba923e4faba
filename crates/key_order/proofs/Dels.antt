-- A map with one key taken out.
use Rattle.std.proofs.Common.{◌≡◌, ◌≢◌, List, [], ◌∷◌, ◌++◌, Bool, true, false, not, ◌||◌, cond, Some, None, refl, ap, ◌∙◌}
use Rattle.std.specs.List.{AllByRecursion}
use Rattle.std.proofs.lemmas.List.Elements.{filter-append}
use Rattle.std.specs.declared.cmp.Ordering.{Ordering}
use Rattle.std.specs.declared.cmp.Ordering.TheVariants.{Less, Equal, Greater}
use Rattle.std.specs.Cmp.{IsTotalOrder}
use Rattle.std.specs.Ordering.{is_eq, match_ordering}
use Rattle.key_order.specs.Order.{Below, Same}
use Rattle.key_order.specs.Map.{IsMap, has_key, set, del, entry}

module _ {K X : Type 0} (cmp : K → K → Ordering) (k : K) where
  -- no key is equal to k
  abbrev pub NoEqual : List (K × X) → Type 0
  NoEqual = AllByRecursion (λ p. cmp k p.0 ≢ Equal)

  pub del-append : (xs ys : List (K × X)) → del cmp (xs ++ ys) k ≡ del cmp xs k ++ del cmp ys k
  del-append xs ys = filter-append (λ r. not (is_eq (cmp k r.0))) xs ys

  -- the pair of an equal key goes
  pub del-here : (p : K × X) (ps : List (K × X)) → cmp k p.0 ≡ Equal → del cmp (p ∷ ps) k ≡ del cmp ps k
  del-here p ps e = ap (λ q. cond (not (is_eq q)) (p ∷ del cmp ps k) (del cmp ps k)) e

  -- and that of another key stays
  pub del-past : (p : K × X) (ps : List (K × X)) → cmp k p.0 ≢ Equal → del cmp (p ∷ ps) k ≡ p ∷ del cmp ps k
  del-past p ps ne = by (cmp k p.0) ne
    where
      by : (q : Ordering) → q ≢ Equal → cond (not (is_eq q)) (p ∷ del cmp ps k) (del cmp ps k) ≡ p ∷ del cmp ps k
      by Less n = refl
      by Equal n = absurd (n refl)
      by Greater n = refl

  -- a map without the key stays
  pub del-none : (ps : List (K × X)) → NoEqual ps → del cmp ps k ≡ ps
  del-none [] a = refl
  del-none (p ∷ ps) a = del-past p ps a.0 ∙ ap (λ xs. p ∷ xs) (del-none ps a.1)

  -- so does one without an entry of the key
  pub del-absent : (m : List (K × X)) → entry cmp m k ≡ None → del cmp m k ≡ m
  del-absent [] e = refl
  del-absent (p ∷ ps) e = by (is_eq (cmp k p.0)) e (del-absent ps)
    where
      by : (b : Bool) → cond b (Some p) (entry cmp ps k) ≡ None → (entry cmp ps k ≡ None → del cmp ps k ≡ ps) → cond (not b) (p ∷ del cmp ps k) (del cmp ps k) ≡ p ∷ ps
      by true e f = absurd (cc)
      by false e f = ap (λ xs. p ∷ xs) (f e)

  all_del : (P : K × X → Type 0) (ps : List (K × X)) → AllByRecursion P ps → AllByRecursion P (del cmp ps k)
  all_del P [] a = tt
  all_del P (p ∷ ps) a = by (not (is_eq (cmp k p.0))) (all_del P ps a.1)
    where
      by : (b : Bool) → AllByRecursion P (del cmp ps k) → AllByRecursion P (cond b (p ∷ del cmp ps k) (del cmp ps k))
      by true f = (a.0, f)
      by false f = f

  pub ascending_del : (m : List (K × X)) → IsMap cmp m → IsMap cmp (del cmp m k)
  ascending_del [] a = tt
  ascending_del (p ∷ ps) a = by (not (is_eq (cmp k p.0))) (all_del (λ s. Below cmp p.0 s.0) ps a.0) (ascending_del ps a.1)
    where
      by : (b : Bool) → AllByRecursion (λ s. Below cmp p.0 s.0) (del cmp ps k) → IsMap cmp (del cmp ps k) → IsMap cmp (cond b (p ∷ del cmp ps k) (del cmp ps k))
      by true f g = (f, g)
      by false f g = g

  -- the entry of an equal key, and of one after another
  pub entry-here : (p : K × X) (ps : List (K × X)) → cmp k p.0 ≡ Equal → entry cmp (p ∷ ps) k ≡ Some p
  entry-here p ps e = ap (λ q. cond (is_eq q) (Some p) (entry cmp ps k)) e

  pub entry-past : (p : K × X) (ps : List (K × X)) → cmp k p.0 ≢ Equal → entry cmp (p ∷ ps) k ≡ entry cmp ps k
  entry-past p ps ne = by (cmp k p.0) ne
    where
      by : (q : Ordering) → q ≢ Equal → cond (is_eq q) (Some p) (entry cmp ps k) ≡ entry cmp ps k
      by Less n = refl
      by Equal n = absurd (n refl)
      by Greater n = refl

  pub entry-none : (ps : List (K × X)) → NoEqual ps → entry cmp ps k ≡ None
  entry-none [] a = refl
  entry-none (p ∷ ps) a = entry-past p ps a.0 ∙ entry-none ps a.1

  pub entry-behind : (xs ys : List (K × X)) → NoEqual xs → entry cmp (xs ++ ys) k ≡ entry cmp ys k
  entry-behind [] ys a = refl
  entry-behind (x ∷ xs) ys a = entry-past x (xs ++ ys) a.0 ∙ entry-behind xs ys a.1

  pub entry-before : (xs ys : List (K × X)) → NoEqual ys → entry cmp (xs ++ ys) k ≡ entry cmp xs k
  entry-before [] ys a = entry-none ys a
  entry-before (x ∷ xs) ys a = ap (λ e. cond (is_eq (cmp k x.0)) (Some x) e) (entry-before xs ys a)

  -- a key that is there has an entry, and one that is not has none
  pub entry-there : (m : List (K × X)) → has_key cmp m k ≡ true → entry cmp m k ≡ None → ⊥
  entry-there [] e f = absurd (cc)
  entry-there (p ∷ ps) e f = by (is_eq (cmp k p.0)) e f (entry-there ps)
    where
      by : (b : Bool) → b || has_key cmp ps k ≡ true → cond b (Some p) (entry cmp ps k) ≡ None → (has_key cmp ps k ≡ true → entry cmp ps k ≡ None → ⊥) → ⊥
      by true e f h = absurd (cc)
      by false e f h = h e f

  pub entry-absent : (m : List (K × X)) → has_key cmp m k ≡ false → entry cmp m k ≡ None
  entry-absent [] e = refl
  entry-absent (p ∷ ps) e = by (is_eq (cmp k p.0)) e (entry-absent ps)
    where
      by : (b : Bool) → b || has_key cmp ps k ≡ false → (has_key cmp ps k ≡ false → entry cmp ps k ≡ None) → cond b (Some p) (entry cmp ps k) ≡ None
      by true e f = absurd (cc)
      by false e f = f e

  -- a key that was taken out is not there
  pub has_key-del : (m : List (K × X)) → has_key cmp (del cmp m k) k ≡ false
  has_key-del [] = refl
  has_key-del (p ∷ ps) = by (is_eq (cmp k p.0)) refl (has_key-del ps)
    where
      by : (b : Bool) → is_eq (cmp k p.0) ≡ b → has_key cmp (del cmp ps k) k ≡ false → has_key cmp (cond (not b) (p ∷ del cmp ps k) (del cmp ps k)) k ≡ false
      by true e h = h
      by false e h = rw e h

module _ {K X : Type 0} (cmp : K → K → Ordering) (o : IsTotalOrder cmp) where
  -- a new key that is set and taken out again leaves the map
  pub del-set : (m : List (K × X)) (k j : K) (d : X) → Same cmp j k → has_key cmp m j ≡ false → del cmp (set cmp m k d) j ≡ m
  del-set [] k j d s h = del-here cmp j (k, d) [] s
  del-set (r ∷ rs) k j d s h = go (cmp k r.0) refl (del-set rs k j d s (parts (is_eq (cmp j r.0)) (has_key cmp rs j) h).1)
    where
      parts : (a b : Bool) → a || b ≡ false → (a ≡ false) × (b ≡ false)
      parts true b h = absurd (cc)
      parts false b h = (refl, h)

      not_equal : (w : Ordering) → is_eq w ≡ false → w ≢ Equal
      not_equal Less h e = cc
      not_equal Equal h e = absurd (cc)
      not_equal Greater h e = cc

      other : cmp j r.0 ≢ Equal
      other = not_equal (cmp j r.0) (parts (is_eq (cmp j r.0)) (has_key cmp rs j) h).0

      go : (w : Ordering) → cmp k r.0 ≡ w → del cmp (set cmp rs k d) j ≡ rs → del cmp (match_ordering w ((k, d) ∷ r ∷ rs) ((r.0, d) ∷ rs) (r ∷ set cmp rs k d)) j ≡ r ∷ rs
      go Less e rest = del-here cmp j (k, d) (r ∷ rs) s ∙ del-absent cmp j (r ∷ rs) (entry-absent cmp j (r ∷ rs) h)
      go Equal e rest = absurd (other (o.congr j k r.0 s ∙ e))
      go Greater e rest = del-past cmp j r (set cmp rs k d) other ∙ ap (λ xs. r ∷ xs) rest
