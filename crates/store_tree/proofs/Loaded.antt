-- A table of cells has the gaps of a map whose keys were added one after the other.
use Rattle.std.proofs.Common.{◌≡◌, ◌<◌, ℕ, Bool, true, false, if◌then◌else◌, List, [], ◌∷◌, ◌++◌, map, Some, None, refl, sym, ap, subst, ◌∙◌, ◌⊎◌, inl, inr, Ordering, Less, Equal, Greater, is_eq, string_bytes}
use Rattle.std.specs.Prelude.{nat_le}
use Rattle.std.specs.List.{AllByRecursion}
use Rattle.std.specs.Ordering.{match_ordering}
use Rattle.std.specs.Cmp.Lexicographic.{nat_list_cmp_total}
use Rattle.key_order.specs.Order.{AnyByRecursion, Below}
use Rattle.key_order.specs.Map.{IsMap, set}
use Rattle.key_order.specs.Text.{Text}
use Rattle.key_order.proofs.ListParts.{each-at, each-before}
use Rattle.key_order.proofs.Orders.{low_low, not_low_self}
use Rattle.sqlite_value.specs.Order.{Row}
use Rattle.store_tree.specs.Cells.{bytes_order, AreUnder, KeyDigests, HasKey, HoldsCells, pairs_from}
use Rattle.store_tree.specs.Loads.{AddsKey, HoldsNoKeys, KnowsNothing, LoadsKeys}
use Rattle.store_tree.proofs.Fronts.{Front}
use Rattle.store_tree.proofs.Loading.{bare, bare_from, holds_bare}
use Rattle.store_tree.proofs.Sets.{same_key, set_keeps}

-- ---- the keys of a map to which keys are added

abbrev bytes_of : Text × ℕ → List ℕ
bytes_of given = string_bytes given.0

-- the key is one of these
abbrev IsGiven : List (Text × ℕ) → List ℕ → Type 0
IsGiven given key = AnyByRecursion (λ (g : Text × ℕ). bytes_of g ≡ key) given

-- the map with each of the keys set
abbrev with_keys : KeyDigests → List (Text × ℕ) → KeyDigests
with_keys m [] = m
with_keys m (g ∷ gs) = with_keys (set bytes_order m (bytes_of g) []) gs

with_keys-more : (m : KeyDigests) (gs : List (Text × ℕ)) (g : Text × ℕ) → with_keys m (gs ++ g ∷ []) ≡ set bytes_order (with_keys m gs) (bytes_of g) []
with_keys-more m [] g = refl
with_keys-more m (h ∷ gs) g = with_keys-more (set bytes_order m (bytes_of h) []) gs g

set_has : (m : KeyDigests) (k d : List ℕ) → HasKey (set bytes_order m k d) k
set_has [] k d = inl refl
set_has (p ∷ ps) k d = by (bytes_order k p.0) refl (set_has ps k d)
  where
    by : (o : Ordering) → bytes_order k p.0 ≡ o → HasKey (set bytes_order ps k d) k → HasKey (match_ordering o ((k, d) ∷ p ∷ ps) ((p.0, d) ∷ ps) (p ∷ set bytes_order ps k d)) k
    by Less e h = inl refl
    by Equal e h = inl (sym (same_key k p.0 (ap is_eq e)))
    by Greater e h = inr h

-- a key that is there after one was set is that one, or was there
set_from : (m : KeyDigests) (k d j : List ℕ) → HasKey (set bytes_order m k d) j → (k ≡ j) ⊎ HasKey m j
set_from [] k d j (inl e) = inl e
set_from [] k d j (inr h) = inr h
set_from (p ∷ ps) k d j h = by (bytes_order k p.0) h (set_from ps k d j)
  where
    by : (o : Ordering) → HasKey (match_ordering o ((k, d) ∷ p ∷ ps) ((p.0, d) ∷ ps) (p ∷ set bytes_order ps k d)) j → (HasKey (set bytes_order ps k d) j → (k ≡ j) ⊎ HasKey ps j)
        → (k ≡ j) ⊎ HasKey (p ∷ ps) j
    by Less (inl e) more = inl e
    by Less (inr h) more = inr h
    by Equal (inl e) more = inr (inl e)
    by Equal (inr h) more = inr (inr h)
    by Greater (inl e) more = inr (inl e)
    by Greater (inr h) more = behind (more h)
      where
        behind : (k ≡ j) ⊎ HasKey ps j → (k ≡ j) ⊎ HasKey (p ∷ ps) j
        behind (inl e) = inl e
        behind (inr f) = inr (inr f)

keys_stay : (m : KeyDigests) (gs : List (Text × ℕ)) (j : List ℕ) → HasKey m j → HasKey (with_keys m gs) j
keys_stay m [] j h = h
keys_stay m (g ∷ gs) j h = keys_stay (set bytes_order m (bytes_of g) []) gs j (set_keeps m (bytes_of g) [] j h)

given_there : (m : KeyDigests) (gs : List (Text × ℕ)) (j : List ℕ) → IsGiven gs j → HasKey (with_keys m gs) j
given_there m [] j h = absurd h
given_there m (g ∷ gs) j (inl e) = keys_stay (set bytes_order m (bytes_of g) []) gs j (subst (HasKey (set bytes_order m (bytes_of g) [])) e (set_has m (bytes_of g) []))
given_there m (g ∷ gs) j (inr h) = given_there (set bytes_order m (bytes_of g) []) gs j h

there_given : (m : KeyDigests) (gs : List (Text × ℕ)) (j : List ℕ) → HasKey (with_keys m gs) j → HasKey m j ⊎ IsGiven gs j
there_given m [] j h = inl h
there_given m (g ∷ gs) j h = by (there_given (set bytes_order m (bytes_of g) []) gs j h)
  where
    first : (bytes_of g ≡ j) ⊎ HasKey m j → HasKey m j ⊎ IsGiven (g ∷ gs) j
    first (inl e) = inr (inl e)
    first (inr f) = inl f

    by : HasKey (set bytes_order m (bytes_of g) []) j ⊎ IsGiven gs j → HasKey m j ⊎ IsGiven (g ∷ gs) j
    by (inl f) = first (set_from m (bytes_of g) [] j f)
    by (inr f) = inr (inr f)

-- ---- maps with the same keys

abbrev keys_of : KeyDigests → List (List ℕ)
keys_of = map (λ p. p.0)

-- each key of the one is a key of the other
abbrev IsWithin : KeyDigests → KeyDigests → Type 0
IsWithin a b = (key : List ℕ) → HasKey a key → HasKey b key

below_key : (x : List ℕ) (ps : KeyDigests) (key : List ℕ) → AllByRecursion (λ p. Below bytes_order x p.0) ps → HasKey ps key → Below bytes_order x key
below_key x [] key a h = absurd h
below_key x (p ∷ ps) key a (inl e) = subst (Below bytes_order x) e a.0
below_key x (p ∷ ps) key a (inr h) = below_key x ps key a.1 h

same_first : (p q : List ℕ × List ℕ) (ps qs : KeyDigests) → IsMap bytes_order (p ∷ ps) → IsMap bytes_order (q ∷ qs) → HasKey (q ∷ qs) p.0 → HasKey (p ∷ ps) q.0 → p.0 ≡ q.0
same_first p q ps qs up down (inl e) k = sym e
same_first p q ps qs up down (inr h) (inl e) = e
same_first p q ps qs up down (inr h) (inr k) =
    absurd (not_low_self bytes_order nat_list_cmp_total p.0 (low_low bytes_order nat_list_cmp_total p.0 q.0 p.0 (below_key p.0 ps q.0 up.0 k) (below_key q.0 qs p.0 down.0 h)))

rest_within : (p q : List ℕ × List ℕ) (ps qs : KeyDigests) → p.0 ≡ q.0 → AllByRecursion (λ r. Below bytes_order p.0 r.0) ps → IsWithin (p ∷ ps) (q ∷ qs) → IsWithin ps qs
rest_within p q ps qs same up within key h = by (within key (inr h))
  where
    by : HasKey (q ∷ qs) key → HasKey qs key
    by (inr f) = f
    by (inl e) = absurd (not_low_self bytes_order nat_list_cmp_total p.0 (subst (Below bytes_order p.0) (sym e ∙ sym same) (below_key p.0 ps key up h)))

same_keys : (a b : KeyDigests) → IsMap bytes_order a → IsMap bytes_order b → IsWithin a b → IsWithin b a → keys_of a ≡ keys_of b
same_keys [] [] up down f g = refl
same_keys [] (q ∷ qs) up down f g = absurd (g q.0 (inl refl))
same_keys (p ∷ ps) [] up down f g = absurd (f p.0 (inl refl))
same_keys (p ∷ ps) (q ∷ qs) up down f g =
    let same : p.0 ≡ q.0 = same_first p q ps qs up down (f p.0 (inl refl)) (g q.0 (inl refl)) in
    let more : keys_of ps ≡ keys_of qs = same_keys ps qs up.1 down.1 (rest_within p q ps qs same up.0 f) (rest_within q p qs ps (sym same) down.0 g) in
    λ i. same i ∷ more i

-- ---- the gaps of maps with the same keys, while nothing is known

module _ (lev : List ℕ → ℕ) where
  under_keys : (top : ℕ) (a b : KeyDigests) → keys_of a ≡ keys_of b → AreUnder lev top a → AreUnder lev top b
  under_keys top a [] same h = tt
  under_keys top [] (q ∷ b) same h = absurd (let never = same in cc)
  under_keys top (p ∷ a) (q ∷ b) same h =
      let first : p.0 ≡ q.0 = cc in
      let rest : keys_of a ≡ keys_of b = cc in
      (subst (λ k. lev k < top) first h.0, under_keys top a b rest h.1)

  abbrev heads : KeyDigests → List Front
  heads ps = map (λ p. Some p.0) ps

  fronts_same : (l : ℕ) (a b : KeyDigests) → keys_of a ≡ keys_of b → heads (pairs_from lev a l) ≡ heads (pairs_from lev b l)
  fronts_same l [] [] same = refl
  fronts_same l [] (q ∷ b) same = absurd (let never = same in cc)
  fronts_same l (p ∷ a) [] same = absurd (let never = same in cc)
  fronts_same l (p ∷ a) (q ∷ b) same =
      let first : p.0 ≡ q.0 = cc in
      let rest : keys_of a ≡ keys_of b = cc in
      subst (λ t. heads (pairs_from lev (p ∷ a) l) ≡ heads (if t then (q ∷ pairs_from lev b l) else (pairs_from lev b l))) (ap (λ k. nat_le l (lev k)) first)
      (by (nat_le l (lev p.0)) first (fronts_same l a b rest))
    where
      by : (t : Bool) → p.0 ≡ q.0 → heads (pairs_from lev a l) ≡ heads (pairs_from lev b l)
          → heads (if t then (p ∷ pairs_from lev a l) else (pairs_from lev a l)) ≡ heads (if t then (q ∷ pairs_from lev b l) else (pairs_from lev b l))
      by true first more = λ i. Some (first i) ∷ more i
      by false first more = more

  holds_same : (a b : KeyDigests) (rows : List Row) → keys_of a ≡ keys_of b → IsMap bytes_order b → KnowsNothing rows → HoldsCells lev a rows → HoldsCells lev b rows
  holds_same a b rows same up unknown h = record {
    low = h.low;
    ascending = up;
    top = h.top;
    under = under_keys h.top a b same h.under;
    levels = λ l from upto. holds_bare lev b l rows (bare_from lev a l rows unknown.unknown (h.levels l from upto) ∙ ap (λ fs. map (bare l) (None ∷ fs)) (fronts_same l a b same));
    others = h.others;
  }

-- ---- keys that are added one after the other

-- the rows are the gaps of the map of the keys that were added
abbrev pub HoldsKeys : List (Text × ℕ) → List Row → Type 0
HoldsKeys seen rows = (lev : List ℕ → ℕ) → ((key : List ℕ) → lev key < 256) → AllByRecursion (λ (g : Text × ℕ). lev (bytes_of g) ≡ g.1) seen → HoldsCells lev (with_keys [] seen) rows

pub none_added : (rows : List Row) → HoldsNoKeys rows → HoldsKeys [] rows
none_added rows h lev low on = h lev low

pub one_added : (seen : List (Text × ℕ)) (g : Text × ℕ) (old new : List Row) → HoldsKeys seen old → KnowsNothing old → AddsKey g.1 (bytes_of g) old new → HoldsKeys (seen ++ g ∷ []) new
one_added seen g old new was unknown adds lev low on =
    let Is : Text × ℕ → Type 0 = λ h. lev (bytes_of h) ≡ h.1 in
    subst (λ ps. HoldsCells lev ps new) (sym (with_keys-more [] seen g))
    (adds unknown lev (with_keys [] seen) [] (was lev low (each-before Is seen (g ∷ []) on)) (each-at Is seen g [] on))

-- each map of the keys has them
pub all_loaded : (given : List (Text × ℕ)) (rows : List Row) → HoldsKeys given rows → KnowsNothing rows → LoadsKeys given rows
all_loaded given rows h unknown lev m low up has =
    let own = h lev low has.levels in
    holds_same lev (with_keys [] given) m rows (same_keys (with_keys [] given) m own.ascending up into (λ key k. given_there [] given key (only m key has.no_other k))) up unknown own
  where
    there : (gs : List (Text × ℕ)) (key : List ℕ) → AllByRecursion (λ (g : Text × ℕ). HasKey m (bytes_of g)) gs → IsGiven gs key → HasKey m key
    there [] key a k = absurd k
    there (g ∷ gs) key a (inl e) = subst (HasKey m) e a.0
    there (g ∷ gs) key a (inr k) = there gs key a.1 k

    into : (key : List ℕ) → HasKey (with_keys [] given) key → HasKey m key
    into key k = by (there_given [] given key k)
      where
        by : HasKey [] key ⊎ IsGiven given key → HasKey m key
        by (inl never) = absurd never
        by (inr f) = there given key has.all f

    only : (ps : KeyDigests) (key : List ℕ) → AllByRecursion (λ p. IsGiven given p.0) ps → HasKey ps key → IsGiven given key
    only [] key a k = absurd k
    only (p ∷ ps) key a (inl e) = subst (IsGiven given) e a.0
    only (p ∷ ps) key a (inr k) = only ps key a.1 k
