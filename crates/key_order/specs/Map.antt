-- A map is a list of pairs of key and value, strictly ascending by key.
use Rattle.std.specs.Prelude.{Bool, false, not, cond, ◌||◌, List, [], ◌∷◌, ⊤, Option, Some, None}
use Rattle.std.specs.List.{AllByRecursion, filter}
use Rattle.std.specs.declared.cmp.Ordering.{Ordering}
use Rattle.std.specs.Ordering.{is_eq, match_ordering}
use Rattle.key_order.specs.Order.{Below, Same}
use Rattle.key_order.specs.Interval.{Span, is_covered}

-- both absent, or both there and related
abbrev pub SameValue : {X : Type 0} → (X → X → Type 0) → Option X → Option X → Type 0
SameValue R None None = ⊤
SameValue R None (Some b) = ⊥
SameValue R (Some a) None = ⊥
SameValue R (Some a) (Some b) = R a b

-- a value is there
abbrev pub IsPresent : {X : Type 0} → Option X → Type 0
IsPresent None = ⊥
IsPresent (Some a) = ⊤

-- the last key of the pairs after a pair with the key k
abbrev pub last_key : {K X : Type 0} → K → List (K × X) → K
last_key k [] = k
last_key k (p ∷ ps) = last_key p.0 ps

-- the pairs whose key passes the test
abbrev pub rows_at : {K X : Type 0} → (K → Bool) → List (K × X) → List (K × X)
rows_at test = filter (λ r. test r.0)

module _ {K X : Type 0} (cmp : K → K → Ordering) where
  -- strictly ascending by key
  abbrev pub IsMap : List (K × X) → Type 0
  IsMap [] = ⊤
  IsMap (r ∷ rs) = AllByRecursion (λ s. Below cmp r.0 s.0) rs × IsMap rs

  -- the value at the key k
  abbrev pub get : List (K × X) → K → Option X
  get [] k = None
  get (r ∷ rs) k = cond (is_eq (cmp r.0 k)) (Some r.1) (get rs k)

  -- whether there is a key equal to k
  abbrev pub has_key : List (K × X) → K → Bool
  has_key [] k = false
  has_key (r ∷ rs) k = is_eq (cmp k r.0) || has_key rs k

  -- the map with the value at k set to v; where an equal key is there, that key stays
  abbrev pub set : List (K × X) → K → X → List (K × X)
  set [] k v = (k, v) ∷ []
  set (r ∷ rs) k v = match_ordering (cmp k r.0) ((k, v) ∷ r ∷ rs) ((r.0, v) ∷ rs) (r ∷ set rs k v)

  -- the map without the pair whose key is equal to k
  abbrev pub del : List (K × X) → K → List (K × X)
  del m k = filter (λ r. not (is_eq (cmp k r.0))) m

  -- the pair whose key is equal to k
  abbrev pub entry : List (K × X) → K → Option (K × X)
  entry [] k = None
  entry (r ∷ rs) k = cond (is_eq (cmp k r.0)) (Some r) (entry rs k)

  -- equal keys and related values, place by place
  abbrev pub SameMap : (X → X → Type 0) → List (K × X) → List (K × X) → Type 0
  SameMap R [] [] = ⊤
  SameMap R [] (s ∷ ss) = ⊥
  SameMap R (r ∷ rs) [] = ⊥
  SameMap R (r ∷ rs) (s ∷ ss) = Same cmp r.0 s.0 × R r.1 s.1 × SameMap R rs ss

  -- the pairs whose key is in one of the spans
  abbrev pub rows_in : List (Span K) → List (K × X) → List (K × X)
  rows_in spans = rows_at (λ k. is_covered cmp k spans)
