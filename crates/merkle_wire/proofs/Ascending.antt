-- Keys that ascend within a gap, one key after the other.
use Rattle.std.proofs.Common.{◌≡◌, ℕ, ◌+◌, ◌<◌, ◌≤◌, List, [], ◌∷◌, ◌++◌, length, take, get_or, map, Option, Some, ap, sym, subst, ◌∙◌, append_assoc, append-nil}
use Rattle.std.proofs.lemmas.List.{take_all}
use Rattle.std.specs.Cmp.{IsTotalOrder}
use Rattle.std.specs.List.{AllByRecursion}
use Rattle.std.specs.declared.cmp.Ordering.{Ordering}
use Rattle.key_order.specs.Order.{Below}
use Rattle.key_order.specs.Map.{IsMap}
use Rattle.key_order.proofs.Orders.{low_low}
use Rattle.merkle_tree_theory.specs.Gap.{Gap, IsAfter, IsBefore}
use Rattle.merkle_wire.specs.Coming.{AscendBetween, AscendIn}
use Rattle.merkle_wire.proofs.ItemsMore.{map_more}

module _ {X K : Type 0} (cmp : K → K → Ordering) (key : X → K) (g : Gap K) where
  -- keys that ascend from a bound on go on with the first ones
  abbrev pub GoOnFrom : Option K → List X → Type 0
  GoOnFrom after first = (ks : List K) → AscendBetween cmp after g.before ks → AscendIn cmp g (map key first ++ ks)

  pub go_on-more : (after : Option K) (xs : List X) (i : ℕ) (x : X) → i < length xs → x ≡ get_or xs i x → GoOnFrom after (take i xs)
      → IsAfter cmp after (key x) → IsBefore cmp g.before (key x) → GoOnFrom (Some (key x)) (take (i + 1) xs)
  go_on-more after xs i x low is so a b ks up =
      subst (AscendIn cmp g) (sym (ap (λ t. t ++ ks) (map_more key xs i x low is) ∙ append_assoc (map key (take i xs)) (key x ∷ []) ks)) (so (key x ∷ ks) (a, b, up))

  pub go_on-all : (after : Option K) (xs : List X) (i : ℕ) → length xs ≤ i → GoOnFrom after (take i xs) → AscendIn cmp g (map key xs)
  go_on-all after xs i all so = subst (AscendIn cmp g) (append-nil (map key (take i xs)) ∙ ap (map key) (take_all i xs all)) (so [] tt)

module _ {K V : Type 0} (cmp : K → K → Ordering) (o : IsTotalOrder cmp) where
  all_above : (k : K) (before : Option K) (rows : List (K × V)) → AscendBetween cmp (Some k) before (map (λ r. r.0) rows) → AllByRecursion (λ r. Below cmp k r.0) rows
  all_above k before [] up = tt
  all_above k before (r ∷ rows) up = (up.0, up_from r.0 rows (all_above r.0 before rows up.2) up.0)
    where
      up_from : (j : K) (rs : List (K × V)) → AllByRecursion (λ s. Below cmp j s.0) rs → Below cmp k j → AllByRecursion (λ s. Below cmp k s.0) rs
      up_from j [] a l = tt
      up_from j (s ∷ rs) a l = (low_low cmp o k j s.0 l a.0, up_from j rs a.1 l)

  -- rows whose keys ascend between bounds are a map
  pub between-map : (after before : Option K) (rows : List (K × V)) → AscendBetween cmp after before (map (λ r. r.0) rows) → IsMap cmp rows
  between-map after before [] up = tt
  between-map after before (r ∷ rows) up = (all_above r.0 before rows up.2, between-map (Some r.0) before rows up.2)
