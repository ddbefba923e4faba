-- Keys that don't ascend within a gap.
use Rattle.std.proofs.Common.{◌≡◌, ℕ, ◌+◌, ◌<◌, List, [], ◌∷◌, length, drop, get_or, map, Option, Some, None, ap, sym, subst, ◌∙◌}
use Rattle.std.specs.List.{AllZip}
use Rattle.std.proofs.lemmas.List.{drop_more}
use Rattle.std.specs.Cmp.{IsTotalOrder, tied_itself}
use Rattle.std.specs.declared.cmp.Ordering.{Ordering}
use Rattle.key_order.specs.Order.{Same}
use Rattle.key_order.proofs.Orders.{below-same}
use Rattle.merkle_search_tree.proofs.SameItems.{same_gap-own}
use Rattle.merkle_tree_theory.specs.Gap.{Gap, IsAfter, IsBefore, SameBound, SameGap}
use Rattle.merkle_wire.specs.Coming.{AscendBetween, AscendIn}

module _ {X K : Type 0} (cmp : K → K → Ordering) (key : X → K) (g : Gap K) where
  -- where all keys ascend within the gap, those after the first ones ascend after a bound
  abbrev pub GoOnBehind : Option K → List X → List X → Type 0
  GoOnBehind after all behind = AscendIn cmp g (map key all) → AscendBetween cmp after g.before (map key behind)

  next_behind : (after : Option K) (xs : List X) (i : ℕ) (x : X) → i < length xs → x ≡ get_or xs i x → GoOnBehind after xs (drop i xs) → AscendIn cmp g (map key xs)
      → AscendBetween cmp after g.before (map key (x ∷ drop (i + 1) xs))
  next_behind after xs i x low is so up = subst (λ t. AscendBetween cmp after g.before (map key t)) (drop_more xs i x low ∙ ap (λ z. z ∷ drop (i + 1) xs) (sym is)) (so up)

  pub go_on_behind : (after : Option K) (xs : List X) (i : ℕ) (x : X) → i < length xs → x ≡ get_or xs i x → GoOnBehind after xs (drop i xs) → GoOnBehind (Some (key x)) xs (drop (i + 1) xs)
  go_on_behind after xs i x low is so up = (next_behind after xs i x low is so up).2

  pub not_between : (after : Option K) (xs : List X) (i : ℕ) (x : X) → i < length xs → x ≡ get_or xs i x → GoOnBehind after xs (drop i xs)
      → ¬ (IsAfter cmp after (key x) × IsBefore cmp g.before (key x))
      → ¬ AscendIn cmp g (map key xs)
  not_between after xs i x low is so not up = let next = next_behind after xs i x low is so up in not (next.0, next.1)

module _ {K : Type 0} (cmp : K → K → Ordering) (o : IsTotalOrder cmp) where
  after-same : (a b : Option K) (j k : K) → SameBound cmp a b → Same cmp j k → IsAfter cmp a j → IsAfter cmp b k
  after-same None None j k s e l = tt
  after-same None (Some b) j k s e l = absurd s
  after-same (Some a) None j k s e l = absurd s
  after-same (Some a) (Some b) j k s e l = below-same cmp o a b j k s e l

  before-same : (a b : Option K) (j k : K) → SameBound cmp a b → Same cmp j k → IsBefore cmp a j → IsBefore cmp b k
  before-same None None j k s e l = tt
  before-same None (Some b) j k s e l = absurd s
  before-same (Some a) None j k s e l = absurd s
  before-same (Some a) (Some b) j k s e l = below-same cmp o j k a b e s l

  pub ascend_between-same : (a b c d : Option K) (js ks : List K) → SameBound cmp a b → SameBound cmp c d → AllZip (Same cmp) js ks → AscendBetween cmp a c js → AscendBetween cmp b d ks
  ascend_between-same a b c d [] [] s t e up = tt
  ascend_between-same a b c d [] (k ∷ ks) s t e up = absurd e
  ascend_between-same a b c d (j ∷ js) [] s t e up = absurd e
  ascend_between-same a b c d (j ∷ js) (k ∷ ks) s t e up = (after-same a b j k s e.0 up.0, before-same c d j k t e.0 up.1, ascend_between-same (Some j) (Some k) c d js ks e.0 t e.1 up.2)

  -- keys ascend within a gap where equal keys do
  pub ascend-same : (g : Gap K) (js ks : List K) → AllZip (Same cmp) js ks → AscendIn cmp g js → AscendIn cmp g ks
  ascend-same g js ks = let own = same_gap-own cmp o g in ascend_between-same g.after g.after g.before g.before js ks own.0 own.1

  pub own_keys : (ks : List K) → AllZip (Same cmp) ks ks
  own_keys [] = tt
  own_keys (k ∷ ks) = (tied_itself o k, own_keys ks)

  -- and within one with equal bounds
  pub ascend-alike : (g h : Gap K) (ks : List K) → SameGap cmp g h → AscendIn cmp g ks → AscendIn cmp h ks
  ascend-alike g h ks s = ascend_between-same g.after h.after g.before h.before ks ks s.0 s.1 (own_keys ks)
