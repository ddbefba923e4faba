-- The fronts of a level in their order, and what the row of each tells.
use Rattle.std.proofs.Common.{◌≡◌, ℕ, Bool, true, false, not, if◌then◌else◌, List, [], ◌∷◌, ◌++◌, map, Some, None, refl, ap, ◌⊎◌, inl, inr, Ordering, Less, Equal, Greater, is_lt, is_gt}
use Rattle.std.specs.List.{AllByRecursion}
use Rattle.std.specs.Cmp.Lexicographic.{nat_list_cmp_total}
use Rattle.std.proofs.lemmas.Cmp.{tied_itself}
use Rattle.std.proofs.lemmas.Map.Text.{is_eq-slice_cmp}
use Rattle.key_order.specs.Order.{Below}
use Rattle.key_order.specs.Map.{IsMap, rows_at}
use Rattle.key_order.proofs.Bools.{which}
use Rattle.key_order.proofs.Orders.{not_both}
use Rattle.key_order.proofs.ListParts.{each-at}
use Rattle.sqlite_value.specs.Order.{Row}
use Rattle.sqlite_value.proofs.OrderLemmas.{value_cmp-Text}
use Rattle.sqlite_trees.specs.Tree.{IsAscending}
use Rattle.store_tree.specs.Cells.{bytes_order, KeyDigests, fronts_of}
use Rattle.store_tree.specs.Rows.{cell_row, count_value, front_value, known_value, is_upto}
use Rattle.store_tree.specs.Touches.{is_front}
use Rattle.store_tree.specs.declared.cell.Known.{Known}
use Rattle.store_tree.specs.declared.cell.Known.TheVariants.{Unknown, Nothing, Page}
use Rattle.store_tree.proofs.Fronts.{Front, first_below, FrontBelow, FrontUpto, FrontAbove, front_upto, own_front}

pub map_rows : (test : List ℕ → Bool) (ps : KeyDigests) → IsMap bytes_order ps → IsMap bytes_order (rows_at test ps)
map_rows test [] up = tt
map_rows test (p ∷ ps) up = by (which (test p.0)) (map_rows test ps up.1)
  where
    above : (qs : KeyDigests) → AllByRecursion (λ q. Below bytes_order p.0 q.0) qs → AllByRecursion (λ q. Below bytes_order p.0 q.0) (rows_at test qs)
    above [] a = tt
    above (q ∷ qs) a = one (test q.0) (above qs a.1)
      where
        one : (b : Bool) → AllByRecursion (λ r. Below bytes_order p.0 r.0) (rows_at test qs) → AllByRecursion (λ r. Below bytes_order p.0 r.0) (if b then (q ∷ rows_at test qs) else (rows_at test qs))
        one true f = (a.0, f)
        one false f = f

    by : (test p.0 ≡ false) ⊎ (test p.0 ≡ true) → IsMap bytes_order (rows_at test ps) → IsMap bytes_order (rows_at test (p ∷ ps))
    by (inl e) more = rw e more
    by (inr e) more = rw e (above ps up.0, more)

ascend : (ps : KeyDigests) → IsMap bytes_order ps → IsAscending FrontBelow (map (λ p. Some p.0) ps)
ascend [] up = tt
ascend (p ∷ ps) up = (over ps up.0, ascend ps up.1)
  where
    over : (qs : KeyDigests) → AllByRecursion (λ q. Below bytes_order p.0 q.0) qs → AllByRecursion (λ f. FrontBelow (Some p.0) f) (map (λ q. Some q.0) qs)
    over [] a = tt
    over (q ∷ qs) a = (a.0, over qs a.1)

pub fronts_ascend : (ps : KeyDigests) → IsMap bytes_order ps → IsAscending FrontBelow (fronts_of ps)
fronts_ascend ps up = (first ps, ascend ps up)
  where
    first : (qs : KeyDigests) → AllByRecursion (λ f. FrontBelow None f) (map (λ q. Some q.0) qs)
    first [] = tt
    first (q ∷ qs) = (tt, first qs)

pub middle : (R : Front → Front → Type 0) (xs : List Front) (x : Front) (ys : List Front) → IsAscending R (xs ++ x ∷ ys) → AllByRecursion (λ y. R y x) xs × AllByRecursion (R x) ys
middle R [] x ys up = (tt, up.0)
middle R (y ∷ xs) x ys up = let (a, b) = middle R xs x ys up.1 in ((each-at (R y) xs x ys up.0, a), b)

-- the last of a list, where its images end with one
pub record Last (r : Front → Row) (fs : List Front) (row : Row) : Type 0 where
  pub front : List Front
  pub last : Front
  pub is : fs ≡ front ++ last ∷ []
  pub at : r last ≡ row

pub last_of : (r : Front → Row) (fs : List Front) (before : List Row) (row : Row) → map r fs ≡ before ++ row ∷ [] → Last r fs row
last_of r [] [] row e = absurd (let never = e in cc)
last_of r [] (b ∷ before) row e = absurd (let never = e in cc)
last_of r (f ∷ []) [] row e = let same : r f ≡ row = cc in record { front = []; last = f; is = refl; at = same }
last_of r (f ∷ (g ∷ fs)) [] row e = absurd (let never : r g ∷ map r fs ≡ [] = cc in cc)
last_of r (f ∷ fs) (b ∷ before) row e =
    let rest : map r fs ≡ before ++ row ∷ [] = cc in
    let l = last_of r fs before row rest in
    record { front = f ∷ l.front; last = l.last; is = ap (λ gs. f ∷ gs) l.is; at = l.at }

pub upto_row : (key : List ℕ) (l : ℕ) (f : Front) (k : Known) → is_upto key (cell_row l f k) ≡ front_upto key f
upto_row key l None k = ap (λ o. not (is_gt o)) (first_below key)
upto_row key l (Some a) k = ap (λ o. not (is_gt o)) (value_cmp-Text a key)

pub passes_upto : (key : List ℕ) (f : Front) → front_upto key f ≡ true → FrontUpto key f
passes_upto key None h = tt
passes_upto key (Some a) h = by (bytes_order a key) h
  where
    by : (o : Ordering) → not (is_gt o) ≡ true → is_gt o ≡ false
    by Less h = refl
    by Equal h = refl
    by Greater h = absurd (let e = h in cc)

pub own_is : (key : List ℕ) (f : Front) → own_front key f ≡ (if is_front key f then [] else (Some key ∷ []))
own_is key None = refl
own_is key (Some a) = ap (λ b. if b then [] else (Some key ∷ [])) (is_eq-slice_cmp a key)

pub same_front : (f g : Front) → front_value f ≡ front_value g → f ≡ g
same_front None None e = refl
same_front None (Some b) e = absurd (let never = e in cc)
same_front (Some a) None e = absurd (let never = e in cc)
same_front (Some a) (Some b) e = let same : a ≡ b = cc in ap (λ k. Some k) same

pub same_known : (k j : Known) → known_value k ≡ known_value j → count_value k ≡ count_value j → k ≡ j
same_known Unknown Unknown e f = refl
same_known Unknown Nothing e f = absurd (let never = e in cc)
same_known Unknown (Page b n) e f = absurd (let never = e in cc)
same_known Nothing Unknown e f = absurd (let never = e in cc)
same_known Nothing Nothing e f = refl
same_known Nothing (Page b n) e f = absurd (let never = e in cc)
same_known (Page a m) Unknown e f = absurd (let never = e in cc)
same_known (Page a m) Nothing e f = absurd (let never = e in cc)
same_known (Page a m) (Page b n) e f = let digest : a ≡ b = cc in let count : m ≡ n = cc in λ i. Page (digest i) (count i)

pub unknown_known : (k : Known) → known_value k ≡ known_value Unknown → k ≡ Unknown
unknown_known Unknown e = refl
unknown_known Nothing e = absurd (let never = e in cc)
unknown_known (Page a m) e = absurd (let never = e in cc)

abbrev pub front_below : Front → Front → Bool
front_below g None = false
front_below None (Some b) = true
front_below (Some a) (Some b) = is_lt (bytes_order a b)

abbrev pub front_above : List ℕ → Front → Bool
front_above key None = false
front_above key (Some a) = is_lt (bytes_order key a)

pub below_true : (g f : Front) → FrontBelow g f → front_below g f ≡ true
below_true g None h = absurd h
below_true None (Some b) h = refl
below_true (Some a) (Some b) h = h

pub above_true : (key : List ℕ) (g : Front) → FrontAbove key g → front_above key g ≡ true
above_true key None h = absurd h
above_true key (Some a) h = h

pub not_less : (o : Ordering) → o ≡ Equal → is_lt o ≡ false
not_less Less e = absurd (let never = e in cc)
not_less Equal e = refl
not_less Greater e = absurd (let never = e in cc)

pub upto_not_above : (key : List ℕ) (f : Front) → FrontUpto key f → front_above key f ≡ false
upto_not_above key None u = refl
upto_not_above key (Some a) u = by (which (is_lt (bytes_order key a)))
  where
    by : (is_lt (bytes_order key a) ≡ false) ⊎ (is_lt (bytes_order key a) ≡ true) → is_lt (bytes_order key a) ≡ false
    by (inl e) = e
    by (inr e) = absurd (not_both bytes_order nat_list_cmp_total a key u e)

pub self_not_below : (f : Front) → front_below f f ≡ false
self_not_below None = refl
self_not_below (Some a) = not_less (bytes_order a a) (tied_itself nat_list_cmp_total a)
