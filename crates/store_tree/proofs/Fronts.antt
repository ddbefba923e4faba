-- Where a key stands among the fronts of a level.
use Rattle.std.proofs.Common.{◌≡◌, ℕ, Bool, true, false, not, if◌then◌else◌, List, [], ◌∷◌, ◌++◌, map, filter, Option, Some, None, refl, sym, ap, subst, ◌∙◌, Ordering, Less, Equal, Greater, is_eq, is_lt, is_gt, pos, arith}
use Rattle.std.specs.Prelude.{⊤}
use Rattle.std.specs.List.{AllByRecursion}
use Rattle.std.specs.Ordering.{match_ordering}
use Rattle.std.specs.Cmp.Lexicographic.{nat_list_cmp_total}
use Rattle.std.proofs.lemmas.Cmp.{tied_itself}
use Rattle.key_order.specs.Order.{Below, Upto}
use Rattle.key_order.specs.Map.{IsMap, set}
use Rattle.key_order.proofs.Orders.{turned, low_low, not_both, low_is_up, not_low_self}
use Rattle.sqlite_value.specs.declared.value.Value.TheVariants.{Int, Text}
use Rattle.sqlite_value.specs.Order.{value_cmp}
use Rattle.sqlite_value.proofs.OrderLemmas.{value_cmp-apart}
use Rattle.store_tree.specs.Cells.{bytes_order, KeyDigests, fronts_of}
use Rattle.store_tree.proofs.Sets.{same_key}

abbrev pub Front : Type 0
Front = Option (List ℕ)

-- the 0 of the first gap is below each key
pub first_below : (key : List ℕ) → value_cmp (Int (pos 0)) (Text key) ≡ Less
first_below key = value_cmp-apart (Int (pos 0)) (Text key) (λ same. omega (arith, same))

-- one front is below another: the front of the map below every key
abbrev pub FrontBelow : Front → Front → Type 0
FrontBelow f None = ⊥
FrontBelow None (Some b) = ⊤
FrontBelow (Some a) (Some b) = Below bytes_order a b

-- a front is at most a key
abbrev pub FrontUpto : List ℕ → Front → Type 0
FrontUpto key None = ⊤
FrontUpto key (Some a) = Upto bytes_order a key

-- a front is above a key
abbrev pub FrontAbove : List ℕ → Front → Type 0
FrontAbove key None = ⊥
FrontAbove key (Some a) = Below bytes_order key a

-- whether a front is at most a key
abbrev pub front_upto : List ℕ → Front → Bool
front_upto key None = true
front_upto key (Some a) = not (is_gt (bytes_order a key))

-- a gap of its own above the key, unless the front is the key
abbrev pub own_front : List ℕ → Front → List Front
own_front key None = Some key ∷ []
own_front key (Some a) = if is_eq (bytes_order a key) then [] else (Some key ∷ [])

module _ {X : Type 0} where
  -- the first of a list that is split, and the rest
  pub data Begins (x : X) (xs : List X) (f : X) : List X → List X → Type 0 where
    at_once : (back : List X) → f ≡ x → back ≡ xs → Begins x xs f [] back
    later : (b : X) (bs back : List X) → b ≡ x → xs ≡ bs ++ f ∷ back → Begins x xs f (b ∷ bs) back

  pub begins : (x : X) (xs : List X) (f : X) (bs back : List X) → x ∷ xs ≡ bs ++ f ∷ back → Begins x xs f bs back
  begins x xs f [] back e =
      let head : f ≡ x = cc in
      let tail : back ≡ xs = cc in
      at_once back head tail
  begins x xs f (b ∷ bs) back e =
      let head : b ≡ x = cc in
      let tail : xs ≡ bs ++ f ∷ back = cc in
      later b bs back head tail

-- keys above one are above all that are below it
above_all : (x y : List ℕ) (ps : KeyDigests) → Below bytes_order x y → AllByRecursion (λ p. Below bytes_order y p.0) ps → AllByRecursion (λ f. FrontAbove x f) (map (λ p. Some p.0) ps)
above_all x y [] h a = tt
above_all x y (p ∷ ps) h a = (low_low bytes_order nat_list_cmp_total x y p.0 h a.0, above_all x y ps h a.1)

above_one : (y : List ℕ) (ps : KeyDigests) → AllByRecursion (λ p. Below bytes_order y p.0) ps → AllByRecursion (λ f. FrontAbove y f) (map (λ p. Some p.0) ps)
above_one y [] a = tt
above_one y (p ∷ ps) a = (a.0, above_one y ps a.1)

none_upto : (key : List ℕ) (fs : List Front) → AllByRecursion (λ f. FrontAbove key f) fs → filter (front_upto key) fs ≡ []
none_upto key [] a = refl
none_upto key (None ∷ fs) a = absurd a.0
none_upto key (Some x ∷ fs) a = rw (out (bytes_order x key) (sym (turned bytes_order nat_list_cmp_total x key) ∙ a.0)) (none_upto key fs a.1)
  where
    out : (o : Ordering) → is_gt o ≡ true → not (is_gt o) ≡ false
    out Less h = absurd (let e = h in cc)
    out Equal h = absurd (let e = h in cc)
    out Greater h = refl

-- those of the pairs that are at most a key come first, and the others are above it
pub record Splits (key : List ℕ) (fs : List Front) : Type 0 where
  pub back : List Front
  pub is : fs ≡ filter (front_upto key) fs ++ back
  pub above : AllByRecursion (λ f. FrontAbove key f) back

rest_splits : (key : List ℕ) (ps : KeyDigests) → IsMap bytes_order ps → Splits key (map (λ p. Some p.0) ps)
rest_splits key [] up = record { back = []; is = refl; above = tt }
rest_splits key (p ∷ ps) up = by (bytes_order p.0 key) refl (rest_splits key ps up.1)
  where
    by : (o : Ordering) → bytes_order p.0 key ≡ o → Splits key (map (λ q. Some q.0) ps) → Splits key (Some p.0 ∷ map (λ q. Some q.0) ps)
    by Less e s = record { back = s.back; is = rw e (ap (λ fs. Some p.0 ∷ fs) s.is); above = s.above }
    by Equal e s = record { back = s.back; is = rw e (ap (λ fs. Some p.0 ∷ fs) s.is); above = s.above }
    by Greater e s =
        let low : Below bytes_order key p.0 = turned bytes_order nat_list_cmp_total p.0 key ∙ ap is_gt e in
        let all : AllByRecursion (λ f. FrontAbove key f) (Some p.0 ∷ map (λ q. Some q.0) ps) = (low, above_all key p.0 ps low up.0) in
        record { back = Some p.0 ∷ map (λ q. Some q.0) ps; is = ap (λ fs. fs ++ Some p.0 ∷ map (λ q. Some q.0) ps) (sym (none_upto key (Some p.0 ∷ map (λ q. Some q.0) ps) all)); above = all }

pub fronts_split : (key : List ℕ) (ps : KeyDigests) → IsMap bytes_order ps → Splits key (fronts_of ps)
fronts_split key ps up = let s = rest_splits key ps up in record { back = s.back; is = ap (λ fs. None ∷ fs) s.is; above = s.above }

-- ---- a key is set

-- a front that is at most a key and above it is none
not_upto_above : (key : List ℕ) (f : Front) → FrontUpto key f → FrontAbove key f → ⊥
not_upto_above key None u a = a
not_upto_above key (Some x) u a = not_both bytes_order nat_list_cmp_total x key u a

each_last : (P : Front → Type 0) (bs : List Front) (f : Front) → AllByRecursion P (bs ++ f ∷ []) → P f
each_last P [] f a = a.0
each_last P (b ∷ bs) f a = each_last P bs f a.1

first_of_all : (P : Front → Type 0) (bs : List Front) (f : Front) (x : Front) (xs : List Front) → AllByRecursion P (bs ++ f ∷ []) → (back : List Front) → x ∷ xs ≡ bs ++ f ∷ back → P x
first_of_all P [] f x xs a back e = let same : f ≡ x = cc in subst P same a.0
first_of_all P (b ∷ bs) f x xs a back e = let same : b ≡ x = cc in subst P same a.0

-- where a list of fronts that are all above a key is split, its first part is empty
nothing_before : (key : List ℕ) (xs : List Front) (bs : List Front) (f : Front) (back : List Front) → AllByRecursion (λ g. FrontAbove key g) xs → AllByRecursion (λ g. FrontUpto key g) (bs ++ f ∷ [])
    → xs ≡ bs ++ f ∷ back → ⊥
nothing_before key [] [] f back a u e = absurd (let never = e in cc)
nothing_before key [] (b ∷ bs) f back a u e = absurd (let never = e in cc)
nothing_before key (x ∷ xs) bs f back a u e = not_upto_above key x (first_of_all (λ g. FrontUpto key g) bs f x xs u back e) a.0

module _ (key d : List ℕ) where
  abbrev after_set : Front → List Front → List Front → List Front
  after_set f bs back = bs ++ f ∷ (own_front key f ++ back)

  not_own : (f : Front) → FrontBelow f (Some key) → own_front key f ≡ Some key ∷ []
  not_own None h = refl
  not_own (Some a) h = by (bytes_order a key) h
    where
      by : (o : Ordering) → is_lt o ≡ true → (if is_eq o then [] else (Some key ∷ [])) ≡ Some key ∷ []
      by Less h = refl
      by Equal h = absurd (let e = h in cc)
      by Greater h = absurd (let e = h in cc)

  put_front : (ps : KeyDigests) → IsMap bytes_order ps → (x : Front) → FrontBelow x (Some key) → (bs : List Front) (f : Front) (back : List Front) → x ∷ map (λ p. Some p.0) ps ≡ bs ++ f ∷ back
      → AllByRecursion (λ g. FrontUpto key g) (bs ++ f ∷ []) → AllByRecursion (λ g. FrontAbove key g) back
      → x ∷ map (λ p. Some p.0) (set bytes_order ps key d) ≡ after_set f bs back
  put_front [] up x low bs f back e u a = by bs (begins x [] f bs back e)
    where
      by : (bs : List Front) → Begins x [] f bs back → x ∷ Some key ∷ [] ≡ after_set f bs back
      by [] (at_once _ same rest) = rw same (rw rest (rw (not_own x low) refl))
      by (b ∷ bs) (later _ _ _ same rest) = absurd (none bs rest)
        where
          none : (bs : List Front) → [] ≡ bs ++ f ∷ back → ⊥
          none [] h = absurd (let never = h in cc)
          none (c ∷ bs) h = absurd (let never = h in cc)
  put_front (p ∷ ps) up x low bs f back e u a =
      by (bytes_order key p.0) refl bs u (begins x (Some p.0 ∷ map (λ q. Some q.0) ps) f bs back e) (λ under cs rest v. put_front ps up.1 (Some p.0) under cs f back rest v a)
    where
      tail : List Front
      tail = map (λ q. Some q.0) ps

      Later : Type 0
      Later = Below bytes_order p.0 key → (cs : List Front) → Some p.0 ∷ tail ≡ cs ++ f ∷ back → AllByRecursion (λ g. FrontUpto key g) (cs ++ f ∷ [])
          → Some p.0 ∷ map (λ q. Some q.0) (set bytes_order ps key d) ≡ after_set f cs back

      by : (o : Ordering) → bytes_order key p.0 ≡ o → (bs : List Front) → AllByRecursion (λ g. FrontUpto key g) (bs ++ f ∷ []) → Begins x (Some p.0 ∷ tail) f bs back → Later
          → x ∷ map (λ q. Some q.0) (match_ordering o ((key, d) ∷ p ∷ ps) ((p.0, d) ∷ ps) (p ∷ set bytes_order ps key d)) ≡ after_set f bs back
      by Less h [] v (at_once _ same rest) more = rw same (rw rest (rw (not_own x low) refl))
      by Less h (b ∷ bs) v (later _ _ _ same rest) more =
          let under : Below bytes_order key p.0 = ap is_lt h in
          absurd (nothing_before key (Some p.0 ∷ tail) bs f back (under, above_all key p.0 ps under up.0) v.1 rest)
      by Equal h [] v (at_once _ same rest) more =
          let one : key ≡ p.0 = same_key key p.0 (ap is_eq h) in
          let high : FrontAbove key (Some p.0) = each_first (subst (λ fs. AllByRecursion (λ g. FrontAbove key g) fs) rest a) in
          absurd (not_low_self bytes_order nat_list_cmp_total key (subst (λ k. Below bytes_order key k) (sym one) high))
        where
          each_first : AllByRecursion (λ g. FrontAbove key g) (Some p.0 ∷ tail) → FrontAbove key (Some p.0)
          each_first all = all.0
      by Equal h (b ∷ bs) v (later _ _ _ same rest) more =
          let one : key ≡ p.0 = same_key key p.0 (ap is_eq h) in
          let high : AllByRecursion (λ g. FrontAbove key g) tail = subst (λ k. AllByRecursion (λ g. FrontAbove k g) tail) (sym one) (above_one p.0 ps up.0) in
          rw same (here bs v.1 high one (begins (Some p.0) tail f bs back rest))
        where
          here : (bs : List Front) → AllByRecursion (λ g. FrontUpto key g) (bs ++ f ∷ []) → AllByRecursion (λ g. FrontAbove key g) tail → key ≡ p.0 → Begins (Some p.0) tail f bs back
              → x ∷ Some p.0 ∷ tail ≡ x ∷ (bs ++ f ∷ (own_front key f ++ back))
          here [] w high one (at_once _ is left) = rw is (rw left (rw (own one) refl))
            where
              own : key ≡ p.0 → own_front key (Some p.0) ≡ []
              own one = rw (subst (λ k. is_eq (bytes_order k key) ≡ true) one (ap is_eq (tied_itself nat_list_cmp_total key))) refl
          here (c ∷ bs) w high one (later _ _ _ is left) = absurd (nothing_before key tail bs f back high w.1 left)
      by Greater h bs v s more = greater bs v s more
        where
          greater : (bs : List Front) → AllByRecursion (λ g. FrontUpto key g) (bs ++ f ∷ []) → Begins x (Some p.0 ∷ tail) f bs back → Later
              → x ∷ Some p.0 ∷ map (λ q. Some q.0) (set bytes_order ps key d) ≡ after_set f bs back
          greater [] v (at_once _ same rest) more =
              let under : Below bytes_order p.0 key = turned bytes_order nat_list_cmp_total key p.0 ∙ ap is_gt h in
              let high : AllByRecursion (λ g. FrontAbove key g) (Some p.0 ∷ tail) = subst (λ fs. AllByRecursion (λ g. FrontAbove key g) fs) rest a in
              absurd (not_both bytes_order nat_list_cmp_total p.0 key (low_is_up bytes_order nat_list_cmp_total p.0 key under) high.0)
          greater (b ∷ bs) v (later _ _ _ same rest) more =
              let under : Below bytes_order p.0 key = turned bytes_order nat_list_cmp_total key p.0 ∙ ap is_gt h in
              rw same (ap (λ fs. x ∷ fs) (more under bs rest v.1))

  -- where the fronts of a map are split at a key, setting it adds a front there, unless there is one
  pub fronts_set : (ps : KeyDigests) → IsMap bytes_order ps → (bs : List Front) (f : Front) (back : List Front) → fronts_of ps ≡ bs ++ f ∷ back
      → AllByRecursion (λ g. FrontUpto key g) (bs ++ f ∷ []) → AllByRecursion (λ g. FrontAbove key g) back → fronts_of (set bytes_order ps key d) ≡ bs ++ f ∷ (own_front key f ++ back)
  fronts_set ps up bs f back e u a = put_front ps up None tt bs f back e u a
